-- `validate_c_decl_specifiers` meets its contract: what is left of the nodes decides. Assumes nothing.
use Prim.Native.Nat.{◌-◌}
use Rattle.type_nodes.specs.Laws.SpecifierLoop.{SpecifierLoop}
use Rattle.type_nodes.proofs.specifiers.validate_c_decl_specifiers.Given as goal

abbrev pub invariant-loop-seen : goal.invariant-loop-seen
invariant-loop-seen l = SpecifierLoop l.language l.tree l.kinds l.words l.from l.to l.seen l.none l.single l.flags l.before l.at

abbrev pub decreases-loop-seen : goal.decreases-loop-seen
decreases-loop-seen l = l.to - l.at
