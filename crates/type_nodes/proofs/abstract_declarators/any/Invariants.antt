-- `any` meets its contract. Assumes nothing.
use Prim.Native.Nat.{◌-◌}
use Rattle.type_nodes.specs.Laws.Found.{AnyLoop}
use Rattle.type_nodes.proofs.abstract_declarators.any.Given as goal

abbrev pub invariant-loop-at : goal.invariant-loop-at
invariant-loop-at l = AnyLoop l.tree l.kinds l.wanted l.from l.to l.at

abbrev pub decreases-loop-at : goal.decreases-loop-at
decreases-loop-at l = l.to - l.at
