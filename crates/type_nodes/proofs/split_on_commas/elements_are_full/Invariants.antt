-- `elements_are_full` meets its contract. The loop's invariant: what is left of the parts decides. Assumes nothing.
use Prim.Native.Nat.{◌-◌}
use Rattle.type_nodes.specs.Laws.Commas.{CommaLoop}
use Rattle.type_nodes.proofs.split_on_commas.elements_are_full.Given as goal

abbrev pub invariant-loop-at : goal.invariant-loop-at
invariant-loop-at l = CommaLoop l.tree l.kinds l.from l.to l.some l.at

abbrev pub decreases-loop-at : goal.decreases-loop-at
decreases-loop-at l = l.to - l.at
