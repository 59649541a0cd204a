-- `element_end` meets its contract. Assumes nothing.
use Prim.Native.Nat.{◌-◌}
use Rattle.type_nodes.specs.Laws.Elements.{ElementLoop}
use Rattle.type_nodes.proofs.split_on_commas.element_end.Given as goal

abbrev pub invariant-loop-at : goal.invariant-loop-at
invariant-loop-at l = ElementLoop l.tree l.kinds l.from l.to l.at

abbrev pub decreases-loop-at : goal.decreases-loop-at
decreases-loop-at l = l.to - l.at
