-- `count_arguments` meets its contract. The loop's invariant: what is left of the list decides. Assumes nothing.
use Prim.Native.Nat.{◌-◌}
use Rattle.outer.specs.Laws.Walk.{CountLoop}
use Rattle.outer.proofs.arguments.count_arguments.Given as goal

abbrev pub invariant-loop-at : goal.invariant-loop-at
invariant-loop-at l = CountLoop l.tree l.end l.at l.found

abbrev pub decreases-loop-at : goal.decreases-loop-at
decreases-loop-at l = l.end - l.at
