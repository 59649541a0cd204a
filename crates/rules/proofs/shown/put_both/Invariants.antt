-- `put_both` meets its contract. The loop's invariant: the items so far stand in the buffer. Assumes nothing.
use Prim.Native.Nat.{◌-◌}
use Rattle.rules.specs.Laws.Showing.{ShowLoop}
use Rattle.rules.proofs.shown.put_both.Given as goal

abbrev pub invariant-loop-item : goal.invariant-loop-item
invariant-loop-item l = ShowLoop l.table l.initial.output l.first l.first_end l.second l.second_end l.output l.x l.y

abbrev pub decreases-loop-item : goal.decreases-loop-item
decreases-loop-item l = l.first_end - l.x
