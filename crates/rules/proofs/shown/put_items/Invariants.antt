-- `put_items` meets its contract. The loop's invariant: the items so far stand in the buffer. Assumes nothing.
use Prim.Native.Nat.{◌-◌}
use Rattle.rules.specs.Laws.Showing.{PutLoop}
use Rattle.rules.proofs.shown.put_items.Given as goal

abbrev pub invariant-loop-output : goal.invariant-loop-output
invariant-loop-output l = PutLoop l.table l.initial.output l.end l.item l.output l.x

abbrev pub decreases-loop-output : goal.decreases-loop-output
decreases-loop-output l = l.end - l.x
