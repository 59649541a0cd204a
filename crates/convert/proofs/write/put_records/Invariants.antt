-- `put_records` meets its contract. The loop's invariant: what is written and the records that are left make all of them. Assumes nothing.
use Prim.Native.Nat.{◌-◌}
use lib.ListN.{length}
use Rattle.convert.specs.Laws.WriteLoop.{WriteLoop}
use Rattle.convert.proofs.write.put_records.Given as goal

abbrev pub invariant-loop-at : goal.invariant-loop-at
invariant-loop-at l = WriteLoop l.from l.to l.file l.initial.output l.at l.output

abbrev pub decreases-loop-at : goal.decreases-loop-at
decreases-loop-at l = length l.file - l.at
