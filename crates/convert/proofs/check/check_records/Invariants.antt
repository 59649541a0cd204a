-- `check_records` meets its contract. The loop's invariant: the records that are left decide, with what was counted before. Assumes nothing.
use Prim.Native.Nat.{◌-◌}
use lib.ListN.{length}
use Rattle.convert.specs.Laws.CheckLoop.{CheckLoop}
use Rattle.convert.proofs.check.check_records.Given as goal

abbrev pub invariant-loop-at : goal.invariant-loop-at
invariant-loop-at l = CheckLoop l.format l.file l.at l.count l.narrow

abbrev pub decreases-loop-at : goal.decreases-loop-at
decreases-loop-at l = length l.file - l.at
