-- `parse_named` meets its contract. The loop's invariant: code and buffer are the definition's state before token `at`. Assumes nothing.
use Prim.Native.Nat.{◌-◌}
use lib.ListN.{length}
use Rattle.named_reader.specs.Laws.RowLoop.{Loop}
use Rattle.named_reader.proofs.parse.parse_named.Given as goal

abbrev pub invariant-loop-at : goal.invariant-loop-at
invariant-loop-at l = Loop l.kinds l.named l.allowance l.initial.tree l.tree l.reader l.at

abbrev pub decreases-loop-at : goal.decreases-loop-at
decreases-loop-at l = length l.kinds - l.at
