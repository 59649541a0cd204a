-- `read_table` meets its contract. The loop's invariant: the rules so far stand there. Assumes nothing.
use Prim.Native.Nat.{◌-◌}
use lib.ListN.{length}
use Rattle.rules.specs.Laws.Tables.{TableLoop}
use Rattle.rules.proofs.table.read_table.Given as goal

abbrev pub invariant-loop-at : goal.invariant-loop-at
invariant-loop-at l = TableLoop l.table (length l.initial.starts) l.starts l.at l.count

abbrev pub decreases-loop-at : goal.decreases-loop-at
decreases-loop-at l = length l.table - l.at
