-- `items_fill` meets its contract. The loop's invariant: the items left decide. Assumes nothing.
use Prim.Native.Nat.{◌-◌}
use Rattle.rules.specs.Laws.Tables.{FillLoop}
use Rattle.rules.proofs.table.items_fill.Given as goal

abbrev pub invariant-loop-at : goal.invariant-loop-at
invariant-loop-at l = FillLoop l.table l.end l.begin l.at l.count

abbrev pub decreases-loop-at : goal.decreases-loop-at
decreases-loop-at l = l.end - l.at
