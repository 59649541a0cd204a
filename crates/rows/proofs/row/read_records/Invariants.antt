-- `read_records` meets its contract. The loop's invariant: the tokens so far stand in front of the arrays. Assumes nothing.
use Prim.Native.Nat.{◌-◌}
use lib.ListN.{length}
use Rattle.rows.specs.Laws.RowLoop.{RowLoop}
use Rattle.rows.proofs.row.read_records.Given as goal

abbrev pub invariant-loop-at : goal.invariant-loop-at
invariant-loop-at l = RowLoop l.format l.file l.begin l.most l.initial.kinds l.initial.words l.initial.places l.kinds l.words l.places l.at l.count

abbrev pub decreases-loop-at : goal.decreases-loop-at
decreases-loop-at l = length l.file - l.at
