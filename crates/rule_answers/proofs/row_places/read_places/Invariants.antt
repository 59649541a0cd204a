-- `read_places` meets its contract. The loop's invariant: the tokens so far stand in front of the arrays. Assumes nothing.
use Prim.Native.Nat.{◌-◌}
use lib.ListN.{length}
use Rattle.rule_answers.specs.Laws.RowPlaces.{PlacesLoop}
use Rattle.rule_answers.proofs.row_places.read_places.Given as goal

abbrev pub invariant-loop-at : goal.invariant-loop-at
invariant-loop-at l = PlacesLoop l.file l.initial.kinds l.initial.places l.kinds l.places l.at l.count

abbrev pub decreases-loop-at : goal.decreases-loop-at
decreases-loop-at l = length l.file - l.at
