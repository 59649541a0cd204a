-- `rules_meet` meets its contract. The loop's invariant: the items left decide. Assumes nothing.
use Prim.Native.Nat.{◌-◌}
use Rattle.rules.specs.Laws.Meeting.{MeetLoop}
use Rattle.rules.proofs.overlaps.rules_meet.Given as goal

abbrev pub invariant-loop-first : goal.invariant-loop-first
invariant-loop-first l = MeetLoop l.table l.first l.first_end l.second l.second_end l.x l.y

abbrev pub decreases-loop-first : goal.decreases-loop-first
decreases-loop-first l = l.first_end - l.x
