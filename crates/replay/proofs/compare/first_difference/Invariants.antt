-- `first_difference` meets its contract. Assumes nothing.
use Rattle.replay.specs.Laws.Comparing.{Comparing}
use Rattle.replay.proofs.compare.first_difference.Given as goal

abbrev pub invariant-loop-at : goal.invariant-loop-at
invariant-loop-at l = Comparing l.expected l.given l.at
