-- `agree` meets its contract. Assumes nothing.
use Rattle.replay.specs.Laws.Comparing.{agree_so, agree_not}
use Rattle.replay.proofs.compare.agree.Goals as goal

pub returns-then-at-expected : goal.returns-then-at-expected
returns-then-at-expected c = agree_so _ _ _ c.first_difference-at.ensures.value c.if-at-expected.true

pub returns : goal.returns
returns c = agree_not _ _ _ c.first_difference-at.ensures.value c.if-at-expected.false
