-- `number_at` meets its contract. Assumes nothing.
use Rattle.replay.specs.Laws.Comparing.{number_stored, number_behind}
use Rattle.replay.proofs.numbers.number_at.Goals as goal

pub returns-then-i-count : goal.returns-then-i-count
returns-then-i-count c = number_stored _ _ _ _ _ c.if-i-count.true c.four_bytes.ensures.value

pub returns : goal.returns
returns c = number_behind _ _ _ _ c.if-i-count.false
