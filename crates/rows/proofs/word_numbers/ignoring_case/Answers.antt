-- `ignoring_case` meets its contract. Assumes nothing.
use borrow.Author.Tests.{lt-ltb, le-ltb}
use Rattle.rows.specs.Words.{ignoring_case}
use Rattle.rows.proofs.word_numbers.ignoring_case.Goals as goal

pub returns-then-number-lt-OTHER_CASE : goal.returns-then-number-lt-OTHER_CASE
unfolding ignoring_case
returns-then-number-lt-OTHER_CASE c = rw (lt-ltb _ _ c.if-number-lt-OTHER_CASE.true)

pub returns : goal.returns
unfolding ignoring_case
returns c = rw (le-ltb _ _ c.if-number-lt-OTHER_CASE.false)
