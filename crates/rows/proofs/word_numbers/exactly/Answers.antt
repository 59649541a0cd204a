-- `exactly` meets its contract. Assumes nothing.
use borrow.Author.Tests.{lt-ltb, le-ltb}
use Rattle.rows.specs.Words.{exactly}
use Rattle.rows.proofs.word_numbers.exactly.Goals as goal

pub returns-then-number-lt-OTHER_CASE : goal.returns-then-number-lt-OTHER_CASE
unfolding exactly
returns-then-number-lt-OTHER_CASE c = rw (lt-ltb _ _ c.if-number-lt-OTHER_CASE.true)

pub returns : goal.returns
unfolding exactly
returns c = rw (le-ltb _ _ c.if-number-lt-OTHER_CASE.false)
