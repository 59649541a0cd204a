-- `put_match` meets its contract. Assumes nothing.
use mathlib.Core.Path.{refl}
use Rattle.rule_answers.specs.AnswerNumbers.{match_numbers, match_code}
use Rattle.exports.proofs.numbers.put_match.Goals as goal

pub returns-in-Ok-clause-returned : goal.returns-in-Ok-clause-returned
unfolding match_numbers match_code
returns-in-Ok-clause-returned c = rw c.in-Ok.is refl

pub returns-in-Ok-clause-written : goal.returns-in-Ok-clause-written
unfolding match_numbers match_code
returns-in-Ok-clause-written c = rw c.in-Ok.is (c.put_front.ensures)

pub returns-in-Err-clause-returned : goal.returns-in-Err-clause-returned
unfolding match_numbers match_code
returns-in-Err-clause-returned c = rw c.in-Err.is (c.put_answer.ensures.returned)

pub returns-in-Err-clause-written : goal.returns-in-Err-clause-written
unfolding match_numbers match_code
returns-in-Err-clause-written c = rw c.in-Err.is (c.put_answer.ensures.written)
