-- `put_overlap` meets its contract. Assumes nothing.
use mathlib.Core.Path.{refl}
use Rattle.rule_answers.specs.AnswerNumbers.{overlap_numbers, overlap_code}
use Rattle.exports.proofs.numbers.put_overlap.Goals as goal

pub returns-in-Ok-Some-clause-returned : goal.returns-in-Ok-Some-clause-returned
unfolding overlap_numbers overlap_code
returns-in-Ok-Some-clause-returned c = rw (c.in-Ok-Some.is, rw c.in-Ok-Some.is at c.in-Ok-Some.field-0-is) refl

pub returns-in-Ok-Some-clause-written : goal.returns-in-Ok-Some-clause-written
unfolding overlap_numbers overlap_code
returns-in-Ok-Some-clause-written c = rw (c.in-Ok-Some.is, rw c.in-Ok-Some.is at c.in-Ok-Some.field-0-is) (c.put_front.ensures)

pub returns-in-Ok-None-clause-returned : goal.returns-in-Ok-None-clause-returned
unfolding overlap_numbers overlap_code
returns-in-Ok-None-clause-returned c = rw (c.in-Ok-None.is, rw c.in-Ok-None.is at c.in-Ok-None.field-0-is) refl

pub returns-in-Ok-None-clause-written : goal.returns-in-Ok-None-clause-written
unfolding overlap_numbers overlap_code
returns-in-Ok-None-clause-written c = rw (c.in-Ok-None.is, rw c.in-Ok-None.is at c.in-Ok-None.field-0-is) (c.put_front-in-Ok-None.ensures)

pub returns-in-Err-clause-returned : goal.returns-in-Err-clause-returned
unfolding overlap_numbers overlap_code
returns-in-Err-clause-returned c = rw c.in-Err.is (rw c.from.ensures at c.put_answer.ensures.returned)

pub returns-in-Err-clause-written : goal.returns-in-Err-clause-written
unfolding overlap_numbers overlap_code
returns-in-Err-clause-written c = rw c.in-Err.is (rw c.from.ensures at c.put_answer.ensures.written)
