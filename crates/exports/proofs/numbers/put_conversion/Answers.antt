-- `put_conversion` meets its contract. Assumes nothing.
use mathlib.Core.Path.{refl}
use Rattle.convert.specs.AnswerNumbers.{convert_numbers, convert_code}
use Rattle.exports.proofs.numbers.put_conversion.Goals as goal

pub returns-in-Ok-clause-returned : goal.returns-in-Ok-clause-returned
unfolding convert_numbers convert_code
returns-in-Ok-clause-returned c = rw c.in-Ok.is refl

pub returns-in-Ok-clause-written : goal.returns-in-Ok-clause-written
unfolding convert_numbers convert_code
returns-in-Ok-clause-written c = rw c.in-Ok.is (c.put_front.ensures)

pub returns-in-Err-clause-returned : goal.returns-in-Err-clause-returned
unfolding convert_numbers convert_code
returns-in-Err-clause-returned c = rw c.in-Err.is (rw c.from.ensures at c.put_answer.ensures.returned)

pub returns-in-Err-clause-written : goal.returns-in-Err-clause-written
unfolding convert_numbers convert_code
returns-in-Err-clause-written c = rw c.in-Err.is (rw c.from.ensures at c.put_answer.ensures.written)
