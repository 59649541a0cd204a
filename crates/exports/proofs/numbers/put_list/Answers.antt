-- `put_list` meets its contract. Assumes nothing.
use mathlib.Core.Path.{refl}
use Rattle.type_list.specs.AnswerNumbers.{list_numbers, list_code}
use Rattle.exports.proofs.numbers.put_list.Goals as goal

pub returns-in-Ok-clause-returned : goal.returns-in-Ok-clause-returned
unfolding list_numbers list_code
returns-in-Ok-clause-returned c = rw c.in-Ok.is refl

pub returns-in-Ok-clause-written : goal.returns-in-Ok-clause-written
unfolding list_numbers list_code
returns-in-Ok-clause-written c = rw c.in-Ok.is (c.put_front.ensures)

pub returns-in-Err-clause-returned : goal.returns-in-Err-clause-returned
unfolding list_numbers list_code
returns-in-Err-clause-returned c = rw (c.in-Err.is, c.refusal_of-refusal.ensures) refl

pub returns-in-Err-clause-written : goal.returns-in-Err-clause-written
unfolding list_numbers list_code
returns-in-Err-clause-written c = rw (c.in-Err.is, ← c.refusal_of-refusal.ensures) (c.put_front-in-Err.ensures)
