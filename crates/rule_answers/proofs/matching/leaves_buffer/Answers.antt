-- `leaves_buffer` meets its contract. Assumes nothing.
use mathlib.Core.Path.{refl}
use Rattle.rule_answers.proofs.matching.leaves_buffer.Goals as goal

pub returns : goal.returns
returns c = rw c.refusal_of-refusal.ensures refl
