-- Computed examples of this crate's definitions, so that a wrong edit of one is refused here.
-- Assumes nothing.
use Rattle.rows.specs.Answer.{accepted_with, refused_with}
use Rattle.std.specs.Prelude.{◌≡◌, refl, [], ◌∷◌}
use Rattle.rows.specs.declared.answer.TypeNameError.TheVariants.{InvalidRecord, UnclosedAngle}
use Rattle.type_name.specs.AnswerNumbers.{answer_numbers}
use Rattle.exports.specs.Numbers.{put_front}

-- Accepted with 10 nodes after 8 steps; refusal 4 of a record at byte offset 23; refusal 16 that names token 1.
accepted : put_front (answer_numbers (accepted_with 10 8)) (7 ∷ 7 ∷ 7 ∷ 7 ∷ 7 ∷ []) ≡ 0 ∷ 10 ∷ 8 ∷ 0 ∷ 7 ∷ []
unfolding put_front answer_numbers
accepted = refl

malformed : put_front (answer_numbers (refused_with (InvalidRecord 23) 0)) (7 ∷ 7 ∷ 7 ∷ 7 ∷ []) ≡ 4 ∷ 65535 ∷ 23 ∷ 0 ∷ []
unfolding put_front answer_numbers
malformed = refl

-- An array of two numbers gets the first two.
two : put_front (answer_numbers (refused_with (UnclosedAngle 1) 0)) (7 ∷ 7 ∷ []) ≡ 16 ∷ 1 ∷ []
unfolding put_front answer_numbers
two = refl
