-- The answer to a conversion as numbers: document 01, "Answer record".
-- Assumes nothing.
use Rattle.rows.specs.Answer.{refused_with}
use Rattle.rows.specs.declared.answer.TypeNameError.{TypeNameError}
use Rattle.std.specs.Prelude.{ℕ, List, [], ◌∷◌, Err, Ok, Result}
use Rattle.type_name.specs.AnswerNumbers.{answer_numbers, answer_code}

-- The converted file's bytes between zeros; a refusal as ever, without steps.
unfoldable pub convert_numbers : Result ℕ TypeNameError → List ℕ
unfolding answer_numbers
convert_numbers (Ok bytes) = 0 ∷ bytes ∷ 0 ∷ 0 ∷ []
convert_numbers (Err e) = answer_numbers (refused_with e 0)

-- 0 if converted, else the refusal's "number".
unfoldable pub convert_code : Result ℕ TypeNameError → ℕ
unfolding answer_code
convert_code (Ok bytes) = 0
convert_code (Err e) = answer_code (refused_with e 0)
