-- An answer as numbers: document 01, "Answer record".
-- Assumes nothing.
use Rattle.rows.specs.Answer.{Answer}
use Rattle.std.specs.Prelude.{ℕ, List, [], ◌∷◌, Err, Ok}
use Rattle.rows.specs.Refusals.{refusal_of}

-- "Accepted: node count, steps" between two zeros; "Refused: number, token, detail, steps".
unfoldable pub answer_numbers : Answer → List ℕ
answer_numbers (Ok a) = 0 ∷ a.nodes ∷ a.steps ∷ 0 ∷ []
answer_numbers (Err r) = (refusal_of r.error).number ∷ (refusal_of r.error).token ∷ (refusal_of r.error).detail ∷ r.steps ∷ []

-- 0 if accepted, else the refusal's "number".
unfoldable pub answer_code : Answer → ℕ
answer_code (Ok a) = 0
answer_code (Err r) = (refusal_of r.error).number
