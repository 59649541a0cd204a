-- The answer to a list of types as numbers.
-- Assumes nothing.
use Rattle.type_list.specs.ListAnswer.{ListAnswer}
use Rattle.std.specs.Prelude.{ℕ, List, [], ◌∷◌, Err, Ok}
use Rattle.rows.specs.Refusals.{refusal_of}

-- The numbers of an answer to one type name, and behind them "parts", or of a refusal "its part".
unfoldable pub list_numbers : ListAnswer → List ℕ
list_numbers (Ok a) = 0 ∷ a.nodes ∷ a.steps ∷ 0 ∷ a.parts ∷ []
list_numbers (Err r) = (refusal_of r.error).number ∷ (refusal_of r.error).token ∷ (refusal_of r.error).detail ∷ r.steps ∷ r.part ∷ []

-- 0 if accepted, else the refusal's "number".
unfoldable pub list_code : ListAnswer → ℕ
list_code (Ok a) = 0
list_code (Err r) = (refusal_of r.error).number
