-- The answers of rules as numbers.
-- Assumes nothing.
use Rattle.rule_answers.specs.OverlapAnswer.{OverlapAnswer}
use Rattle.rule_answers.specs.MatchAnswer.{MatchAnswer}
use Rattle.rows.specs.Answer.{refused_with}
use Rattle.std.specs.Prelude.{ℕ, List, [], ◌∷◌, Err, None, Ok, Some}
use Rattle.type_name.specs.AnswerNumbers.{answer_numbers, answer_code}

-- The winner "is reported by place from 0", behind node count and steps; a refusal as ever.
unfoldable pub match_numbers : MatchAnswer → List ℕ
unfolding answer_numbers
match_numbers (Ok m) = 0 ∷ m.nodes ∷ m.steps ∷ m.place ∷ []
match_numbers (Err r) = answer_numbers (refused_with r.error r.steps)

-- 0 if a rule wins, else the refusal's number.
unfoldable pub match_code : MatchAnswer → ℕ
unfolding answer_code
match_code (Ok m) = 0
match_code (Err r) = answer_code (refused_with r.error r.steps)

-- A pair "by earlier, then later place", and how many bytes are shown; zeros if there is no further pair; a refusal as ever, without steps.
unfoldable pub overlap_numbers : OverlapAnswer → List ℕ
unfolding answer_numbers
overlap_numbers (Ok (Some o)) = 0 ∷ o.earlier ∷ o.later ∷ o.bytes ∷ []
overlap_numbers (Ok None) = 0 ∷ 0 ∷ 0 ∷ 0 ∷ []
overlap_numbers (Err e) = answer_numbers (refused_with e 0)

-- 0, or the refusal's number.
unfoldable pub overlap_code : OverlapAnswer → ℕ
unfolding answer_code
overlap_code (Ok (Some o)) = 0
overlap_code (Ok None) = 0
overlap_code (Err e) = answer_code (refused_with e 0)
