-- An answer to a match, and how it is made of its numbers. Assumes nothing.
use Rattle.std.specs.Prelude.{ℕ, Result, Ok, Err}
use Rattle.rows.specs.Answer.{refusal}
use Rattle.rows.specs.declared.answer.Refused.{Refused}
use Rattle.rows.specs.declared.answer.TypeNameError.{TypeNameError}
use Rattle.rule_answers.specs.declared.matching.Matched.{Matched}

-- A rule wins, or the file, the table or the match is refused.
abbrev pub MatchAnswer : Type 0
MatchAnswer = Result Matched Refused

-- The tree's nodes, the steps, and the place of the rule that wins.
abbrev pub matches_with : (nodes steps place : ℕ) → MatchAnswer
matches_with nodes steps place = Ok (record { nodes = nodes; steps = steps; place = place })

-- A refusal with the steps that were taken.
abbrev pub match_refuses : TypeNameError → (steps : ℕ) → MatchAnswer
match_refuses e steps = Err (refusal e steps)
