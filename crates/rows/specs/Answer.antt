-- An answer, and how it is made of its numbers: "accepted: node count, steps" and "refused: number, token, detail, steps".
-- Assumes nothing.
use Rattle.std.specs.Prelude.{ℕ, Result, Ok, Err}
use Rattle.rows.specs.declared.answer.Accepted.{Accepted}
use Rattle.rows.specs.declared.answer.Refused.{Refused}
use Rattle.rows.specs.declared.answer.TypeNameError.{TypeNameError}

-- An answer: a tree of so many nodes was read in so many steps, or the row is refused after so many.
abbrev pub Answer : Type 0
Answer = Result Accepted Refused

-- "Accepted: node count, steps".
abbrev pub accepted_with : (nodes steps : ℕ) → Answer
accepted_with nodes steps = Ok (record { nodes = nodes; steps = steps })

-- A refusal with the steps that were taken.
abbrev pub refusal : TypeNameError → (steps : ℕ) → Refused
refusal e steps = record { error = e; steps = steps }

-- "Refused: .. steps".
abbrev pub refused_with : TypeNameError → (steps : ℕ) → Answer
refused_with e steps = Err (refusal e steps)

-- A refusal before a row is read: no step was taken.
abbrev pub unread : TypeNameError → Refused
unread e = refusal e 0
