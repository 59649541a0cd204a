-- An answer to a list, and how it is made of its numbers. Assumes nothing.
use Rattle.std.specs.Prelude.{ℕ, Result, Ok, Err}
use Rattle.rows.specs.declared.answer.TypeNameError.{TypeNameError}
use Rattle.type_list.specs.declared.answer.ListAccepted.{ListAccepted}
use Rattle.type_list.specs.declared.answer.ListRefused.{ListRefused}

-- All parts are accepted, or one is refused.
abbrev pub ListAnswer : Type 0
ListAnswer = Result ListAccepted ListRefused

-- How many parts and nodes there are, and the steps that were taken.
abbrev pub list_accepts : (parts nodes steps : ℕ) → ListAnswer
list_accepts parts nodes steps = Ok (record { parts = parts; nodes = nodes; steps = steps })

-- A refusal with the steps that were taken, and the part that is refused.
abbrev pub list_refusal : TypeNameError → (steps part : ℕ) → ListRefused
list_refusal e steps part = record { error = e; steps = steps; part = part }

abbrev pub list_refuses : TypeNameError → (steps part : ℕ) → ListAnswer
list_refuses e steps part = Err (list_refusal e steps part)

-- "65,535 before any": the part of a refusal that is given before there are parts.
abbrev pub no_part : ℕ
no_part = 65535

-- A refusal before there are parts: no step was taken.
abbrev pub list_unread : TypeNameError → ListRefused
list_unread e = list_refusal e 0 no_part
