-- An answer to a search for an overlap, and how it is made of its numbers. Assumes nothing.
use Rattle.std.specs.Prelude.{ℕ, Option, Some, None, Result, Ok, Err}
use Rattle.rows.specs.declared.answer.TypeNameError.{TypeNameError}
use Rattle.rule_answers.specs.declared.overlap.Overlap.{Overlap}

-- A pair of rules that overlap, or none further; or the table or the buffer is refused.
abbrev pub OverlapAnswer : Type 0
OverlapAnswer = Result (Option Overlap) TypeNameError

-- The places of two rules, and how many bytes of a sequence that both match are shown.
abbrev pub overlaps : (earlier later bytes : ℕ) → OverlapAnswer
overlaps earlier later bytes = Ok (Some (record { earlier = earlier; later = later; bytes = bytes }))

-- No pair comes after that handed in.
abbrev pub no_further : OverlapAnswer
no_further = Ok None

abbrev pub overlap_refuses : TypeNameError → OverlapAnswer
overlap_refuses e = Err e
