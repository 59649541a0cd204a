-- Which numbers the refusals of the file and of its records have.
-- Assumes nothing.
use Rattle.std.specs.Prelude.{ℕ, not, ◌&&◌, List, length, get_or, T, leb, ltb, Option, Some, None, Result, Ok, Err}
use Rattle.rows.specs.Format.{at_language, at_standard, meant}
use Rattle.rows.specs.declared.format.Format.{Format}
use Rattle.rows.specs.Records.{Tokens, malformed, tokens, Row, row, refused, head, head_formed, head_with, tokens_from, to_end, records_from}
use Rattle.rows.specs.Refusals.{refusal_of}
use Rattle.rows.specs.Laws.Tests.{by_if}
use Rattle.rows.specs.declared.answer.TypeNameError.{TypeNameError}
use Rattle.rows.specs.declared.head.Head.{Head}

-- The refusal's number lies between two numbers.
abbrev pub Between : (low high : ℕ) → TypeNameError → Type 0
Between low high e = T (leb low (refusal_of e).number && leb (refusal_of e).number high)

abbrev pub HeadNumbered : Result Head TypeNameError → Type 0
HeadNumbered (Ok h) = Unit {0}
HeadNumbered (Err e) = Between 1 3 e

abbrev pub RowNumbered : Row → Type 0
RowNumbered (row ts) = Unit {0}
RowNumbered (refused e) = Between 4 5 e

module _ (f : Format) (file : List ℕ) where
  with_numbered : (m : Option ℕ) → HeadNumbered (head_with f file m)
  unfolding head_with
  with_numbered None = tt
  with_numbered (Some s) = tt

  -- Refusals 1 to 3.
  pub head_numbered : HeadNumbered (head f file)
  unfolding head
  head_numbered =
      by_if HeadNumbered (ltb f.file_limit (length file)) (λ _. tt) λ _.
      by_if HeadNumbered (not (head_formed f file)) (λ _. tt) λ _. with_numbered (meant f (get_or file at_language 0) (get_or file at_standard 0))

  end_numbered : (r : Tokens) → RowNumbered (to_end f file r)
  unfolding to_end
  end_numbered (malformed offset) = tt
  end_numbered (tokens ts next) = by_if RowNumbered (leb (length file) next) (λ _. tt) (λ _. tt)

  -- Refusals 4 and 5.
  pub records_numbered : (most at : ℕ) → RowNumbered (records_from f file most at)
  unfolding records_from
  records_numbered most at = end_numbered (tokens_from f file most at)
