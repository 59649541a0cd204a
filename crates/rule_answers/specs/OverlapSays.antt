-- What the contract below the entry of overlaps says.
-- Assumes nothing.
use Rattle.rule_answers.specs.OverlapAnswer.{overlaps, overlap_refuses, OverlapAnswer}
use Rattle.std.specs.Prelude.{ℕ, ◌≡◌, List, length, if◌then◌else◌}
use Rattle.rows.specs.declared.answer.TypeNameError.TheVariants.{ShortBuffer}
use Rattle.text.specs.Text.{fits, handed}
use Rattle.rules.specs.Rules.{Rule}
use Rattle.rule_answers.specs.OverlapAnswers.{shown_bytes}

-- The pair (i, j) with its output, or refusal 6.
abbrev pub pair_answer : (i j : ℕ) (output before : List ℕ) → OverlapAnswer
pair_answer i j output before = if fits output before then overlaps i j (length output) else overlap_refuses ShortBuffer

-- `show_pair`: of the rules at places i and j.
pub record PairShown (rs : List Rule) (i j : ℕ) (before : List ℕ) (r : OverlapAnswer) (after : List ℕ) : Type 0 where
  pub answered : r ≡ pair_answer i j (shown_bytes rs i j) before
  pub shows : after ≡ handed (shown_bytes rs i j) before
