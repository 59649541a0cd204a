-- The calls one after the other: document 02, C-11: "one a call, by earlier, then later place".
-- Assumes nothing.
use Rattle.rule_answers.specs.OverlapAnswer.{overlaps, no_further, OverlapAnswer}
use Rattle.std.specs.Prelude.{ℕ, ◌≤◌, ◌<◌, ◌^◌, List, [], ◌∷◌, length, Err, None, Ok, Some}
use Rattle.rules.specs.Rules.{Rule}
use Rattle.rules.specs.Overlaps.{longest_shown, FirstAfter, NoneAfter, Places}
use Rattle.rule_answers.specs.OverlapAnswers.{OverlapTold}

-- The next pair or that there is none, and no refusal.
abbrev pub NextPair : List Rule → (e l : ℕ) → OverlapAnswer → Type 0
NextPair rs e l (Ok (Some o)) = FirstAfter rs e l o.earlier o.later
NextPair rs e l (Ok None) = NoneAfter rs e l
NextPair rs e l (Err error) = ⊥

-- "one a call": what the calls report, each handed the pair before and any buffer that is long enough, from (e, l) until there is no further pair.
pub data Calls (rules : List ℕ) : (e l : ℕ) → List Places → Type 0 where
  ends : {e l : ℕ} {before after : List ℕ} → OverlapTold rules e l before no_further after → Calls rules e l []
  goes : {e l i j bytes : ℕ} {before after : List ℕ} {ps : List Places} → OverlapTold rules e l before (overlaps i j bytes) after → Calls rules i j ps
      → Calls rules e l (record { earlier = i; later = j } ∷ ps)

-- Every call of this table, with two numbers of 32 bits and a lent buffer that has room for every sequence, is answered as the contract says.
pub record CallsAnswered (rules : List ℕ) : Type 0 where
  pub lent : (e l : ℕ) → List ℕ
  pub room : (e l : ℕ) → longest_shown ≤ length (lent e l)
  pub answer : (e l : ℕ) → OverlapAnswer
  pub final : (e l : ℕ) → List ℕ
  pub told : (e l : ℕ) → e < 2 ^ 32 → l < 2 ^ 32 → OverlapTold rules e l (lent e l) (answer e l) (final e l)
