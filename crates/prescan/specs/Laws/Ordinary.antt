-- A token of an ordinary kind, of which `is_ordinary` tells: no bracket, angle or comma, and no end of a row.
-- Assumes nothing.
use Rattle.std.specs.Prelude.{ℕ, ◌≡◌, ◌≢◌, Bool, true, false, not, List, [], ◌∷◌, eqb}
use Rattle.std.proofs.Common.{sym, ap, ◌∙◌, true≢false, eq-eqb, ne_eqb}
use Rattle.rows.specs.Notation.{◌is_one_of◌}
use Rattle.rows.specs.Kinds.{Identifier, LeftParen, RightParen, LeftBracket, RightBracket, Comma, Less, Greater, ShiftRight, End, NoToken}
use Rattle.rows.specs.Laws.Tests.{or_false}

-- ---- a chain of tests that ends where one holds

module _ (k n : ℕ) (ns : List ℕ) where
  pub met : k ≡ n → false ≡ not (k is_one_of (n ∷ ns))
  unfolding ◌is_one_of◌
  met e = rw (eq-eqb k n e)

  pub not_met : (k ≡ n → ⊥) → {r : Bool} → r ≡ not (k is_one_of ns) → r ≡ not (k is_one_of (n ∷ ns))
  unfolding ◌is_one_of◌
  not_met f h = rw (ne_eqb k n f) h

pub last_test : (k n : ℕ) → not (eqb k n) ≡ not (k is_one_of (n ∷ []))
unfolding ◌is_one_of◌
last_test k n = ap not (sym (or_false (eqb k n)))

-- ---- what it tells

abbrev pub no_ordinary_kinds : List ℕ
no_ordinary_kinds = LeftParen ∷ LeftBracket ∷ RightParen ∷ RightBracket ∷ Less ∷ Greater ∷ ShiftRight ∷ Comma ∷ End ∷ NoToken ∷ []

pub record Ordinary (k : ℕ) : Type 0 where
  pub apart : (n : ℕ) → (n is_one_of no_ordinary_kinds) ≡ true → k ≢ n

-- What the test says of the kind that it was told.
pub ordinary_so : {k k' : ℕ} {r : Bool} → k ≡ k' → r ≡ not (k is_one_of no_ordinary_kinds) → r ≡ true → Ordinary k'
ordinary_so {k} {k'} ke h t = record {
  apart = λ n m e. true≢false (sym t ∙ h ∙ ap (λ (j : ℕ). not (j is_one_of no_ordinary_kinds)) (ke ∙ e) ∙ ap not m);
}

pub identifier_ordinary : {k : ℕ} → k ≡ Identifier → Ordinary k
unfolding ◌is_one_of◌
identifier_ordinary i = record { apart = λ n m e. true≢false (sym m ∙ ap (λ (j : ℕ). j is_one_of no_ordinary_kinds) (sym e ∙ i)) }
