-- Lists of numbers that all pass a test, as to be below a bound, which is computed. Assumes nothing.
use Rattle.std.specs.Prelude.{ℕ, ◌≤◌, ◌<◌, ◌≡◌, refl, Bool, true, false, ◌&&◌, List, [], ◌∷◌, ltb, eqb}
use Rattle.std.proofs.Common.{sym, ap, ◌∙◌, true≢false, arith}
use borrow.Author.Tests.{ltb-true, eqb-true}
use Rattle.rows.specs.Notation.{◌is_one_of◌}
use Rattle.std.proofs.lemmas.Bool.{and_parts}

-- A test that all of a list pass.
unfoldable pub all_pass : (test : ℕ → Bool) → List ℕ → Bool
all_pass test [] = true
all_pass test (w ∷ ws) = test w && all_pass test ws

-- What stands in the list passes it.
pub one_passes : (test : ℕ → Bool) (w : ℕ) (ws : List ℕ) → all_pass test ws ≡ true → (w is_one_of ws) ≡ true → test w ≡ true
unfolding all_pass ◌is_one_of◌
one_passes test w [] a h = absurd (true≢false (sym h))
one_passes test w (v ∷ ws) a h =
    elim (eqb w v) as (λ t. eqb w v ≡ t → test w ≡ true) [
      | true ↦ λ e. ap test (eqb-true w v e) ∙ (and_parts (test v) (all_pass test ws) a).0
      | false ↦ λ e. one_passes test w ws (and_parts (test v) (all_pass test ws) a).1 (rw e at h)
    ] refl

unfoldable pub all_below : (bound : ℕ) → List ℕ → Bool
all_below b [] = true
all_below b (n ∷ ns) = ltb n b && all_below b ns

module _ (b n : ℕ) (ns : List ℕ) (h : all_below b (n ∷ ns) ≡ true) where
  pub first_below : n < b
  unfolding all_below
  first_below = ltb-true n b (and_parts (ltb n b) (all_below b ns) h).0

  pub others_below : all_below b ns ≡ true
  unfolding all_below
  others_below = (and_parts (ltb n b) (all_below b ns) h).1

-- What stands in the list is below the bound.
pub one_below : (b k : ℕ) (ns : List ℕ) → all_below b ns ≡ true → (k is_one_of ns) ≡ true → k < b
unfolding ◌is_one_of◌
one_below b k [] a h = absurd (true≢false (sym h))
one_below b k (n ∷ ns) a h =
    elim (eqb k n) as (λ t. eqb k n ≡ t → k < b) [
      | true ↦ λ e. omega (arith, eqb-true k n e, first_below b n ns a)
      | false ↦ λ e. one_below b k ns (others_below b n ns a) (rw e at h)
    ] refl

-- So a number from the bound on does not.
pub none_from : (b k : ℕ) (ns : List ℕ) → all_below b ns ≡ true → b ≤ k → (k is_one_of ns) ≡ false
none_from b k ns a p =
    elim (k is_one_of ns) as (λ t. (k is_one_of ns) ≡ t → t ≡ false) [
      | true ↦ λ e. absurd (omega (arith, one_below b k ns a e))
      | false ↦ λ e. refl
    ] refl
