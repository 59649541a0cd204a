-- A chain of tests, as code writes it, is the test of a list. Assumes nothing.
use Rattle.std.specs.Prelude.{ℕ, ◌≡◌, refl, Bool, false, ◌||◌, eqb}
use Rattle.std.proofs.Math.Path.{sym, ap}
use Rattle.std.proofs.Common.{◌∙◌}
use mathlib.Core.List.{List, [], ◌∷◌}
use Rattle.rows.specs.Notation.{◌is_one_of◌}
use Rattle.std.proofs.Math.Bool.{or-false, or_assoc}
use Rattle.type_nodes.specs.Ranges.{Range, ◌is_within◌, ◌is_within_one_of◌}

module _ {A : Type 0} (test : A → Bool) where
  -- The tests of a list's elements, after the test t: `t | test(a) | test(b) ..`.
  unfoldable pub tests_after : (t : Bool) → List A → Bool
  tests_after t [] = t
  tests_after t (a ∷ l) = tests_after (t || test a) l

  -- `test(a) | test(b) ..`
  unfoldable pub tests : List A → Bool
  tests [] = false
  tests (a ∷ l) = tests_after (test a) l

  -- They are what the definitions' walk finds, which tests the first element and then the others.
  module _ (walk : List A → Bool) (none : walk [] ≡ false) (more : (a : A) (l : List A) → walk (a ∷ l) ≡ (test a || walk l)) where
    chain_after : (t : Bool) (l : List A) → tests_after t l ≡ (t || walk l)
    unfolding tests_after
    chain_after t [] = sym (or-false t) ∙ ap (λ w. t || w) (sym none)
    chain_after t (a ∷ l) = chain_after (t || test a) l ∙ or_assoc t (test a) (walk l) ∙ ap (λ w. t || w) (sym (more a l))

    pub chain_of : (l : List A) → tests l ≡ walk l
    unfolding tests
    chain_of [] = sym none
    chain_of (a ∷ l) = chain_after (test a) l ∙ sym (more a l)

-- `k == a | k == b ..`
pub chain : (k : ℕ) (l : List ℕ) → tests (eqb k) l ≡ (k is_one_of l)
unfolding ◌is_one_of◌
chain k = chain_of (eqb k) (λ l. k is_one_of l) refl (λ a l. refl)

-- `(a <= k) & (k <= b) | (c <= k) & (k <= d) ..`
pub range_chain : (k : ℕ) (rs : List Range) → tests (λ r. k is_within r) rs ≡ (k is_within_one_of rs)
unfolding ◌is_within_one_of◌
range_chain k = chain_of (λ r. k is_within r) (λ rs. k is_within_one_of rs) refl (λ r rs. refl)
