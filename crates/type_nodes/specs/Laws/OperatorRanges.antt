-- The ranges of `is_binary_or_assignment_operator` decide its set: by a test that is computed over the whole table of kinds. Assumes nothing.
use Rattle.std.specs.Prelude.{ℕ, zero, suc, ◌≤◌, ◌<◌, ◌≡◌, refl, Bool, true, false, not, ◌&&◌, List, [], ◌∷◌, length, leb, ltb, eqb, if◌then◌else◌}
use Rattle.std.proofs.Common.{sym, ◌∙◌, arith, ltb-true, ltb-false, eqb-true}
use Rattle.std.proofs.lemmas.Bool.{lt-leb, eqb-false}
use Rattle.rows.specs.Notation.{◌is_one_of◌}
use Rattle.rows.specs.Languages.{Fortran}
use Rattle.std.proofs.Math.Bool.{and-false}
use Rattle.type_nodes.specs.Sets.{c_family_operators, fortran_operators, is_binary_or_assignment_operator}
use Rattle.type_nodes.specs.Ranges.{Range, ◌is_within◌, ◌is_within_one_of◌, kind_count, runs, c_family_ranges, fortran_ranges, operator_ranges}
use Rattle.std.proofs.lemmas.Bool.{and_parts}
use Rattle.type_nodes.specs.Laws.Bounds.{all_below, first_below, others_below, none_from}

-- ---- two tests of a number, compared at every number below a bound

unfoldable same : Bool → Bool → Bool
same true b = b
same false b = not b

same_true : (a b : Bool) → same a b ≡ true → a ≡ b
unfolding same
same_true true true e = refl
same_true true false e = sym e
same_true false true e = e
same_true false false e = refl

unfoldable agree_below : (f g : ℕ → Bool) (bound : ℕ) → Bool
unfolding same
agree_below f g zero = true
agree_below f g (suc n) = same (f n) (g n) && agree_below f g n

agreed : (f g : ℕ → Bool) (n : ℕ) → agree_below f g n ≡ true → (k : ℕ) → k < n → f k ≡ g k
unfolding agree_below
agreed f g zero h k p = absurd (omega arith)
agreed f g (suc n) h k p =
    elim (eqb k n) as (λ t. eqb k n ≡ t → f k ≡ g k) [
      | true ↦ λ e. rw (eqb-true k n e) (same_true (f n) (g n) (and_parts (same (f n) (g n)) (agree_below f g n) h).0)
      | false ↦ λ e. agreed f g n (and_parts (same (f n) (g n)) (agree_below f g n) h).1 k (omega (arith, eqb-false k n e))
    ] refl

-- ---- past the last number of every range

unfoldable lasts : List Range → List ℕ
lasts [] = []
lasts (r ∷ rs) = r.last ∷ lasts rs

none_within : (b k : ℕ) (rs : List Range) → all_below b (lasts rs) ≡ true → b ≤ k → (k is_within_one_of rs) ≡ false
unfolding ◌is_within_one_of◌ ◌is_within◌ lasts
none_within b k [] a p = refl
none_within b k (r ∷ rs) a p =
    rw (lt-leb k r.last (omega (arith, first_below b r.last (lasts rs) a)), and-false (leb r.first k))
    (none_within b k rs (others_below b r.last (lasts rs) a) p)

-- ---- whether ranges decide a set of kinds: the test, and the law

module _ (rs : List Range) (ns : List ℕ) where
  -- They agree at all 58 kinds.
  abbrev agree : Bool
  agree = agree_below (λ k. k is_within_one_of rs) (λ k. k is_one_of ns) kind_count

  -- Neither has a number past these.
  abbrev within_kinds : Bool
  within_kinds = all_below kind_count (lasts rs) && all_below kind_count ns

  module _ (h : (agree && within_kinds) ≡ true) where
    none_past : (k : ℕ) → kind_count ≤ k → (k is_one_of ns) ≡ false
    none_past k p = none_from kind_count k ns (and_parts (all_below kind_count (lasts rs)) (all_below kind_count ns) (and_parts agree within_kinds h).1).1 p

    decided : (k : ℕ) → (k is_within_one_of rs) ≡ (k is_one_of ns)
    decided k =
        elim (ltb k kind_count) as (λ t. ltb k kind_count ≡ t → (k is_within_one_of rs) ≡ (k is_one_of ns)) [
          | true ↦ λ e. agreed (λ k. k is_within_one_of rs) (λ k. k is_one_of ns) kind_count (and_parts agree within_kinds h).0 k (ltb-true k kind_count e)
          | false ↦ λ e.
              let past : kind_count ≤ k = ltb-false k kind_count e in
              let ends : all_below kind_count (lasts rs) ≡ true = (and_parts (all_below kind_count (lasts rs)) (all_below kind_count ns) (and_parts agree within_kinds h).1).0 in
              none_within kind_count k rs ends past ∙ sym (none_past k past)
        ] refl

-- ---- the operators: of a language only whether it is Fortran counts

abbrev ranges : (fortran : Bool) → List Range
ranges fortran = if fortran then fortran_ranges else c_family_ranges

abbrev operators : (fortran : Bool) → List ℕ
operators fortran = if fortran then fortran_operators else c_family_operators

-- The test of the whole table, computed.
table : (fortran : Bool) → (agree (ranges fortran) (operators fortran) && within_kinds (ranges fortran) (operators fortran)) ≡ true
unfolding agree_below lasts all_below ◌is_within_one_of◌ ◌is_one_of◌ c_family_ranges fortran_ranges c_family_operators fortran_operators
table true = refl
table false = refl

-- Ranges and runs, counted.
counts : (fortran : Bool) → length (ranges fortran) ≡ runs (λ k. k is_one_of operators fortran) kind_count
unfolding runs ◌is_one_of◌ c_family_ranges fortran_ranges c_family_operators fortran_operators
counts true = refl
counts false = refl

module _ (lang : ℕ) where
  pub ranges_decide : (k : ℕ) → (k is_within_one_of operator_ranges lang) ≡ is_binary_or_assignment_operator lang k
  unfolding operator_ranges is_binary_or_assignment_operator
  ranges_decide = decided (ranges (eqb lang Fortran)) (operators (eqb lang Fortran)) (table (eqb lang Fortran))

  pub no_kind_no_operator : (k : ℕ) → kind_count ≤ k → is_binary_or_assignment_operator lang k ≡ false
  unfolding is_binary_or_assignment_operator
  no_kind_no_operator = none_past (ranges (eqb lang Fortran)) (operators (eqb lang Fortran)) (table (eqb lang Fortran))

  pub as_many_as_runs : length (operator_ranges lang) ≡ runs (is_binary_or_assignment_operator lang) kind_count
  unfolding operator_ranges is_binary_or_assignment_operator
  as_many_as_runs = counts (eqb lang Fortran)
