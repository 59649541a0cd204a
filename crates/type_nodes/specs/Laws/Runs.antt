-- Runs of neighbouring kinds, and how many ranges a set needs: a range more makes at most one run more. Assumes nothing.
use Prim.Native.Nat.{ℕ, zero, suc, ◌+◌, ◌≤◌, ◌<◌}
use Rattle.std.specs.Prelude.{◌≡◌, Bool, not, ◌&&◌, ◌||◌, List, [], ◌∷◌, length, leb, if◌then◌else◌}
use Rattle.std.proofs.Math.Path.{refl}
use Rattle.std.proofs.Common.{sym, ◌∙◌, true≢false}
use Rattle.std.proofs.Math.Bool.{true, false}
use native.Mathlib.Omega.{arith}
use borrow.Author.Tests.{leb-true, leb-false, le-leb, not-true}
use Rattle.std.proofs.Math.Bool.{and-true}
use Rattle.type_nodes.specs.Ranges.{Range, ◌is_within◌, ◌is_within_one_of◌, begins_run, runs}
use Rattle.std.proofs.lemmas.Bool.{and_parts, or_parts}

or_left : (a b : Bool) → (a || b) ≡ true → b ≡ false → a ≡ true
or_left true b h e = refl
or_left false b h e = absurd (true≢false (sym h ∙ e))

-- ---- sets that agree below a bound have the same runs there

begins_alike : (f g : ℕ → Bool) (n : ℕ) → ((k : ℕ) → k < suc n → f k ≡ g k) → begins_run f n ≡ begins_run g n
unfolding begins_run
begins_alike f g zero h = h 0 (omega arith)
begins_alike f g (suc n) h = rw (h (suc n) (omega arith), h n (omega arith)) refl

runs_alike : (f g : ℕ → Bool) (n : ℕ) → ((k : ℕ) → k < n → f k ≡ g k) → runs f n ≡ runs g n
unfolding runs
runs_alike f g zero h = refl
runs_alike f g (suc n) h = rw (runs_alike f g n (λ k p. h k (omega arith)), begins_alike f g n h) refl

-- ---- a set and a range more

module _ (r : Range) (k : ℕ) where
  first_le : (k is_within r) ≡ true → r.first ≤ k
  unfolding ◌is_within◌
  first_le h = leb-true r.first k (and_parts (leb r.first k) (leb k r.last) h).0

  le_last : (k is_within r) ≡ true → k ≤ r.last
  unfolding ◌is_within◌
  le_last h = leb-true k r.last (and_parts (leb r.first k) (leb k r.last) h).1

  before_first : (k is_within r) ≡ false → k ≤ r.last → k < r.first
  unfolding ◌is_within◌
  before_first h p =
      let not_from : (leb r.first k && true) ≡ false = rw (le-leb k r.last p) at h in
      leb-false r.first k (sym (and-true (leb r.first k)) ∙ not_from)

module _ (r : Range) (f : ℕ → Bool) where
  abbrev with_range : ℕ → Bool
  with_range k = (k is_within r) || f k

  -- A run of the set with the range that begins where none of the set's does, begins where the range does.
  new_run : (n : ℕ) → begins_run with_range n ≡ true → begins_run f n ≡ false → n ≡ r.first
  unfolding begins_run
  new_run zero h e = omega (arith, first_le r 0 (or_left (0 is_within r) (f 0) h e))
  new_run (suc n) h e =
      let neither : with_range n ≡ false = not-true (with_range n) (and_parts (with_range (suc n)) (not (with_range n)) h).1 in
      let not_f : f n ≡ false = (or_parts (n is_within r) (f n) neither).1 in
      let no_next : (f (suc n) && true) ≡ false = rw not_f at e in
      let either : with_range (suc n) ≡ true = (and_parts (with_range (suc n)) (not (with_range n)) h).0 in
      let within : (suc n is_within r) ≡ true = or_left (suc n is_within r) (f (suc n)) either (sym (and-true (f (suc n))) ∙ no_next) in
      omega (arith, first_le r (suc n) within, before_first r n (or_parts (n is_within r) (f n) neither).0 (omega (arith, le_last r (suc n) within)))

  -- Up to the range's first number there is no run more, after it at most one.
  abbrev Few : (n more runs_of_f : ℕ) → Type 0
  Few n more runs_of_f = (n ≤ r.first → more ≤ runs_of_f) × (more ≤ suc runs_of_f)

  few_more : (n : ℕ) → Few n (runs with_range n) (runs f n)
  unfolding runs
  few_more zero = (λ p. omega arith, omega arith)
  few_more (suc n) =
      elim (begins_run with_range n) as (λ b. begins_run with_range n ≡ b → Few (suc n) (runs with_range n + (if b then 1 else 0)) (runs f (suc n))) [
        | true ↦ λ e. elim (begins_run f n) as (λ b. begins_run f n ≡ b → Few (suc n) (runs with_range n + 1) (runs f n + (if b then 1 else 0))) [
          | true ↦ λ g. (λ p. omega (arith, (few_more n).0 (omega arith)), omega (arith, (few_more n).1))
          | false ↦ λ g. (λ p. absurd (omega (arith, new_run n e g)), omega (arith, (few_more n).0 (omega (arith, new_run n e g))))
        ] refl
        | false ↦ λ e. (λ p. omega (arith, (few_more n).0 (omega arith)), omega (arith, (few_more n).1))
      ] refl

no_runs : (n : ℕ) → runs (λ k. k is_within_one_of []) n ≡ 0
unfolding runs ◌is_within_one_of◌
no_runs zero = refl
no_runs (suc zero) = refl
no_runs (suc (suc n)) = omega (arith, no_runs (suc n))

runs_of_ranges : (rs : List Range) (n : ℕ) → runs (λ k. k is_within_one_of rs) n ≤ length rs
unfolding ◌is_within_one_of◌
runs_of_ranges [] n = omega (arith, no_runs n)
runs_of_ranges (r ∷ rs) n = omega (arith, (few_more r (λ k. k is_within_one_of rs) n).1, runs_of_ranges rs n)

-- Whatever ranges decide a set below a bound are at least as many as it has runs there.
pub no_fewer : (set : ℕ → Bool) (rs : List Range) (n : ℕ) → ((k : ℕ) → k < n → (k is_within_one_of rs) ≡ set k) → runs set n ≤ length rs
no_fewer set rs n h = omega (arith, runs_alike (λ k. k is_within_one_of rs) set n h, runs_of_ranges rs n)
