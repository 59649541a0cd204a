-- The loop that looks for a place of a row that passes a test, whatever the test is. Assumes nothing.
use Prim.Native.Nat.{ℕ, zero, suc, ◌+◌, ◌≤◌, ◌<◌}
use Rattle.std.specs.Prelude.{◌≡◌, Bool, true, false, ◌||◌, List}
use Rattle.std.proofs.Math.Path.{refl, sym}
use Rattle.std.proofs.Common.{ap, ◌∙◌, arith, add-one, lt_of_not-le}
use Rattle.std.proofs.Math.Decide.{dec_le}
use Rattle.std.proofs.Math.ListN.{length}
use Rattle.profile.specs.Profile.{some_below, some_token}

or_true : (a b : Bool) → b ≡ true → (a || b) ≡ true
or_true true b e = refl
or_true false b e = e

or_first : (a b : Bool) → a ≡ true → (a || b) ≡ true
or_first a b e = rw e refl

or_false : (a b : Bool) → a ≡ false → b ≡ false → (a || b) ≡ false
or_false a b e f = rw e f

module _ (p : ℕ → Bool) where
  -- A place that passes is found by whoever looks further.
  pub found_below : (at n : ℕ) → at < n → p at ≡ true → some_below n p ≡ true
  unfolding some_below
  found_below at zero l e = absurd (omega arith)
  found_below at (suc n) l e =
      elim (dec_le n at) [
        | yes h ↦ let same : at ≡ n = omega (arith, h, l) in or_true (some_below n p) (p n) (ap p (sym same) ∙ e)
        | no h ↦ or_first (some_below n p) (p n) (found_below at n (lt_of_not-le h) e)
      ]

-- No place before `at` passes.
pub record Looking (kinds : List ℕ) (p : ℕ → Bool) (at : ℕ) : Type 0 where
  pub within : at ≤ length kinds
  pub none : some_below at p ≡ false

module _ (kinds : List ℕ) (p : ℕ → Bool) where
  pub looking_start : Looking kinds p 0
  unfolding some_below
  looking_start = record { within = omega arith; none = refl }

  module _ {at : ℕ} (l : Looking kinds p at) where
    pub looking_on : at < length kinds → p at ≡ false → Looking kinds p (at + 1)
    unfolding some_below
    looking_on less e = rw (add-one at) (record { within = omega arith; none = or_false (some_below at p) (p at) l.none e })

    pub looking_found : at < length kinds → p at ≡ true → true ≡ some_token kinds p
    unfolding some_token
    looking_found less e = sym (found_below p at (length kinds) less e)

    pub looking_end : length kinds ≤ at → false ≡ some_token kinds p
    unfolding some_token
    looking_end past =
        let whole : at ≡ length kinds = omega (arith, l.within, past) in
        rw (← whole) (sym l.none)
