-- The walk by extents, argument by argument.
-- Assumes nothing.
use Prim.Native.Nat.{ℕ, zero, suc, ◌+◌, ◌-◌, ◌≤◌, ◌<◌}
use Rattle.std.specs.Prelude.{◌≡◌, true, false, ◌&&◌, List, eqb}
use Rattle.std.proofs.Math.Path.{refl, sym, ap}
use Rattle.std.proofs.Common.{◌∙◌}
use native.Mathlib.Omega.{arith}
use borrow.Author.Tests.{eq-eqb, le-leb}
use Rattle.std.proofs.Math.Facts.{and_yes}
use Rattle.std.proofs.Math.Dec.{leb, eqb→eq, leb→le}
use Rattle.reader.specs.Nodes.{a_node, number, kind_of, extent_of}
use Rattle.outer.specs.ByExtents.{is_argument, arguments_from}

module _ (numbers : List ℕ) where
  -- The nodes below an argument are passed over.
  passed_over : (inside left at found : ℕ) → arguments_from numbers (inside + left) inside at found ≡ arguments_from numbers left 0 (at + inside) found
  unfolding arguments_from
  passed_over zero left at found =
      let none : 0 + left ≡ left = omega arith in
      let same : at ≡ at + 0 = omega arith in
      ap (λ (n : ℕ). arguments_from numbers n 0 at found) none ∙ ap (λ (a : ℕ). arguments_from numbers left 0 a found) same
  passed_over (suc inside) left at found =
      let one : suc inside + left ≡ suc (inside + left) = omega arith in
      let same : suc at + inside ≡ at + suc inside = omega arith in
      ap (λ (n : ℕ). arguments_from numbers n (suc inside) at found) one ∙ passed_over inside left (suc at) found ∙ ap (λ (a : ℕ). arguments_from numbers left 0 a found) same

  -- What an argument is.
  pub record Argument (at left : ℕ) : Type 0 where
    pub kind : kind_of numbers at ≡ number a_node
    pub some : 1 ≤ extent_of numbers at
    pub fits : extent_of numbers at ≤ left

  pub argument_is : (at left : ℕ) → is_argument numbers at left ≡ true → Argument at left
  unfolding is_argument
  argument_is at left e =
      let last = and_yes (eqb (kind_of numbers at) (number a_node) && leb 1 (extent_of numbers at)) (leb (extent_of numbers at) left) (rw e tt) in
      let two = and_yes (eqb (kind_of numbers at) (number a_node)) (leb 1 (extent_of numbers at)) last.0 in
      record { kind = eqb→eq _ _ two.0; some = leb→le _ _ two.1; fits = leb→le _ _ last.1 }

  pub is_one : (at left : ℕ) → Argument at left → is_argument numbers at left ≡ true
  unfolding is_argument
  is_one at left a = rw (eq-eqb _ _ a.kind, le-leb _ _ a.some, le-leb _ _ a.fits) refl

  -- At an argument the walk goes on behind its extent,
  pub goes_on : (at left found : ℕ) → 0 < left → is_argument numbers at left ≡ true
      → arguments_from numbers left 0 at found ≡ arguments_from numbers (left - extent_of numbers at) 0 (at + extent_of numbers at) (suc found)
  unfolding arguments_from
  goes_on at zero found p e = absurd (omega arith)
  goes_on at (suc left) found p e =
      let a = argument_is at (suc left) e in
      let inside : ℕ = extent_of numbers at - 1 in
      let behind : ℕ = suc left - extent_of numbers at in
      let split : left ≡ inside + behind = omega (arith, a.some, a.fits) in
      let same : suc at + inside ≡ at + extent_of numbers at = omega (arith, a.some) in
      rw (e, arguments_from)
      (ap (λ (n : ℕ). arguments_from numbers n inside (suc at) (suc found)) split ∙ passed_over inside behind (suc at) (suc found)
      ∙ ap (λ (n : ℕ). arguments_from numbers behind 0 n (suc found)) same)

  -- and at anything else there is no list.
  pub ends_there : (at left found : ℕ) → 0 < left → is_argument numbers at left ≡ false → arguments_from numbers left 0 at found ≡ 0
  unfolding arguments_from
  ends_there at zero found p e = absurd (omega arith)
  ends_there at (suc left) found p e = rw (e, arguments_from) refl

-- ---- the loop of `count_arguments`

-- What is left of the list decides.
pub record CountLoop (numbers : List ℕ) (end at found : ℕ) : Type 0 where
  pub within : at ≤ end
  pub few : found + 2 ≤ at
  pub decides : arguments_from numbers (end - at) 0 at found ≡ arguments_from numbers (end - 2) 0 2 0

module _ {numbers : List ℕ} {end at found : ℕ} (i : CountLoop numbers end at found) where
  pub count_stops : at < end → is_argument numbers at (end - at) ≡ false → 0 ≡ arguments_from numbers (end - 2) 0 2 0
  count_stops p e = sym (ends_there numbers at (end - at) found (omega arith) e) ∙ i.decides

  -- An argument is behind it.
  pub count_further : at < end → is_argument numbers at (end - at) ≡ true → (1 ≤ extent_of numbers at) × (at + extent_of numbers at ≤ end)
  count_further p e = let a = argument_is numbers at (end - at) e in (a.some, omega (arith, a.fits))

  pub count_again : at < end → is_argument numbers at (end - at) ≡ true → CountLoop numbers end (at + extent_of numbers at) (found + 1)
  count_again p e =
      let f = count_further p e in
      let left : end - (at + extent_of numbers at) ≡ end - at - extent_of numbers at = omega (arith, f.1) in
      let one : found + 1 ≡ suc found = omega arith in
      record {
        within = f.1;
        few = omega (arith, f.0, i.few);
        decides = ap (λ (n : ℕ). arguments_from numbers n 0 (at + extent_of numbers at) (found + 1)) left ∙ ap (arguments_from numbers (end - at - extent_of numbers at) 0 (at + extent_of numbers at)) one
            ∙ sym (goes_on numbers at (end - at) found (omega arith) e) ∙ i.decides;
      }

  pub count_ends : end ≤ at → found ≡ arguments_from numbers (end - 2) 0 2 0
  unfolding arguments_from
  count_ends p = let none : end - at ≡ 0 = omega arith in sym (ap (λ (n : ℕ). arguments_from numbers n 0 at found) none) ∙ i.decides
