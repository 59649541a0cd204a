-- A word compared with a known word byte by byte, as code does it.
-- Assumes nothing.
use Rattle.std.specs.Prelude.{ℕ, ◌+◌, ◌≤◌, ◌<◌, ◌≡◌, Bool, ◌&&◌, get_or, eqb, if◌then◌else◌}
use Rattle.std.proofs.Math.Path.{refl, ap}
use Rattle.std.proofs.Common.{sym, ◌∙◌, drop-cons, add-one, eq-eqb, ne_eqb}
use Rattle.std.proofs.Math.Bool.{true, false}
use mathlib.Core.List.{List, []}
use native.Mathlib.Omega.{arith}
use Rattle.std.proofs.Math.ListN.{length, drop, drop_of_length-le}
use Rattle.rows.specs.Laws.Tests.{and_true, and_false}
use Rattle.rows.specs.Words.{same_through, same_exactly, same_ignoring_case, lower}
use Rattle.rows.specs.WordSearch.{compared}
use Rattle.rows.specs.declared.words.Comparison.TheVariants.{Exact, OtherCase, Different}

-- ---- two words byte by byte

-- The same as far as byte i: what is left to compare. `exact`: no byte so far differs in case.
pub record SoFar (w v : List ℕ) (exact : Bool) (i : ℕ) : Type 0 where
  pub inside : i ≤ length w
  pub ignoring : same_ignoring_case w v ≡ same_ignoring_case (drop i w) (drop i v)
  pub exactly : same_exactly w v ≡ (exact && same_exactly (drop i w) (drop i v))

pub nothing_yet : (w v : List ℕ) → SoFar w v true 0
nothing_yet w v = record { inside = omega arith; ignoring = refl; exactly = refl }

-- the first bytes of what is left
pub through_at : (fold : ℕ → ℕ) (w v : List ℕ) (i : ℕ) → i < length w → i < length v
    → same_through fold (drop i w) (drop i v) ≡ (eqb (fold (get_or w i 0)) (fold (get_or v i 0)) && same_through fold (drop (i + 1) w) (drop (i + 1) v))
unfolding same_through
through_at fold w v i p q = rw (drop-cons w i 0 p, drop-cons v i 0 q, add-one) refl

-- bytes that differ in lower case differ
lower_differs : (b c : ℕ) → (lower b ≡ lower c → ⊥) → eqb b c ≡ false
lower_differs b c d = ne_eqb b c (λ e. d (ap lower e))

and_assoc : (a b c : Bool) → (a && (b && c)) ≡ (a && b && c)
and_assoc true b c = refl
and_assoc false b c = refl

module _ (w v : List ℕ) (same_length : length v ≡ length w) where
  pub byte_differs : (exact : Bool) (i : ℕ) → SoFar w v exact i → i < length w → (lower (get_or w i 0) ≡ lower (get_or v i 0) → ⊥) → Different ≡ compared w v
  unfolding compared same_exactly same_ignoring_case
  byte_differs exact i s p d =
      let q : i < length v = omega arith in
      let none : same_ignoring_case w v ≡ false = s.ignoring ∙ through_at lower w v i p q ∙ rw (ne_eqb (lower (get_or w i 0)) (lower (get_or v i 0)) d) refl in
      let neither : same_exactly w v ≡ false =
      s.exactly ∙ ap (λ (t : Bool). exact && t) (through_at (λ b. b) w v i p q ∙ rw (lower_differs (get_or w i 0) (get_or v i 0) d) refl) ∙ and_false exact in
      rw (neither, none) refl

  pub byte_same : (exact : Bool) (i : ℕ) → SoFar w v exact i → i < length w → lower (get_or w i 0) ≡ lower (get_or v i 0)
      → SoFar w v (exact && eqb (get_or w i 0) (get_or v i 0)) (i + 1)
  unfolding same_exactly same_ignoring_case
  byte_same exact i s p e =
      let q : i < length v = omega arith in
      record {
        inside = omega arith;
        ignoring = s.ignoring ∙ through_at lower w v i p q ∙ rw (eq-eqb (lower (get_or w i 0)) (lower (get_or v i 0)) e) refl;
        exactly =
            s.exactly ∙ ap (λ (t : Bool). exact && t) (through_at (λ b. b) w v i p q)
            ∙ and_assoc exact (eqb (get_or w i 0) (get_or v i 0)) (same_through (λ b. b) (drop (i + 1) w) (drop (i + 1) v));
      }

  pub all_compared : (exact : Bool) (i : ℕ) → SoFar w v exact i → length w ≤ i → (if exact then Exact else OtherCase) ≡ compared w v
  unfolding compared same_exactly same_ignoring_case same_through
  all_compared exact i s p =
      let more : length v ≤ i = omega arith in
      let ended : drop i w ≡ [] = drop_of_length-le w p in
      let ended' : drop i v ≡ [] = drop_of_length-le v more in
      let all : same_ignoring_case w v ≡ true = s.ignoring ∙ rw (ended, ended') refl in
      let which : same_exactly w v ≡ exact = s.exactly ∙ rw (ended, ended') (and_true exact) in
      rw (which, all) refl

  -- The step of code at byte i; l and m are the two bytes in lower case.
  module _ (exact : Bool) (i : ℕ) (s : SoFar w v exact i) where
    pub bytes_differ : i < length w → (l m : ℕ) → l ≡ lower (get_or w i 0) → m ≡ lower (get_or v i 0) → (l ≡ m → ⊥) → Different ≡ compared w v
    bytes_differ p l m e e' d = byte_differs exact i s p (λ q. d (e ∙ q ∙ sym e'))

    pub bytes_equal : i < length w → get_or w i 0 ≡ get_or v i 0 → SoFar w v exact (i + 1)
    bytes_equal p e = rw (eq-eqb (get_or w i 0) (get_or v i 0) e, and_true exact) at (byte_same exact i s p (ap lower e))

    pub bytes_in_other_case : i < length w → (l m : ℕ) → l ≡ lower (get_or w i 0) → m ≡ lower (get_or v i 0) → (get_or w i 0 ≡ get_or v i 0 → ⊥) → l ≡ m → SoFar w v false (i + 1)
    bytes_in_other_case p l m e e' d q = rw (ne_eqb (get_or w i 0) (get_or v i 0) d, and_false exact) at (byte_same exact i s p (sym e ∙ q ∙ e'))

    pub bytes_ended : length w ≤ i → (b : Bool) → exact ≡ b → (if b then Exact else OtherCase) ≡ compared w v
    bytes_ended p b e = rw (← e) (all_compared exact i s p)
