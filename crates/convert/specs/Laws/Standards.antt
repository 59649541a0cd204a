-- What the numbers that conversions write for a standard mean.
-- Assumes nothing.
use Rattle.std.specs.Option.{unwrap_or}
use Rattle.std.specs.Prelude.{ℕ, ◌+◌, ◌≤◌, ◌<◌, ◌≡◌, Bool, true, false, eqb, ltb, if◌then◌else◌, None, Option, Some}
use Rattle.std.proofs.Math.Path.{refl, sym}
use Rattle.std.proofs.Common.{ap, ◌∙◌, arith}
use borrow.Author.Tests.{lt-ltb, le-ltb, ne_eqb, ltb-true, ltb-false, eqb-true, eqb-false}
use Rattle.rows.specs.Languages.{C, Cpp, Fortran, C23, Cpp23, Fortran2023}
use Rattle.rows.specs.Format.{format, old_format, declared, stands_for, standard_254, standard_255, meant}
use Rattle.rows.specs.Laws.Tests.{by_if}
use Rattle.rows.specs.declared.format.Format.{Format}
use Rattle.convert.specs.Standards.{widened_standard, own_number, narrowed_standard, returned_standard}

-- An unknown standard was refused before.
pub own_or : (meaning : Option ℕ) → unwrap_or meaning standard_255 ≡ own_number meaning
unfolding own_number
own_or (Some standard) = refl
own_or None = refl

-- ---- a standard's number is one of the language's own, 255, 254, or none

-- No language declares more standards.
pub few_declared : (language : ℕ) → declared language ≤ 7
unfolding declared
few_declared language =
    by_if (λ (n : ℕ). n ≤ 7) (eqb language C) (λ _. omega arith) λ _.
    by_if (λ (n : ℕ). n ≤ 7) (eqb language Cpp) (λ _. omega arith) λ _.
    by_if (λ (n : ℕ). n ≤ 7) (eqb language Fortran) (λ _. omega arith) (λ _. omega arith)

pub data Number (language standard : ℕ) : Type 0 where
  own : standard < declared language → Number language standard
  is_255 : standard ≡ standard_255 → Number language standard
  is_254 : standard ≡ standard_254 → Number language standard
  other : declared language ≤ standard → (standard ≡ standard_255 → ⊥) → (standard ≡ standard_254 → ⊥) → Number language standard

pub number : (language standard : ℕ) → Number language standard
number language standard =
    by (ltb standard (declared language)) refl (eqb standard standard_255) refl (eqb standard standard_254) refl
  where
    by : (a : Bool) → ltb standard (declared language) ≡ a → (b : Bool) → eqb standard standard_255 ≡ b → (c : Bool) → eqb standard standard_254 ≡ c → Number language standard
    by true p b q c r = own (ltb-true standard (declared language) p)
    by false p true q c r = is_255 (eqb-true standard standard_255 q)
    by false p false q true r = is_254 (eqb-true standard standard_254 r)
    by false p false q false r = other (ltb-false standard (declared language) p) (eqb-false standard standard_255 q) (eqb-false standard standard_254 r)

module _ (f : Format) (language : ℕ) where
  pub means_own : (standard : ℕ) → standard < declared language → meant f language standard ≡ Some standard
  unfolding meant
  means_own standard p = rw (lt-ltb standard (declared language) p) refl

  pub means_255 : meant f language standard_255 ≡ stands_for language f.means_255
  unfolding meant
  means_255 = rw (le-ltb standard_255 (declared language) (omega (arith, few_declared language))) refl

  pub means_254 : meant f language standard_254 ≡ stands_for language f.means_254
  unfolding meant
  means_254 = rw (le-ltb standard_254 (declared language) (omega (arith, few_declared language))) refl

  pub means_none : (standard : ℕ) → declared language ≤ standard → (standard ≡ standard_255 → ⊥) → (standard ≡ standard_254 → ⊥) → meant f language standard ≡ None
  unfolding meant
  means_none standard p q r = rw (le-ltb standard (declared language) p, ne_eqb standard standard_255 q, ne_eqb standard standard_254 r) refl

-- 254 means what 255 means in an old file.
pub archives : (language : ℕ) → meant format language standard_254 ≡ meant old_format language standard_255
archives language = means_254 format language ∙ sym (means_255 old_format language)

pub unknown_not : {standard : ℕ} → None ≡ Some standard → ⊥
unknown_not q = let z : ◌≡◌ {A = ℕ} 0 1 = ap which q in omega (arith, z)
  where
    which : Option ℕ → ℕ
    which None = 0
    which (Some s) = 1

-- ---- what is written

own_is_not : (language standard n : ℕ) → 7 ≤ n → standard < declared language → standard ≡ n → ⊥
own_is_not language standard n big p e = omega (arith, p, big, e, few_declared language)

widens_own : (language standard : ℕ) → standard < declared language → widened_standard standard ≡ standard
unfolding widened_standard
widens_own language standard p = rw (ne_eqb standard standard_255 (own_is_not language standard standard_255 (omega arith) p)) refl

narrows_own : (language standard : ℕ) → standard < declared language → narrowed_standard language standard ≡ standard
unfolding narrowed_standard
narrows_own language standard p =
    rw (ne_eqb standard standard_254 (own_is_not language standard standard_254 (omega arith) p), ne_eqb standard standard_255 (own_is_not language standard standard_255 (omega arith) p)) refl

returns_own : (language standard : ℕ) → standard < declared language → returned_standard language standard ≡ standard
unfolding returned_standard
returns_own language standard p = rw (ne_eqb standard standard_255 (own_is_not language standard standard_255 (omega arith) p)) refl

abbrev pub standard_in : Option ℕ → ℕ
standard_in None = 0
standard_in (Some standard) = standard

-- What 255 means is declared.
by_language : (a b c : Bool) {standard : ℕ} → (if a then Some C23 else if b then Some Cpp23 else if c then Some Fortran2023 else None) ≡ Some standard
    → standard < (if a then C23 + 1 else if b then Cpp23 + 1 else if c then Fortran2023 + 1 else 0)
by_language true b c {standard} q = let z : C23 ≡ standard = ap standard_in q in omega (arith, z)
by_language false true c {standard} q = let z : Cpp23 ≡ standard = ap standard_in q in omega (arith, z)
by_language false false true {standard} q = let z : Fortran2023 ≡ standard = ap standard_in q in omega (arith, z)
by_language false false false q = absurd (unknown_not q)

newer_declared : (language : ℕ) {standard : ℕ} → meant format language standard_255 ≡ Some standard → standard < declared language
unfolding stands_for declared
newer_declared language e = by_language (eqb language C) (eqb language Cpp) (eqb language Fortran) (sym (means_255 format language) ∙ e)

-- ---- of a standard that an old file may have

module _ (language standard : ℕ) {s : ℕ} (e : meant old_format language standard ≡ Some s) where
  not_254 : {A : Type 0} → standard ≡ standard_254 → A
  unfolding stands_for
  not_254 q = absurd (unknown_not (sym (means_254 old_format language) ∙ (rw q at e)))

  not_other : {A : Type 0} → declared language ≤ standard → (standard ≡ standard_255 → ⊥) → (standard ≡ standard_254 → ⊥) → A
  not_other p q r = absurd (unknown_not (sym (means_none old_format language standard p q r) ∙ e))

  -- `widen` writes a number that means the same,
  pub widened_means : meant format language (widened_standard standard) ≡ Some s
  unfolding widened_standard
  widened_means = by (number language standard)
    where
      by : Number language standard → meant format language (widened_standard standard) ≡ Some s
      by (own p) = rw (widens_own language standard p) (means_own format language standard p ∙ sym (means_own old_format language standard p) ∙ e)
      by (is_255 q) = rw q (archives language ∙ (rw q at e))
      by (is_254 q) = not_254 q
      by (other p q r) = not_other p q r

  -- and `narrow` gives the number back.
  pub narrowed_widened : narrowed_standard language (widened_standard standard) ≡ standard
  unfolding widened_standard narrowed_standard
  narrowed_widened = by (number language standard)
    where
      by : Number language standard → narrowed_standard language (widened_standard standard) ≡ standard
      by (own p) = rw (widens_own language standard p) (narrows_own language standard p)
      by (is_255 q) = rw q refl
      by (is_254 q) = not_254 q
      by (other p q r) = not_other p q r

-- ---- of a standard that a new file may have

module _ (language standard : ℕ) {s : ℕ} (e : meant format language standard ≡ Some s) where
  none_other : {A : Type 0} → declared language ≤ standard → (standard ≡ standard_255 → ⊥) → (standard ≡ standard_254 → ⊥) → A
  none_other p q r = absurd (unknown_not (sym (means_none format language standard p q r) ∙ e))

  means_newer : standard ≡ standard_255 → meant format language standard_255 ≡ Some s
  means_newer q = rw q at e

  -- 255 is its own number then.
  narrows_255 : standard ≡ standard_255 → narrowed_standard language standard ≡ s
  unfolding narrowed_standard own_number
  narrows_255 q = rw (q, means_newer q, own_number) refl

  returns_255 : standard ≡ standard_255 → returned_standard language standard ≡ s
  unfolding returned_standard own_number
  returns_255 q = rw (q, means_newer q, own_number) refl

  -- `narrow` writes a number that means the same,
  pub narrowed_means : meant old_format language (narrowed_standard language standard) ≡ Some s
  unfolding narrowed_standard
  narrowed_means = by (number language standard)
    where
      by : Number language standard → meant old_format language (narrowed_standard language standard) ≡ Some s
      by (own p) = rw (narrows_own language standard p) (means_own old_format language standard p ∙ sym (means_own format language standard p) ∙ e)
      by (is_255 q) = rw (narrows_255 q) (means_own old_format language s (newer_declared language (means_newer q)))
      by (is_254 q) = rw q (sym (archives language) ∙ (rw q at e))
      by (other p q r) = none_other p q r

  -- and `widen` turns it into the number that comes back,
  pub widened_narrowed : widened_standard (narrowed_standard language standard) ≡ returned_standard language standard
  unfolding widened_standard narrowed_standard returned_standard
  widened_narrowed = by (number language standard)
    where
      by : Number language standard → widened_standard (narrowed_standard language standard) ≡ returned_standard language standard
      by (own p) = rw (narrows_own language standard p, returns_own language standard p) (widens_own language standard p)
      by (is_255 q) = rw (narrows_255 q, returns_255 q) (widens_own language s (newer_declared language (means_newer q)))
      by (is_254 q) = rw q refl
      by (other p q r) = none_other p q r

  -- which means the same.
  pub returned_means : meant format language (returned_standard language standard) ≡ Some s
  unfolding returned_standard
  returned_means = by (number language standard)
    where
      by : Number language standard → meant format language (returned_standard language standard) ≡ Some s
      by (own p) = rw (returns_own language standard p) e
      by (is_255 q) = rw (returns_255 q) (means_own format language s (newer_declared language (means_newer q)))
      by (is_254 q) = rw q (rw q at e)
      by (other p q r) = none_other p q r

-- Only for 255 another number comes back.
pub returned_same : (language standard : ℕ) → (standard ≡ standard_255 → ⊥) → returned_standard language standard ≡ standard
unfolding returned_standard
returned_same language standard q = rw (ne_eqb standard standard_255 q) refl
