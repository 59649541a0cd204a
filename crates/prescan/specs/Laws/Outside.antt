-- A token outside brackets, arm by arm, as code takes it.
-- Assumes nothing.
use Rattle.std.specs.Prelude.{ℕ, ◌+◌, ◌-◌, ◌≤◌, ◌<◌, ◌≡◌, true, false, []}
use Rattle.std.proofs.Math.Path.{refl}
use Rattle.std.proofs.Common.{add-one}
use borrow.Author.Tests.{eq-eqb, ne_eqb, le-leb, lt-leb}
use Rattle.rows.specs.Kinds.{Comma, Less, Greater, ShiftRight}
use Rattle.rows.specs.Refusals.{no_token}
use Rattle.rows.specs.declared.answer.TypeNameError.TheVariants.{UnexpectedAngle, TopLevelComma}
use Rattle.prescan.specs.Prescan.{Scan, Scanned, passed, refused, past, opens_angle, outside_brackets}

module _ (language k at : ℕ) (s : Scan) where
  abbrev depth : ℕ
  depth = s.angle_depth

  -- With these angles, and these brackets: none.
  abbrev on_with : ℕ → ℕ → Scanned
  on_with d f = passed (past k s [] d f)

  module _ (less : k ≡ Less) where
    pub less_refused : opens_angle language s.last ≡ false → outside_brackets language k at s ≡ refused (UnexpectedAngle at)
    unfolding outside_brackets
    less_refused e = rw (less, e) refl

    pub less_first : opens_angle language s.last ≡ true → s.first_angle ≡ no_token → outside_brackets language k at s ≡ on_with (depth + 1) at
    unfolding outside_brackets
    less_first e f = rw (less, e, eq-eqb s.first_angle no_token f, add-one) refl

    pub less_later : opens_angle language s.last ≡ true → (s.first_angle ≡ no_token → ⊥) → outside_brackets language k at s ≡ on_with (depth + 1) s.first_angle
    unfolding outside_brackets
    less_later e f = rw (less, e, ne_eqb s.first_angle no_token f, add-one) refl

  module _ (greater : k ≡ Greater) where
    pub greater_refused : depth ≡ 0 → outside_brackets language k at s ≡ refused (UnexpectedAngle at)
    unfolding outside_brackets
    greater_refused e = rw (greater, eq-eqb depth 0 e) refl

    pub greater_closes : (depth ≡ 0 → ⊥) → outside_brackets language k at s ≡ on_with (depth - 1) s.first_angle
    unfolding outside_brackets
    greater_closes e = rw (greater, ne_eqb depth 0 e) refl

  module _ (shift : k ≡ ShiftRight) where
    pub shift_refused : depth ≡ 1 → outside_brackets language k at s ≡ refused (UnexpectedAngle at)
    unfolding outside_brackets
    shift_refused e = rw (shift, eq-eqb depth 1 e) refl

    pub shift_closes : (depth ≡ 1 → ⊥) → 2 ≤ depth → outside_brackets language k at s ≡ on_with (depth - 2) s.first_angle
    unfolding outside_brackets
    shift_closes e p = rw (shift, ne_eqb depth 1 e, le-leb 2 depth p) refl

    pub shift_passes : (depth ≡ 1 → ⊥) → depth < 2 → outside_brackets language k at s ≡ on_with depth s.first_angle
    unfolding outside_brackets
    shift_passes e p = rw (shift, ne_eqb depth 1 e, lt-leb 2 depth p) refl

  module _ (comma : k ≡ Comma) where
    pub comma_refused : depth ≡ 0 → outside_brackets language k at s ≡ refused (TopLevelComma at)
    unfolding outside_brackets
    comma_refused e = rw (comma, eq-eqb depth 0 e) refl

    pub comma_passes : (depth ≡ 0 → ⊥) → outside_brackets language k at s ≡ on_with depth s.first_angle
    unfolding outside_brackets
    comma_passes e = rw (comma, ne_eqb depth 0 e) refl

  pub other_passes : (k ≡ Less → ⊥) → (k ≡ Greater → ⊥) → (k ≡ ShiftRight → ⊥) → (k ≡ Comma → ⊥) → outside_brackets language k at s ≡ on_with depth s.first_angle
  unfolding outside_brackets
  other_passes a b c d = rw (ne_eqb k Less a, ne_eqb k Greater b, ne_eqb k ShiftRight c, ne_eqb k Comma d) refl
