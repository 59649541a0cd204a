-- The reading depends on the names only by which tokens right before a `<` they are.
-- Assumes nothing.
use Prim.Native.Nat.{ℕ, zero, suc}
use Rattle.std.specs.Prelude.{◌≡◌, Bool, true, false, ◌&&◌, get_or, drop, if◌then◌else◌}
use Rattle.std.proofs.Math.Path.{refl, ap}
use Rattle.std.proofs.Common.{◌∙◌, eqb-true}
use mathlib.Core.List.{List, [], ◌∷◌}
use Rattle.std.proofs.Math.Dec.{eqb}
use Rattle.rows.specs.Kinds.{Comma, Less, Greater, ShiftRight}
use Rattle.prescan.specs.Matcher.{Role, opens, closes, neither, role}
use Rattle.reader.specs.Nodes.{none}
use Rattle.reader.specs.Reading.{Got, kind_at}
use Rattle.named_reader.specs.NamedReading.{list, State, Step, on, stops, plain, begin, at_greater, at_shift, at_comma, after_name, no_bracket, in_role, take_token, go_on, read_on, start, named_reading}
use Rattle.named_reader.specs.Laws.Sound.{first_of}

module _ (named named' : List Bool) where
  -- What is asked of the names at a token.
  same_test : (k at : ℕ) → (k ≡ Less → after_name named at ≡ after_name named' at) → (eqb k Less && after_name named at) ≡ (eqb k Less && after_name named' at)
  same_test k at f = by (eqb k Less) refl
    where
      by : (b : Bool) → eqb k Less ≡ b → (b && after_name named at) ≡ (b && after_name named' at)
      by true e = f (eqb-true k Less e)
      by false e = refl

  same_role : (r : Role) (k at : ℕ) (s : State) → (k ≡ Less → after_name named at ≡ after_name named' at) → in_role named r k at s ≡ in_role named' r k at s
  unfolding in_role no_bracket
  same_role (opens d) k at s f = refl
  same_role (closes d) k at s f = refl
  same_role neither k at s f =
      ap (λ (b : Bool). if b then begin (list at s.nodes none (suc at)) s else if eqb k Greater then at_greater at s.frames s else if eqb k ShiftRight then at_shift at s.frames s else if eqb k Comma then at_comma at s.frames s else plain at s)
      (same_test k at f)

  same_token : (k at : ℕ) (s : State) → (k ≡ Less → after_name named at ≡ after_name named' at) → take_token named k at s ≡ take_token named' k at s
  unfolding take_token
  same_token k at s f = same_role (role k) k at s f

  pub go_same : (t : Step) (f g : State → Got) → ((s : State) → f s ≡ g s) → go_on t f ≡ go_on t g
  unfolding go_on
  go_same (on s) f g e = e s
  go_same (stops e m) f g q = refl

  module _ (row : List ℕ) (agree : (i : ℕ) → kind_at row (suc i) ≡ Less → get_or named i false ≡ get_or named' i false) where
    before_angle : (at : ℕ) → kind_at row at ≡ Less → after_name named at ≡ after_name named' at
    unfolding after_name
    before_angle zero e = refl
    before_angle (suc i) e = agree i e

    read_same : (ks : List ℕ) (at : ℕ) (s : State) → drop at row ≡ ks → read_on named at ks s ≡ read_on named' at ks s
    unfolding read_on
    read_same [] at s e = refl
    read_same (k ∷ ks) at s e =
        let there = first_of row at k ks e in
        ap (λ (t : Step). go_on t (λ s'. read_on named (suc at) ks s')) (same_token k at s (λ q. before_angle at (there.1 ∙ q)))
        ∙ go_same (take_token named' k at s) (λ s'. read_on named (suc at) ks s') (λ s'. read_on named' (suc at) ks s') (λ s'. read_same ks (suc at) s' there.2)

    pub same_reading : named_reading named row ≡ named_reading named' row
    unfolding named_reading
    same_reading = read_same row 0 start refl
