-- The tests of the code at a token, as the definition has them.
-- Assumes nothing.
use Prim.Native.Nat.{ℕ, zero, suc, ◌-◌, ◌≤◌}
use Rattle.std.specs.Prelude.{◌≡◌, ◌≢◌, Bool, true, ◌&&◌, List, length, eqb}
use Rattle.std.proofs.Math.Path.{refl, ap}
use Rattle.std.proofs.Common.{sym, ◌∙◌, arith}
use Rattle.std.proofs.Math.Bool.{false}
use borrow.Author.Tests.{ne_eqb}
use Rattle.std.proofs.Math.ListN.{get_or, get_or-eq_default}
use Rattle.rows.specs.Kinds.{LeftParen, RightParen, LeftBracket, RightBracket, Comma, Less, Greater, ShiftRight}
use Rattle.rows.specs.declared.answer.Delimiter.TheVariants.{Parenthesis, Bracket}
use Rattle.prescan.specs.Matcher.{role}
use Rattle.named_reader.specs.NamedReading.{State, plain, at_greater, at_shift, at_comma, at_closer, after_name, no_bracket, in_role, take_token}
use Rattle.named_reader.specs.NamedSays.{begin_group, begin_list}

-- ---- the token before is a name

module _ (named : List Bool) {at : ℕ} where
  pub first_token : at ≡ 0 → false ≡ after_name named at
  unfolding after_name
  first_token e = rw e refl

  pub name_there : at ≢ 0 → get_or named (at - 1) false ≡ after_name named at
  unfolding after_name
  name_there e = by at e
    where
      by : (at : ℕ) → at ≢ 0 → get_or named (at - 1) false ≡ after_name named at
      by zero e = absurd (e refl)
      by (suc i) e = ap (λ (k : ℕ). get_or named k false) (omega arith)

  pub name_past : at ≢ 0 → length named ≤ at - 1 → false ≡ after_name named at
  name_past e h = sym (get_or-eq_default named false h) ∙ name_there e

-- ---- by the token's kind

module _ (named : List Bool) (k at : ℕ) (s : State) where
  pub at_name : k ≡ Less → true ≡ after_name named at → no_bracket named k at s ≡ begin_list at s
  unfolding no_bracket begin_list
  at_name e n = rw (e, ← n) refl

  pub at_less : k ≡ Less → false ≡ after_name named at → no_bracket named k at s ≡ plain at s
  unfolding no_bracket
  at_less e n = rw (e, ← n) refl

  not_less : k ≢ Less → (eqb k Less && after_name named at) ≡ false
  not_less q = rw (ne_eqb k Less q) refl

  pub is_greater : k ≡ Greater → no_bracket named k at s ≡ at_greater at s.frames s
  unfolding no_bracket
  is_greater e = rw e refl

  pub is_shift : k ≡ ShiftRight → no_bracket named k at s ≡ at_shift at s.frames s
  unfolding no_bracket
  is_shift e = rw e refl

  pub is_comma : k ≡ Comma → no_bracket named k at s ≡ at_comma at s.frames s
  unfolding no_bracket
  is_comma e = rw e refl

  pub is_other : k ≢ Less → k ≢ Greater → k ≢ ShiftRight → k ≢ Comma → no_bracket named k at s ≡ plain at s
  unfolding no_bracket
  is_other l g h c = rw (not_less l, ne_eqb k Greater g, ne_eqb k ShiftRight h, ne_eqb k Comma c) refl

  pub is_left_paren : k ≡ LeftParen → take_token named k at s ≡ begin_group Parenthesis at s
  unfolding take_token in_role role begin_group
  is_left_paren e = rw e refl

  pub is_left_bracket : k ≡ LeftBracket → take_token named k at s ≡ begin_group Bracket at s
  unfolding take_token in_role role begin_group
  is_left_bracket e = rw e refl

  pub is_right_paren : k ≡ RightParen → take_token named k at s ≡ at_closer Parenthesis s.frames s
  unfolding take_token in_role role
  is_right_paren e = rw e refl

  pub is_right_bracket : k ≡ RightBracket → take_token named k at s ≡ at_closer Bracket s.frames s
  unfolding take_token in_role role
  is_right_bracket e = rw e refl

  pub is_no_bracket : k ≢ LeftParen → k ≢ LeftBracket → k ≢ RightParen → k ≢ RightBracket → take_token named k at s ≡ no_bracket named k at s
  unfolding take_token in_role role
  is_no_bracket a b c d = rw (ne_eqb k LeftParen a, ne_eqb k LeftBracket b, ne_eqb k RightParen c, ne_eqb k RightBracket d) refl
