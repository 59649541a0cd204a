-- The prescan's refusals are those from 10 to 18.
-- Assumes nothing.
use Rattle.std.specs.Prelude.{ℕ, suc, ◌-◌, ◌&&◌, length, get_or, Some}
use Rattle.std.proofs.Math.Bool.{not}
use mathlib.Core.List.{List, [], ◌∷◌}
use Rattle.std.proofs.Math.Dec.{leb, eqb}
use Rattle.rows.specs.Kinds.{NoToken, Comma, Less, Greater, ShiftRight, End}
use Rattle.rows.specs.Laws.Tests.{by_if}
use Rattle.rows.specs.Laws.Numbered.{Between}
use Rattle.rows.specs.declared.answer.Delimiter.{Delimiter}
use Rattle.rows.specs.declared.answer.Delimiter.TheVariants.{Parenthesis, Bracket}
use Rattle.rows.specs.declared.answer.TypeNameError.TheVariants.{UnexpectedClosingDelimiter}
use Rattle.prescan.specs.Matcher.{Role, opens, closes, neither, role, same, Opener}
use Rattle.prescan.specs.Prescan.{Scan, Scanned, passed, refused, start, close, opens_angle, outside_brackets, no_bracket, in_role, take_token, scan, valid_start, valid_end, row_end, at_row_end, prescan}

abbrev pub Numbered : Scanned → Type 0
Numbered (passed s) = Unit {0}
Numbered (refused e) = Between 10 18 e

close_numbered : (d : Delimiter) (k at : ℕ) (held : List Opener) (s : Scan) → Numbered (close d k at held s)
unfolding close
close_numbered d k at [] s = tt
close_numbered d k at (o ∷ outer) s = by_if Numbered (same o.delimiter d) (λ _. tt) λ _. other o.delimiter
  where
    other : (d' : Delimiter) → Between 10 18 (UnexpectedClosingDelimiter (Some d') d at)
    other Parenthesis = tt
    other Bracket = tt

module _ (language : ℕ) where
  outside_numbered : (k at : ℕ) (s : Scan) → Numbered (outside_brackets language k at s)
  unfolding outside_brackets
  outside_numbered k at s =
      by_if Numbered (eqb k Less && not (opens_angle language s.last)) (λ _. tt) λ _.
      by_if Numbered (eqb k Less) (λ _. tt) λ _.
      by_if Numbered (eqb k Greater && eqb s.angle_depth 0) (λ _. tt) λ _.
      by_if Numbered (eqb k Greater) (λ _. tt) λ _.
      by_if Numbered (eqb k ShiftRight && eqb s.angle_depth 1) (λ _. tt) λ _.
      by_if Numbered (eqb k ShiftRight && leb 2 s.angle_depth) (λ _. tt) λ _.
      by_if Numbered (eqb k Comma && eqb s.angle_depth 0) (λ _. tt) (λ _. tt)

  no_bracket_numbered : (k at : ℕ) (held : List Opener) (s : Scan) → Numbered (no_bracket language k at held s)
  unfolding no_bracket
  no_bracket_numbered k at [] s = outside_numbered k at s
  no_bracket_numbered k at (o ∷ outer) s = tt

  in_role_numbered : (r : Role) (k at : ℕ) (s : Scan) → Numbered (in_role language r k at s)
  unfolding in_role
  in_role_numbered (opens d) k at s = tt
  in_role_numbered (closes d) k at s = close_numbered d k at s.open_brackets s
  in_role_numbered neither k at s = by_if Numbered (eqb k End) (λ _. tt) λ _. no_bracket_numbered k at s.open_brackets s

  take_numbered : (k at : ℕ) (r : Scanned) → Numbered r → Numbered (take_token language k at r)
  unfolding take_token
  take_numbered k at (refused e) p = p
  take_numbered k at (passed s) p = in_role_numbered (role k) k at s

  scan_numbered : (at : ℕ) (ks : List ℕ) (r : Scanned) → Numbered r → Numbered (scan language at ks r)
  unfolding scan
  scan_numbered at [] r p = p
  scan_numbered at (k ∷ ks) r p = scan_numbered (suc at) ks (take_token language k at r) (take_numbered k at r p)

  row_end_numbered : (kinds : List ℕ) (held : List Opener) (s : Scan) → Numbered (row_end language kinds held s)
  unfolding row_end
  row_end_numbered kinds [] s =
      by_if Numbered (not (eqb s.angle_depth 0)) (λ _. tt) λ _.
      by_if Numbered (not s.has_word) (λ _. tt) λ _.
      by_if Numbered (valid_start (get_or kinds 0 NoToken) && valid_end language (get_or kinds (length kinds - 2) NoToken) (get_or kinds (length kinds - 1) NoToken)) (λ _. tt) (λ _. tt)
  row_end_numbered kinds (o ∷ outer) s = tt

  at_row_end_numbered : (kinds : List ℕ) (r : Scanned) → Numbered r → Numbered (at_row_end language kinds r)
  unfolding at_row_end
  at_row_end_numbered kinds (refused e) p = p
  at_row_end_numbered kinds (passed s) p = row_end_numbered kinds s.open_brackets s

  pub prescan_numbered : (kinds : List ℕ) → Numbered (prescan language kinds)
  unfolding prescan
  prescan_numbered [] = tt
  prescan_numbered (k ∷ ks) = at_row_end_numbered (k ∷ ks) (scan language 0 (k ∷ ks) (passed start)) (scan_numbered 0 (k ∷ ks) (passed start) tt)
