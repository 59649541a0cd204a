-- A row that passes the prescan has all its brackets paired: the plain matcher goes on as the prescan does, with the same openers held.
-- Assumes nothing.
use Rattle.std.specs.Prelude.{ℕ, suc, refl, Bool, true, false, ◌&&◌, if◌then◌else◌, Some}
use Rattle.std.proofs.Math.Path.{◌≡◌}
use Rattle.std.proofs.Math.Bool.{not}
use mathlib.Core.List.{List, [], ◌∷◌}
use Rattle.std.proofs.Common.{arith}
use Rattle.std.proofs.Math.Dec.{leb, eqb}
use Rattle.rows.specs.Kinds.{Comma, Less, Greater, ShiftRight, End}
use Rattle.rows.specs.Laws.Tests.{by_if}
use Rattle.rows.specs.declared.answer.Delimiter.{Delimiter}
use Rattle.rows.specs.declared.answer.TypeNameError.TheVariants.{UnexpectedClosingDelimiter}
use Rattle.prescan.specs.Matcher.{Role, opens, closes, neither, role, same, Opener, Pair, Matcher, stopped, going, pop, meet, matcher, Paired}
use Rattle.prescan.specs.Prescan.{Scan, Scanned, passed, refused, start, past, close, opens_angle, outside_brackets, no_bracket, in_role, take_token, scan, row_end, at_row_end, prescan}

-- The matcher has gone on as the prescan has.
abbrev Follows : Scanned → Matcher → Type 0
Follows (refused e) m = Unit {0}
Follows (passed s) m = (pairs : List Pair) × (m ≡ going s.open_brackets pairs)

close_follows : (d : Delimiter) (k at : ℕ) (held : List Opener) (s : Scan) (pairs : List Pair) → Follows (close d k at held s) (pop d at held pairs)
unfolding close pop past
close_follows d k at [] s pairs = tt
close_follows d k at (o ∷ outer) s pairs = both (same o.delimiter d)
  where
    both : (b : Bool)
        → Follows (if b then passed (past k s outer s.angle_depth s.first_angle) else refused (UnexpectedClosingDelimiter (Some o.delimiter) d at))
        (if b then going outer (record { opener = o.token; closer = at } ∷ pairs) else stopped)
    both true = (record { opener = o.token; closer = at } ∷ pairs, refl)
    both false = tt

module _ (language : ℕ) where
  outside_follows : (k at : ℕ) (s : Scan) (pairs : List Pair) → Follows (outside_brackets language k at s) (going [] pairs)
  unfolding outside_brackets past
  outside_follows k at s pairs =
      let P : Scanned → Type 0 = λ r. Follows r (going [] pairs) in
      by_if P (eqb k Less && not (opens_angle language s.last)) (λ _. tt) λ _.
      by_if P (eqb k Less) (λ _. (pairs, refl)) λ _.
      by_if P (eqb k Greater && eqb s.angle_depth 0) (λ _. tt) λ _.
      by_if P (eqb k Greater) (λ _. (pairs, refl)) λ _.
      by_if P (eqb k ShiftRight && eqb s.angle_depth 1) (λ _. tt) λ _.
      by_if P (eqb k ShiftRight && leb 2 s.angle_depth) (λ _. (pairs, refl)) λ _.
      by_if P (eqb k Comma && eqb s.angle_depth 0) (λ _. tt) (λ _. (pairs, refl))

  no_bracket_follows : (k at : ℕ) (held : List Opener) (s : Scan) (pairs : List Pair) → Follows (no_bracket language k at held s) (going held pairs)
  unfolding no_bracket past
  no_bracket_follows k at [] s pairs = outside_follows k at s pairs
  no_bracket_follows k at (o ∷ outer) s pairs = (pairs, refl)

  in_role_follows : (r : Role) (k at : ℕ) (s : Scan) (pairs : List Pair) → Follows (in_role language r k at s) (meet r at (going s.open_brackets pairs))
  unfolding in_role meet past
  in_role_follows (opens d) k at s pairs = (pairs, refl)
  in_role_follows (closes d) k at s pairs = close_follows d k at s.open_brackets s pairs
  in_role_follows neither k at s pairs =
      by_if (λ r. Follows r (going s.open_brackets pairs)) (eqb k End) (λ _. tt) (λ _. no_bracket_follows k at s.open_brackets s pairs)

  scan_follows : (at : ℕ) (ks : List ℕ) (r : Scanned) (m : Matcher) → Follows r m → Follows (scan language at ks r) (matcher at ks m)
  unfolding scan matcher take_token meet
  scan_follows at [] r m f = f
  scan_follows at (k ∷ ks) (refused e) m f = scan_follows (suc at) ks (refused e) (meet (role k) at m) tt
  scan_follows at (k ∷ ks) (passed s) m f =
      scan_follows (suc at) ks (in_role language (role k) k at s) (meet (role k) at m) (rw f.1 (in_role_follows (role k) k at s f.0))

  -- The row's end refuses an opener that is still held.
  end_paired : (kinds : List ℕ) (r : Scanned) (m : Matcher) → Follows r m → (s : Scan) → at_row_end language kinds r ≡ passed s → (pairs : List Pair) × (m ≡ going [] pairs)
  unfolding at_row_end row_end
  end_paired kinds (refused e) m f s p = let z : ◌≡◌ {A = ℕ} 0 1 = cc in absurd (omega arith)
  end_paired kinds (passed s') m f s p = by_held s'.open_brackets f.1 p
    where
      by_held : (held : List Opener) → m ≡ going held f.0 → row_end language kinds held s' ≡ passed s → (pairs : List Pair) × (m ≡ going [] pairs)
      by_held [] q p = (f.0, q)
      by_held (o ∷ outer) q p = let z : ◌≡◌ {A = ℕ} 0 1 = cc in absurd (omega arith)

  pub prescan_pairs : (kinds : List ℕ) (s : Scan) → prescan language kinds ≡ passed s → (pairs : List Pair) × Paired kinds pairs
  unfolding prescan start matcher
  prescan_pairs [] s p = ([], refl)
  prescan_pairs (k ∷ ks) s p =
      end_paired (k ∷ ks) (scan language 0 (k ∷ ks) (passed start)) (matcher 0 (k ∷ ks) (going [] []))
      (scan_follows 0 (k ∷ ks) (passed start) (going [] []) ([], refl)) s p
