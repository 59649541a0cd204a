-- Where the prescan gives 13: at a comma outside brackets and angles, after tokens that are no fault; and that it gives it there. Assumes nothing.
use Prim.Native.Nat.{ℕ, suc, ◌+◌, ◌-◌, ◌<◌}
use Rattle.std.proofs.Math.Path.{◌≡◌, refl, sym, ap, subst}
use Rattle.std.proofs.Common.{◌∙◌}
use Rattle.std.specs.Prelude.{◌&&◌, get_or, take}
use Rattle.std.proofs.Math.Bool.{not}
use mathlib.Core.List.{List, [], ◌∷◌, ◌++◌}
use native.Mathlib.Omega.{arith}
use Rattle.std.proofs.Math.Facts.{and_yes}
use Rattle.std.proofs.Math.ListN.{length, drop}
use Rattle.std.proofs.Math.Seq.{split_at, length-take-le}
use Rattle.std.proofs.Math.Dec.{T, leb, eqb, eqb→eq}
use Rattle.rows.specs.Kinds.{Comma, Less, Greater, ShiftRight, End, NoToken}
use Rattle.rows.specs.Refusals.{refusal_of}
use Rattle.rows.specs.Laws.Tests.{by_if}
use Rattle.rows.specs.declared.answer.Delimiter.{Delimiter}
use Rattle.rows.specs.declared.answer.TypeNameError.{TypeNameError}
use Rattle.rows.specs.declared.answer.TypeNameError.TheVariants.{TopLevelComma}
use Rattle.prescan.specs.Matcher.{Role, opens, closes, neither, role, same, Opener}
use Rattle.prescan.specs.Prescan.{Scan, Scanned, passed, refused, start, close, opens_angle, outside_brackets, no_bracket, in_role, take_token, scan, valid_start, valid_end, row_end, at_row_end, prescan}
use Rattle.type_list.specs.Parts.{cut_number}
use Rattle.type_list.specs.Cutting.{EndsOutside}

-- Which of the two a prescan comes to, as a number.
abbrev is_refused : Scanned → ℕ
is_refused (passed s) = 0
is_refused (refused e) = 1

-- The refusal's number, 0 if there is none.
abbrev number_in : Scanned → ℕ
number_in (passed s) = 0
number_in (refused e) = (refusal_of e).number

abbrev token_in : Scanned → ℕ
token_in (passed s) = 0
token_in (refused e) = (refusal_of e).token

-- ---- one token

-- A comma outside brackets and angles, which the refusal names.
record CommaHere (k at : ℕ) (s : Scan) (e : TypeNameError) : Type 0 where
  is_comma : k ≡ Comma
  outside : s.open_brackets ≡ []
  no_angle : s.angle_depth ≡ 0
  names : (refusal_of e).token ≡ at

abbrev CutHere : (k at : ℕ) (s : Scan) → Scanned → Type 0
CutHere k at s (passed s') = Unit {0}
CutHere k at s (refused e) = (refusal_of e).number ≡ cut_number → CommaHere k at s e

close_here : (d : Delimiter) (k at : ℕ) (held : List Opener) (s : Scan) → CutHere k at s (close d k at held s)
unfolding close
close_here d k at [] s = λ q. absurd (omega (arith, q))
close_here d k at (o ∷ outer) s = by_if (CutHere k at s) (same o.delimiter d) (λ _. tt) (λ _ q. absurd (omega (arith, q)))

module _ (language : ℕ) where
  outside_here : (k at : ℕ) (s : Scan) → s.open_brackets ≡ [] → CutHere k at s (outside_brackets language k at s)
  unfolding outside_brackets
  outside_here k at s o =
      by_if (CutHere k at s) (eqb k Less && not (opens_angle language s.last)) (λ _ q. absurd (omega (arith, q))) λ _.
      by_if (CutHere k at s) (eqb k Less) (λ _. tt) λ _.
      by_if (CutHere k at s) (eqb k Greater && eqb s.angle_depth 0) (λ _ q. absurd (omega (arith, q))) λ _.
      by_if (CutHere k at s) (eqb k Greater) (λ _. tt) λ _.
      by_if (CutHere k at s) (eqb k ShiftRight && eqb s.angle_depth 1) (λ _ q. absurd (omega (arith, q))) λ _.
      by_if (CutHere k at s) (eqb k ShiftRight && leb 2 s.angle_depth) (λ _. tt) λ _.
      by_if (CutHere k at s) (eqb k Comma && eqb s.angle_depth 0) (λ t _. here (and_yes (eqb k Comma) (eqb s.angle_depth 0) t)) (λ _. tt)
    where
      here : T (eqb k Comma) × T (eqb s.angle_depth 0) → CommaHere k at s (TopLevelComma at)
      here t = record { is_comma = eqb→eq k Comma t.0; outside = o; no_angle = eqb→eq s.angle_depth 0 t.1; names = refl }

  no_bracket_here : (k at : ℕ) (held : List Opener) (s : Scan) → s.open_brackets ≡ held → CutHere k at s (no_bracket language k at held s)
  unfolding no_bracket
  no_bracket_here k at [] s o = outside_here k at s o
  no_bracket_here k at (h ∷ outer) s o = tt

  in_role_here : (r : Role) (k at : ℕ) (s : Scan) → CutHere k at s (in_role language r k at s)
  unfolding in_role
  in_role_here (opens d) k at s = tt
  in_role_here (closes d) k at s = close_here d k at s.open_brackets s
  in_role_here neither k at s = by_if (CutHere k at s) (eqb k End) (λ _ q. absurd (omega (arith, q))) λ _. no_bracket_here k at s.open_brackets s refl

  take_here : (k at : ℕ) (s : Scan) → CutHere k at s (take_token language k at (passed s))
  unfolding take_token
  take_here k at s = in_role_here (role k) k at s

  -- A comma there is refused.
  comma_refused : (at : ℕ) (s : Scan) → s.open_brackets ≡ [] → s.angle_depth ≡ 0 → take_token language Comma at (passed s) ≡ refused (TopLevelComma at)
  unfolding take_token role in_role no_bracket outside_brackets
  comma_refused at s o d = rw (o, d) refl

  -- ---- the tokens in order

  -- After a fault nothing changes.
  scan_refused : (at : ℕ) (ks : List ℕ) (e : TypeNameError) → scan language at ks (refused e) ≡ refused e
  unfolding scan take_token
  scan_refused at [] e = refl
  scan_refused at (k ∷ ks) e = scan_refused (suc at) ks e

  scan_append : (at : ℕ) (xs ys : List ℕ) (r : Scanned) → scan language at (xs ++ ys) r ≡ scan language (at + length xs) ys (scan language at xs r)
  unfolding scan
  scan_append at [] ys r = let same : at + 0 ≡ at = omega arith in rw same refl
  scan_append at (x ∷ xs) ys r =
      let same : at + suc (length xs) ≡ suc at + length xs = omega arith in
      scan_append (suc at) xs ys (take_token language x at r) ∙ ap (λ (n : ℕ). scan language n ys (scan language (suc at) xs (take_token language x at r))) (sym same)

  -- The token numbered n is a comma there.
  pub record CutAt (at : ℕ) (ks : List ℕ) (s : Scan) (n : ℕ) : Type 0 where
    pub inside : n < length ks
    pub is_comma : get_or ks n 0 ≡ Comma
    pub ends : EndsOutside language at (take n ks) s

  scan_cut : (at : ℕ) (ks : List ℕ) (s : Scan) (e : TypeNameError) → scan language at ks (passed s) ≡ refused e → (refusal_of e).number ≡ cut_number
      → (n : ℕ) × ((refusal_of e).token ≡ at + n) × CutAt at ks s n
  unfolding scan
  scan_cut at [] s e q c = let clash : ◌≡◌ {A = ℕ} 0 1 = ap is_refused q in absurd (omega (arith, clash))
  scan_cut at (k ∷ ks) s e q c = step (take_token language k at (passed s)) refl q (λ s' g. scan_cut (suc at) ks s' e g c)
    where
      step : (r : Scanned) → take_token language k at (passed s) ≡ r → scan language (suc at) ks r ≡ refused e
          → ((s' : Scan) → scan language (suc at) ks (passed s') ≡ refused e → (n : ℕ) × ((refusal_of e).token ≡ suc at + n) × CutAt (suc at) ks s' n)
          → (n : ℕ) × ((refusal_of e).token ≡ at + n) × CutAt at (k ∷ ks) s n
      step (refused e') t g rest =
          let here = subst (CutHere k at s) t (take_here k at s) in
          let g' : refused e' ≡ refused e = sym (scan_refused (suc at) ks e') ∙ g in
          let number : (refusal_of e').number ≡ (refusal_of e).number = ap number_in g' in
          let token : (refusal_of e').token ≡ (refusal_of e).token = ap token_in g' in
          let found = here (number ∙ c) in (
            0,
            omega (arith, found.names, token),
            record { inside = omega arith; is_comma = found.is_comma; ends = record { state = s; scanned = refl; outside = found.outside; no_angle = found.no_angle } },
          )
      step (passed s') t g rest =
          let (n, named, found) = rest s' g in (
            suc n,
            omega (arith, named),
            record {
              inside = omega (arith, found.inside);
              is_comma = found.is_comma;
              ends =
                  record {
                    state = found.ends.state;
                    scanned = ap (scan language (suc at) (take n ks)) t ∙ found.ends.scanned;
                    outside = found.ends.outside;
                    no_angle = found.ends.no_angle;
                  };
            },
          )

  -- ---- the row's end gives no 13

  abbrev pub NoCut : Scanned → Type 0
  NoCut (passed s) = Unit {0}
  NoCut (refused e) = (refusal_of e).number ≡ cut_number → ⊥

  row_end_no_cut : (kinds : List ℕ) (held : List Opener) (s : Scan) → NoCut (row_end language kinds held s)
  unfolding row_end
  row_end_no_cut kinds [] s =
      by_if NoCut (not (eqb s.angle_depth 0)) (λ _ q. omega (arith, q)) λ _.
      by_if NoCut (not s.has_word) (λ _ q. omega (arith, q)) λ _.
      by_if NoCut (valid_start (get_or kinds 0 NoToken) && valid_end language (get_or kinds (length kinds - 2) NoToken) (get_or kinds (length kinds - 1) NoToken)) (λ _. tt) (λ _ q. omega (arith, q))
  row_end_no_cut kinds (o ∷ outer) s = λ q. omega (arith, q)

  -- ---- the prescan

  pub prescan_cut : (kinds : List ℕ) (e : TypeNameError) → prescan language kinds ≡ refused e → (refusal_of e).number ≡ cut_number → CutAt 0 kinds start (refusal_of e).token
  unfolding prescan at_row_end
  prescan_cut [] e q c = let clash : ◌≡◌ {A = ℕ} 10 (refusal_of e).number = ap number_in q in absurd (omega (arith, clash, c))
  prescan_cut (k ∷ ks) e q c = by (scan language 0 (k ∷ ks) (passed start)) refl q
    where
      by : (r : Scanned) → scan language 0 (k ∷ ks) (passed start) ≡ r → at_row_end language (k ∷ ks) r ≡ refused e → CutAt 0 (k ∷ ks) start (refusal_of e).token
      by (refused e') t g =
          let (n, named, found) = scan_cut 0 (k ∷ ks) start e (t ∙ g) c in
          let same : n ≡ (refusal_of e).token = omega (arith, named) in
          subst (CutAt 0 (k ∷ ks) start) same found
      by (passed s) t g = absurd (subst NoCut g (row_end_no_cut (k ∷ ks) s.open_brackets s) c)

  -- Tokens without a fault have no cut,
  pub scanned_no_cut : (kinds : List ℕ) (s : Scan) → scan language 0 kinds (passed start) ≡ passed s → NoCut (prescan language kinds)
  unfolding prescan at_row_end
  scanned_no_cut [] s q = λ c. omega (arith, c)
  scanned_no_cut (k ∷ ks) s q = subst (λ (r : Scanned). NoCut (at_row_end language (k ∷ ks) r)) (sym q) (row_end_no_cut (k ∷ ks) s.open_brackets s)

  -- and a comma there is one.
  pub comma_is_cut : (kinds : List ℕ) (n : ℕ) → CutAt 0 kinds start n → prescan language kinds ≡ refused (TopLevelComma n)
  unfolding scan prescan at_row_end
  comma_is_cut kinds n c =
      let before : length (take n kinds) ≡ n = length-take-le n kinds (omega (arith, c.inside)) in
      let token : take_token language (get_or kinds n 0) n (passed c.ends.state) ≡ refused (TopLevelComma n) =
      rw c.is_comma (comma_refused n c.ends.state c.ends.outside c.ends.no_angle) in
      let all : scan language 0 kinds (passed start) ≡ refused (TopLevelComma n) =
      ap (λ (l : List ℕ). scan language 0 l (passed start)) (split_at kinds n 0 c.inside)
      ∙ scan_append 0 (take n kinds) (get_or kinds n 0 ∷ drop (suc n) kinds) (passed start)
      ∙ ap (scan language (0 + length (take n kinds)) (get_or kinds n 0 ∷ drop (suc n) kinds)) c.ends.scanned
      ∙ ap (λ (m : ℕ). scan language m (get_or kinds n 0 ∷ drop (suc n) kinds) (passed c.ends.state)) (zero_plus ∙ before)
      ∙ one_more token in
      full kinds c.inside all
    where
      zero_plus : 0 + length (take n kinds) ≡ length (take n kinds)
      zero_plus = omega arith

      one_more : take_token language (get_or kinds n 0) n (passed c.ends.state) ≡ refused (TopLevelComma n)
          → scan language n (get_or kinds n 0 ∷ drop (suc n) kinds) (passed c.ends.state) ≡ refused (TopLevelComma n)
      one_more t = ap (scan language (suc n) (drop (suc n) kinds)) t ∙ scan_refused (suc n) (drop (suc n) kinds) (TopLevelComma n)

      full : (ks : List ℕ) → n < length ks → scan language 0 ks (passed start) ≡ refused (TopLevelComma n) → prescan language ks ≡ refused (TopLevelComma n)
      full [] p q = absurd (omega arith)
      full (k ∷ ks) p q = rw q refl
