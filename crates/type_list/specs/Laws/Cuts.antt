-- Cutting a row: the first part and the parts behind it; the parts are what `CutInto` says, and nothing else is. Assumes nothing.
use Prim.Native.Nat.{ℕ, zero, suc, ◌≤◌, ◌<◌}
use Rattle.std.specs.Prelude.{◌≡◌, ◌⊎◌, Bool, drop, if◌then◌else◌}
use Rattle.std.proofs.Math.Path.{refl, ap}
use Rattle.std.proofs.Common.{sym, ◌∙◌, subst, ⊎_elim, arith, lt_of_not-le, length-append, take_all, drop_at}
use Rattle.std.proofs.Math.Logic.{inl, inr}
use Rattle.std.proofs.Math.Bool.{true, false}
use mathlib.Core.List.{List, [], ◌∷◌, ◌++◌}
use Rattle.std.proofs.Math.Decide.{dec_le}
use borrow.Author.Tests.{eqb-true, eqb-false, ltb-true, lt-ltb, le-ltb, eq-eqb, ne_eqb}
use Rattle.std.proofs.Math.ListN.{length, take, length-drop}
use Rattle.std.proofs.Math.Seq.{take-append_seam, drop-append_seam}
use Rattle.std.proofs.Math.Dec.{eqb, ltb}
use Rattle.rows.specs.Kinds.{Comma}
use Rattle.rows.specs.Records.{RowToken, kinds_of}
use Rattle.rows.specs.Refusals.{refusal_of}
use Rattle.rows.specs.declared.answer.TypeNameError.{TypeNameError}
use Rattle.prescan.specs.Prescan.{Scanned, passed, refused, start, prescan}
use Rattle.type_list.specs.Parts.{cut_number, up_to_cut, first_part, part_length, parts_in, parts}
use Rattle.type_list.specs.Cutting.{EndsOutside, NoCommaOutside, PartBefore, CutInto}
use Rattle.type_list.specs.Laws.Slices.{kinds_take, kinds_length, split_token}
use Rattle.type_list.specs.Laws.Commas.{CutAt, NoCut, prescan_cut, scanned_no_cut, comma_is_cut}

-- ---- the first part

-- Only 13 is a cut.
pub no_cut_at : (count : ℕ) (e : TypeNameError) → ((refusal_of e).number ≡ cut_number → ⊥) → up_to_cut count e ≡ count
unfolding up_to_cut
no_cut_at count e f = rw (ne_eqb (refusal_of e).number cut_number f) refl

pub cut_at : (count : ℕ) (e : TypeNameError) → (refusal_of e).number ≡ cut_number → up_to_cut count e ≡ (refusal_of e).token
unfolding up_to_cut
cut_at count e q = rw (eq-eqb (refusal_of e).number cut_number q) refl

module _ (language : ℕ) where
  -- The first part ends before a comma, or it is the whole row.
  abbrev pub PartEnds : (kinds : List ℕ) → Type 0
  PartEnds kinds =
      CutAt language 0 kinds start (part_length language kinds) ⊎ ((part_length language kinds ≡ length kinds) × NoCut language (prescan language kinds))

  pub part_ends : (kinds : List ℕ) → PartEnds kinds
  unfolding part_length first_part
  part_ends kinds = by (prescan language kinds) refl
    where
      by_number : (e : TypeNameError) → prescan language kinds ≡ refused e → (b : Bool) → eqb (refusal_of e).number cut_number ≡ b
          → CutAt language 0 kinds start (up_to_cut (length kinds) e) ⊎ ((up_to_cut (length kinds) e ≡ length kinds) × NoCut language (refused e))
      by_number e q true t =
          let is_13 = eqb-true (refusal_of e).number cut_number t in
          inl (subst (CutAt language 0 kinds start) (sym (cut_at (length kinds) e is_13)) (prescan_cut language kinds e q is_13))
      by_number e q false t = let f = eqb-false (refusal_of e).number cut_number t in inr (no_cut_at (length kinds) e f, f)

      by : (r : Scanned) → prescan language kinds ≡ r → CutAt language 0 kinds start (first_part (length kinds) r) ⊎ ((first_part (length kinds) r ≡ length kinds) × NoCut language r)
      by (passed s) q = inr (refl, tt)
      by (refused e) q = by_number e q (eqb (refusal_of e).number cut_number) refl

  pub part_within : (kinds : List ℕ) → part_length language kinds ≤ length kinds
  part_within kinds = ⊎_elim (λ c. omega (arith, c.inside)) (λ w. omega (arith, w.0)) (part_ends kinds)

  -- A part that is shorter than the row ends before a comma.
  pub part_cut : (kinds : List ℕ) → part_length language kinds < length kinds → CutAt language 0 kinds start (part_length language kinds)
  part_cut kinds p = ⊎_elim (λ c. c) (λ w. absurd (omega (arith, w.0, p))) (part_ends kinds)

  pub part_whole : (kinds : List ℕ) → length kinds ≤ part_length language kinds → (part_length language kinds ≡ length kinds) × NoCut language (prescan language kinds)
  part_whole kinds p = ⊎_elim (λ c. absurd (omega (arith, c.inside, p))) (λ w. w) (part_ends kinds)

  -- A comma outside brackets and angles is where the part ends.
  pub comma_ends : (kinds : List ℕ) (n : ℕ) → CutAt language 0 kinds start n → part_length language kinds ≡ n
  unfolding part_length first_part up_to_cut
  comma_ends kinds n c = rw (comma_is_cut language kinds n c) refl

  pub no_cut_length : (kinds : List ℕ) → NoCut language (prescan language kinds) → part_length language kinds ≡ length kinds
  unfolding part_length first_part
  no_cut_length kinds f = by (prescan language kinds) f
    where
      by : (r : Scanned) → NoCut language r → first_part (length kinds) r ≡ length kinds
      by (passed s) g = refl
      by (refused e) g = no_cut_at (length kinds) e g

  -- No part has a comma outside brackets and angles before its first fault.
  pub uncut : (kinds : List ℕ) → NoCut language (prescan language kinds) → NoCommaOutside language kinds
  uncut kinds f n p ends comma =
      let c : CutAt language 0 kinds start n = record { inside = p; is_comma = comma; ends = ends } in
      absurd (omega (arith, comma_ends kinds n c, no_cut_length kinds f, p))

  -- A row without such a comma is one part.
  pub uncut_length : (kinds : List ℕ) → NoCommaOutside language kinds → part_length language kinds ≡ length kinds
  uncut_length kinds f = ⊎_elim (λ c. absurd (f _ c.inside c.ends c.is_comma)) (λ w. w.0) (part_ends kinds)

  -- ---- the parts behind it

  -- So many cuts as there are tokens are enough.
  enough : (c d : ℕ) (ts : List RowToken) → length ts ≤ c → length ts ≤ d → parts_in c language ts ≡ parts_in d language ts
  unfolding parts_in part_length first_part prescan up_to_cut kinds_of
  enough zero zero ts p q = refl
  enough zero (suc d) [] p q = refl
  enough zero (suc d) (t ∷ ts) p q = absurd (omega arith)
  enough (suc c) zero [] p q = refl
  enough (suc c) zero (t ∷ ts) p q = absurd (omega arith)
  enough (suc c) (suc d) ts p q =
      let n = part_length language (kinds_of ts) in
      ap (λ (ps : List (List RowToken)). take n ts ∷ ps)
      (both n (ltb n (length ts)) refl
      (λ l. enough c d (drop (suc n) ts) (omega (arith, length-drop (suc n) ts)) (omega (arith, length-drop (suc n) ts))))
    where
      both : (n : ℕ) (b : Bool) → ltb n (length ts) ≡ b → (n < length ts → parts_in c language (drop (suc n) ts) ≡ parts_in d language (drop (suc n) ts))
          → (if b then parts_in c language (drop (suc n) ts) else []) ≡ (if b then parts_in d language (drop (suc n) ts) else [])
      both n true t f = f (ltb-true n (length ts) t)
      both n false t f = refl

  pub parts_cut : (ts : List RowToken) → part_length language (kinds_of ts) < length ts
      → parts language ts ≡ take (part_length language (kinds_of ts)) ts ∷ parts language (drop (suc (part_length language (kinds_of ts))) ts)
  unfolding parts parts_in
  parts_cut [] p = absurd (omega arith)
  parts_cut (t ∷ ts) p =
      let n = part_length language (kinds_of (t ∷ ts)) in
      rw (lt-ltb n (suc (length ts)) p)
      (ap (λ (ps : List (List RowToken)). take n (t ∷ ts) ∷ ps)
      (enough (length ts) (length (drop (suc n) (t ∷ ts))) (drop (suc n) (t ∷ ts)) (omega (arith, length-drop (suc n) (t ∷ ts))) (omega arith)))

  pub parts_whole : (ts : List RowToken) → length ts ≤ part_length language (kinds_of ts) → parts language ts ≡ ts ∷ []
  unfolding parts parts_in
  parts_whole [] p = refl
  parts_whole (t ∷ ts) p =
      let n = part_length language (kinds_of (t ∷ ts)) in
      rw (le-ltb n (suc (length ts)) p) (ap (λ (l : List RowToken). l ∷ []) (take_all n (t ∷ ts) p))

  -- ---- the parts are what cutting is

  module _ (ts : List RowToken) where
    abbrev n : ℕ
    n = part_length language (kinds_of ts)

    abbrev first : List RowToken
    first = take n ts

    pub part_before : n < length ts → PartBefore language ts first (drop (suc n) ts)
    part_before p =
        let c = part_cut (kinds_of ts) (omega (arith, p, kinds_length ts)) in
        let (t, e, k) = split_token n ts p in
        let ends : EndsOutside language 0 (kinds_of first) start = rw (kinds_take n ts) c.ends in
        record { comma = t; put_together = e; is_comma = k ∙ c.is_comma; ends = ends; uncut = uncut (kinds_of first) (scanned_no_cut language (kinds_of first) ends.state ends.scanned) }

    pub last_part : length ts ≤ n → NoCommaOutside language (kinds_of ts)
    last_part p = uncut (kinds_of ts) (part_whole (kinds_of ts) (omega (arith, p, kinds_length ts))).1

  -- ---- what holds of the last part and is kept by a part in front holds of the parts

  module _ (P : List RowToken → List (List RowToken) → Type 0) (at_last : (ts : List RowToken) → length ts ≤ part_length language (kinds_of ts) → P ts (ts ∷ []))
      (at_cut : (ts : List RowToken) → part_length language (kinds_of ts) < length ts → (ps : List (List RowToken)) → P (drop (suc (part_length language (kinds_of ts))) ts) ps
      → P ts (take (part_length language (kinds_of ts)) ts ∷ ps)) where
    up_to : (c : ℕ) (ts : List RowToken) → length ts ≤ c → P ts (parts language ts)
    up_to zero ts p = subst (P ts) (sym (parts_whole ts (omega (arith, p)))) (at_last ts (omega (arith, p)))
    up_to (suc c) ts p =
        elim (dec_le (length ts) (part_length language (kinds_of ts))) [
          | yes q ↦ subst (P ts) (sym (parts_whole ts q)) (at_last ts q)
          | no q ↦
              let l = lt_of_not-le q in
              let n = part_length language (kinds_of ts) in
              subst (P ts) (sym (parts_cut ts l)) (at_cut ts l (parts language (drop (suc n) ts)) (up_to c (drop (suc n) ts) (omega (arith, p, l, length-drop (suc n) ts))))
        ]

    pub over_parts : (ts : List RowToken) → P ts (parts language ts)
    over_parts ts = up_to (length ts) ts (omega arith)

  -- The parts are a cutting,
  in_front : (row part rest : List RowToken) → PartBefore language row part rest → (ps : List (List RowToken)) → CutInto language rest ps → CutInto language row (part ∷ ps)
  in_front row part rest b [] c = absurd c
  in_front row part rest b (q ∷ ps) c = (rest, b, c)

  pub parts_cut_into : (ts : List RowToken) → CutInto language ts (parts language ts)
  parts_cut_into = over_parts (CutInto language) (λ ts p. (refl, last_part ts p)) λ ts p ps c. in_front ts _ _ (part_before ts p) ps c

  -- and the only one.
  cut_there : (part : List RowToken) (comma : RowToken) (rest : List RowToken) → comma.kind ≡ Comma → EndsOutside language 0 (kinds_of part) start
      → CutAt language 0 (kinds_of (part ++ comma ∷ rest)) start (length part)
  cut_there part comma rest c e =
      let row = part ++ comma ∷ rest in
      let here : length part < length row = omega (arith, length-append part (comma ∷ rest)) in
      let (t, s, k) = split_token (length part) row here in
      let front : take (length part) row ≡ part = take-append_seam part (comma ∷ rest) in
      let behind : drop (length part) row ≡ comma ∷ rest = drop-append_seam part (comma ∷ rest) in
      let behind' : drop (length part) row ≡ t ∷ drop (suc (length part)) row = ap (drop (length part)) s ∙ drop_at (take (length part) row) _ (length part) (ap length front) in
      let same : t ≡ comma = heads (sym behind' ∙ behind) in
      record {
        inside = omega (arith, here, kinds_length row);
        is_comma = sym k ∙ ap (λ (u : RowToken). u.kind) same ∙ c;
        ends = rw (← (kinds_take (length part) row), front) e;
      }
    where
      heads : {u v : RowToken} {us vs : List RowToken} → u ∷ us ≡ v ∷ vs → u ≡ v
      heads q = cc

  pub one_cutting : (ps : List (List RowToken)) (ts : List RowToken) → CutInto language ts ps → parts language ts ≡ ps
  one_cutting [] ts c = absurd c
  one_cutting (p ∷ []) ts (e, f) = rw e (parts_whole p (omega (arith, uncut_length (kinds_of p) f, kinds_length p)))
  one_cutting (p ∷ (q ∷ ps)) ts (rest, b, c) =
      let row = p ++ b.comma ∷ rest in
      let n : part_length language (kinds_of row) ≡ length p = comma_ends (kinds_of row) (length p) (cut_there p b.comma rest b.is_comma b.ends) in
      let inside : part_length language (kinds_of row) < length row = omega (arith, n, length-append p (b.comma ∷ rest)) in
      let behind : drop (suc (length p)) row ≡ rest = behind_comma p in
      rw b.put_together (parts_cut row inside ∙ rw (n, take-append_seam p (b.comma ∷ rest), behind, one_cutting (q ∷ ps) rest c) refl)
    where
      behind_comma : (p : List RowToken) → drop (suc (length p)) (p ++ b.comma ∷ rest) ≡ rest
      behind_comma [] = refl
      behind_comma (t ∷ p) = behind_comma p
