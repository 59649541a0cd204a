-- The parts of a row: document 02, C-12, "Read it as parts cut at commas outside brackets and angles, each part as its own row".
-- Assumes nothing.
use Rattle.std.specs.Prelude.{ℕ, zero, suc, List, [], ◌∷◌, length, take, drop, eqb, ltb, if◌then◌else◌}
use Rattle.rows.specs.Records.{RowToken, kinds_of}
use Rattle.rows.specs.Refusals.{refusal_of}
use Rattle.rows.specs.declared.answer.TypeNameError.{TypeNameError}
use Rattle.rows.specs.declared.answer.TypeNameError.TheVariants.{TopLevelComma}
use Rattle.prescan.specs.Prescan.{Scanned, passed, refused, prescan}

-- Document 01's "13 comma outside brackets and angles": the refusal's number.
abbrev pub cut_number : ℕ
cut_number = (refusal_of (TopLevelComma 0)).number

-- "Cut at commas outside brackets and angles": a part ends at the comma that the prescan refuses with 13. Any other "prescan fault ends the cutting,
-- and the last part then runs to the row's end".
unfoldable pub up_to_cut : (count : ℕ) → TypeNameError → ℕ
up_to_cut count e = if eqb (refusal_of e).number cut_number then (refusal_of e).token else count

-- How many tokens the first part of a row has, by the row's prescan: "The angle depth at a comma is the prescan's".
unfoldable pub first_part : (count : ℕ) → Scanned → ℕ
unfolding up_to_cut
first_part count (refused e) = up_to_cut count e
first_part count (passed s) = count

unfoldable pub part_length : (language : ℕ) (kinds : List ℕ) → ℕ
unfolding first_part
part_length language kinds = first_part (length kinds) (prescan language kinds)

-- The first part, and the parts of what stands behind its comma, if there is one: with at most so many cuts.
unfoldable pub parts_in : (cuts language : ℕ) → List RowToken → List (List RowToken)
unfolding part_length kinds_of
parts_in zero language ts = ts ∷ []
parts_in (suc cuts) language ts =
    let n = part_length language (kinds_of ts) in
    take n ts ∷ (if ltb n (length ts) then parts_in cuts language (drop (suc n) ts) else [])

-- "Parts cut at commas": no row has more cuts than tokens.
unfoldable pub parts : (language : ℕ) → List RowToken → List (List RowToken)
unfolding parts_in
parts language ts = parts_in (length ts) language ts
