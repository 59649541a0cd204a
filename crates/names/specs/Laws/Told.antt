-- What callers are told: of the name list, by the answer's cases, and of a row's marks. Assumes nothing.
use Prim.Native.Nat.{ℕ, zero, suc, ◌<◌}
use Rattle.std.specs.Prelude.{◌≡◌, Bool}
use Rattle.std.proofs.Math.Path.{ap, subst}
use Rattle.std.proofs.Common.{◌∙◌, arith}
use Rattle.std.proofs.Math.Bool.{true, false}
use mathlib.Core.List.{List, [], ◌∷◌}
use Rattle.std.proofs.Math.ListN.{length, get_or, length-map}
use Rattle.rows.specs.Kinds.{Less}
use Rattle.rows.specs.Format.{format, head_length, most_tokens}
use Rattle.rows.specs.Records.{RowToken, kinds_of, places_of}
use Rattle.rows.specs.Laws.RowFacts.{WordsFound, words_found}
use Rattle.names.specs.NameList.{is_name, NameList, listed, malformed, name_list, names_marked}
use Rattle.names.specs.NamesSay.{word_of, Table, NamesListed, NamesTold, ReadsNames, RowIs, Marks}

-- ---- `read_names`

module _ {file heads links places : List ℕ} {count : ℕ} {r : Bool} (h : ReadsNames file r count heads links places) where
  pub listed_there : r ≡ true → NamesListed file count heads links places
  listed_there e = subst (λ (x : Bool). NamesTold file x count heads links places) e h.told

  pub malformed_there : r ≡ false → name_list file ≡ malformed
  malformed_there e = subst (λ (x : Bool). NamesTold file x count heads links places) e h.told

-- ---- `mark_names`

-- A file lists one list of names.
same_names : (x : NameList) {ns ms : List (List ℕ)} → x ≡ listed ns → x ≡ listed ms → ns ≡ ms
same_names x p q = cc

module _ {file kinds names heads links places : List ℕ} {marks marks' : List Bool} {count : ℕ} where
  -- The marks of a row: those of its words, at each token directly before a `<`.
  pub marks_of_row : NamesListed names count heads links places → Marks file kinds names heads links places marks marks' → (ns : List (List ℕ)) → name_list names ≡ listed ns
      → (ts : List RowToken) → RowIs file kinds ts → (i : ℕ) → suc i < length ts → get_or kinds (suc i) 0 ≡ Less → get_or marks' i false ≡ get_or (names_marked ns ts) i false
  unfolding kinds_of places_of names_marked
  marks_of_row l m ns e ts r i p less =
      let long : length kinds ≡ length ts = ap length r.kinds_are ∙ length-map ts (λ (t : RowToken). t.kind) in
      let table : Table names ns heads links places = subst (λ (x : List (List ℕ)). Table names x heads links places) (same_names (name_list names) l.is e) l.table in
      (m.says ts r ns table).marked i (omega arith) less ∙ by_place ts (words_found format file most_tokens head_length ts r.row_is) i (omega arith)
    where
      by_place : (ts : List RowToken) → WordsFound format file ts → (i : ℕ) → i < length ts → is_name ns (word_of file (get_or (places_of ts) i 0)) ≡ get_or (names_marked ns ts) i false
      by_place [] w i p = absurd (omega arith)
      by_place (t ∷ ts) w zero p = ap (is_name ns) w.0
      by_place (t ∷ ts) w (suc i) p = by_place ts w.1 i (omega arith)
