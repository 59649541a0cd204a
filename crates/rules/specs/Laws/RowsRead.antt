-- The row that was read from a file, as the search for a winner wants it. Assumes nothing.
use Rattle.std.specs.Prelude.{ℕ, zero, suc, ◌≤◌, ◌<◌, ◌≡◌, List, [], ◌∷◌, length, get_or, take}
use Rattle.std.proofs.Common.{sym, ap, ◌∙◌, arith}
use Rattle.std.proofs.lemmas.List.{length-map}
use Rattle.rows.specs.Kinds.{End}
use Rattle.rows.specs.Format.{format}
use Rattle.rows.specs.Records.{RowToken, row, records_from, found, kinds_of, places_of, word_in}
use Rattle.rows.specs.RowRead.{InArrays}
use Rattle.rows.specs.Laws.RowFacts.{GoodTokens, good_row, WordsFound, words_found}
use Rattle.rules.specs.Seen.{no_row_token}
use Rattle.rules.specs.RowSeen.{RowSeen}

good_kind_at : (ts : List RowToken) → GoodTokens ts → (i : ℕ) → i < length ts → (get_or ts i no_row_token).kind ≤ End
good_kind_at [] g i p = absurd (omega arith)
good_kind_at (t ∷ ts) g zero p = g.0.known
good_kind_at (t ∷ ts) g (suc i) p = good_kind_at ts g.1 i (omega arith)

word_found_at : (file : List ℕ) (ts : List RowToken) → WordsFound format file ts → (i : ℕ) → i < length ts
    → word_in format file (get_or ts i no_row_token).place (found format file (get_or ts i no_row_token).place) ≡ (get_or ts i no_row_token).word
word_found_at file [] w i p = absurd (omega arith)
word_found_at file (t ∷ ts) w zero p = w.0
word_found_at file (t ∷ ts) w (suc i) p = word_found_at file ts w.1 i (omega arith)

-- The row that `read_file` leaves in its arrays.
pub row_seen : {file kinds words places kinds' words' places' : List ℕ} {ts : List RowToken} {count : ℕ} (most begin : ℕ) → records_from format file most begin ≡ row ts
    → InArrays ts count kinds words places kinds' words' places' → RowSeen file (take count kinds') (take count places') ts
unfolding kinds_of places_of
row_seen {file} {kinds' = kinds'} {places' = places'} {ts = ts} {count = count} most begin e a = record {
  kinds_are = ap (λ (n : ℕ). take n kinds') (a.is_count ∙ sym (length-map ts (λ (t : RowToken). t.kind))) ∙ a.kinds_filled.front;
  places_are = ap (λ (n : ℕ). take n places') (a.is_count ∙ sym (length-map ts (λ (t : RowToken). t.place))) ∙ a.places_filled.front;
  known = good_kind_at ts (good_row format file most begin ts e);
  words = word_found_at file ts (words_found format file most begin ts e);
}
