-- A list that was written is read so: 1 to 512 distinct names are listed, more are malformed, and so are names that are not distinct.
-- Assumes nothing.
use Prim.Native.Nat.{ℕ, zero, suc, ◌+◌, ◌-◌, ◌/◌, ◌%◌, ◌≤◌, ◌<◌}
use Rattle.std.specs.Prelude.{◌≡◌, ◌≢◌, true, false, take, drop}
use Rattle.std.proofs.Math.Path.{refl, sym, ap}
use Rattle.std.proofs.Common.{◌∙◌, le-leb, length-append, get_or-drop, drop-drop, take_at}
use mathlib.Core.List.{List, [], ◌∷◌, ◌++◌}
use native.Mathlib.Omega.{arith}
use Rattle.std.proofs.Math.Nat.{mod-add-div}
use Rattle.std.proofs.lemmas.Bool.{lt-leb}
use Rattle.std.proofs.Math.ListN.{length, length-drop}
use Rattle.std.proofs.lemmas.List.{length-map}
use Rattle.std.proofs.Math.Seq.{drop-append_seam}
use Rattle.rows.specs.Kinds.{Identifier}
use Rattle.rows.specs.Format.{format, short_bytes, token_length, longest_word}
use Rattle.rows.specs.Records.{RowToken, Tokens, tokens, before_tokens, byte_values, little_endian, in_range, length_at, kind_at, span_start_at, span_end_at, word_at, length_fits, found, tokens_from, to_end, records_from, formed}
use Rattle.rows.specs.Laws.Tokens.{word_whole, identifier_fits, by_length}
use Rattle.rows.specs.Laws.RowLoop.{ends, begins_token}
use Rattle.rows.specs.Laws.RowFacts.{token_there}
use Rattle.names.specs.Laws.ReadLoop.{not_distinct}
use Rattle.names.specs.NameList.{most_names, distinct, all_words, words_in, listed, malformed, names_of, names_in, name_list}

-- ---- what is written

-- A name's record up to its word, of this length and without a span.
abbrev pub front_of : (size : ℕ) → List ℕ
front_of size = (size % byte_values) ∷ (size / byte_values) ∷ Identifier ∷ 0 ∷ 0 ∷ 0 ∷ 0 ∷ 0 ∷ 0 ∷ 0 ∷ 0 ∷ 0 ∷ 0 ∷ 0 ∷ 0 ∷ 0 ∷ 0 ∷ 0 ∷ 0 ∷ 0 ∷ []

-- The file of these names.
unfoldable pub written : List (List ℕ) → List ℕ
written [] = []
written (w ∷ ws) = front_of (token_length format + length w) ++ (w ++ written ws)

-- "A word of 1 to 255 bytes, each 33 to 126".
pub record GoodWord (w : List ℕ) : Type 0 where
  pub some : length w ≢ 0
  pub short : length w ≤ longest_word
  pub good : in_range w ≡ true

abbrev pub GoodWords : List (List ℕ) → Type 0
GoodWords [] = Unit {0}
GoodWords (w ∷ ws) = GoodWord w × GoodWords ws

-- ---- one record

number_at : (width : ℕ) (file : List ℕ) (at i : ℕ) → little_endian width file (at + i) ≡ little_endian width (drop at file) i
unfolding little_endian
number_at zero file at i = refl
number_at (suc width) file at i =
    let same : suc (at + i) ≡ at + suc i = omega arith in
    let next : little_endian width file (suc (at + i)) ≡ little_endian width (drop at file) (suc i) = ap (little_endian width file) same ∙ number_at width file at (suc i) in
    rw (get_or-drop at file i 0, next) refl

module _ (file : List ℕ) (at : ℕ) (w rest : List ℕ) (g : GoodWord w) (there : drop at file ≡ front_of (token_length format + length w) ++ (w ++ rest)) where
  abbrev n : ℕ
  n = token_length format + length w

  is_length : n ≡ length_at format file at
  unfolding length_at little_endian
  is_length =
      let here : at ≡ at + 0 = omega arith in
      sym (ap (little_endian short_bytes file) here ∙ number_at short_bytes file at 0 ∙ rw there (omega (arith, mod-add-div n byte_values)))

  is_kind : Identifier ≡ kind_at format file at
  unfolding kind_at little_endian
  is_kind = sym (number_at short_bytes file at 2 ∙ rw there refl)

  starts : span_start_at format file at ≡ 0
  unfolding span_start_at little_endian
  starts = number_at 8 file at 4 ∙ rw there refl

  stops : span_end_at format file at ≡ 0
  unfolding span_end_at little_endian
  stops =
      let here : at + 4 + 8 ≡ at + 12 = omega arith in
      ap (little_endian 8 file) here ∙ number_at 8 file at 12 ∙ rw there refl

  from_word : drop (at + token_length format) file ≡ w ++ rest
  from_word = sym (drop-drop (token_length format) at file) ∙ ap (drop (token_length format)) there

  inside : at + n + length rest ≡ length file
  inside =
      let left : length (w ++ rest) ≡ length file - (at + token_length format) = sym (ap length from_word) ∙ length-drop (at + token_length format) file in
      omega (arith, left, length-append w rest, g.some)

  fits : true ≡ length_fits format file at
  fits =
      let size : length w ≡ at + n - (at + token_length format) = omega arith in
      let text : take (at + n - (at + token_length format)) (drop (at + token_length format) file) ≡ w = rw from_word (take_at w rest (at + n - (at + token_length format)) size) in
      sym (ap in_range text ∙ g.good)
      ∙ word_whole format file at n is_length (omega (arith, g.some)) (omega (arith, g.short)) (omega (arith, inside))
      ∙ identifier_fits format file at n is_length Identifier is_kind refl

  found_there : found format file at ≡ formed Identifier n
  found_there =
      sym (by_length format file at n is_length Identifier is_kind (omega (arith, inside)) (omega arith) (omega (arith, starts, stops)) true fits)

  word_there : word_at format file at ≡ w
  unfolding word_at
  word_there =
      let size : length w ≡ length_at format file at - token_length format = omega (arith, is_length) in
      rw from_word (take_at w rest (length_at format file at - token_length format) size)

  next_there : drop (at + n) file ≡ rest
  next_there =
      let here : at + token_length format + length w ≡ at + n = omega arith in
      ap (λ (k : ℕ). drop k file) (sym here) ∙ sym (drop-drop (length w) (at + token_length format) file) ∙ ap (drop (length w)) from_word ∙ drop-append_seam w rest

-- ---- all records

module _ (file : List ℕ) where
  -- The names were read to the file's end.
  record AllRead (ws : List (List ℕ)) (most at : ℕ) : Type 0 where
    ts : List RowToken
    next : ℕ
    is : tokens_from format file most at ≡ tokens ts next
    to_the_end : length file ≤ next
    all : all_words ts ≡ true
    same : words_in ts ≡ ws

  -- As many as may be were read, and bytes are left.
  record SomeRead (most at : ℕ) : Type 0 where
    ts : List RowToken
    next : ℕ
    is : tokens_from format file most at ≡ tokens ts next
    before_the_end : next < length file

  all_read : (ws : List (List ℕ)) → GoodWords ws → (most at : ℕ) → drop at file ≡ written ws → length ws ≤ most → AllRead ws most at
  unfolding written all_words words_in before_tokens
  all_read [] g most at there p =
      let past : length file ≤ at = omega (arith, length-drop at file, ap length there) in
      record { ts = []; next = at; is = ends format file most at past; to_the_end = past; all = refl; same = refl }
  all_read (w ∷ ws) g zero at there p = absurd (omega arith)
  all_read (w ∷ ws) g (suc most) at there p =
      let n : ℕ = token_length format + length w in
      let r = all_read ws g.1 most (at + n) (next_there file at w (written ws) g.0 there) (omega arith) in
      record {
        ts = token_there format file at Identifier ∷ r.ts;
        next = r.next;
        is =
            begins_token format file most at Identifier n (omega (arith, inside file at w (written ws) g.0 there)) (found_there file at w (written ws) g.0 there)
            ∙ ap (before_tokens (token_there format file at Identifier)) r.is;
        to_the_end = r.to_the_end;
        all = r.all;
        same = ap (λ (v : List ℕ). v ∷ words_in r.ts) (word_there file at w (written ws) g.0 there) ∙ ap (λ (vs : List (List ℕ)). w ∷ vs) r.same;
      }

  some_read : (ws : List (List ℕ)) → GoodWords ws → (most at : ℕ) → drop at file ≡ written ws → most < length ws → SomeRead most at
  unfolding written tokens_from before_tokens
  some_read [] g most at there p = absurd (omega arith)
  some_read (w ∷ ws) g zero at there p = record { ts = []; next = at; is = refl; before_the_end = omega (arith, inside file at w (written ws) g.0 there) }
  some_read (w ∷ ws) g (suc most) at there p =
      let n : ℕ = token_length format + length w in
      let r = some_read ws g.1 most (at + n) (next_there file at w (written ws) g.0 there) (omega arith) in
      record {
        ts = token_there format file at Identifier ∷ r.ts;
        next = r.next;
        is =
            begins_token format file most at Identifier n (omega (arith, inside file at w (written ws) g.0 there)) (found_there file at w (written ws) g.0 there)
            ∙ ap (before_tokens (token_there format file at Identifier)) r.is;
        before_the_end = r.before_the_end;
      }

module _ (ws : List (List ℕ)) (g : GoodWords ws) where
  names_read : length ws ≤ most_names → (r : AllRead (written ws) ws most_names 0) → name_list (written ws) ≡ names_of r.ts
  unfolding name_list names_in records_from to_end
  names_read p r = ap (λ (x : Tokens). names_in (to_end format (written ws) x)) r.is ∙ rw (le-leb (length (written ws)) r.next r.to_the_end) refl

  as_many : (r : AllRead (written ws) ws most_names 0) → length r.ts ≡ length ws
  unfolding words_in
  as_many r = sym (length-map r.ts (λ (t : RowToken). t.word)) ∙ ap length r.same

  -- "1 to 512 distinct names";
  pub written_listed : length ws ≢ 0 → length ws ≤ most_names → distinct ws ≡ true → name_list (written ws) ≡ listed ws
  unfolding names_of
  written_listed d p e =
      let r = all_read (written ws) ws g most_names 0 refl p in
      names_read p r ∙ rw (le-leb 1 (length r.ts) (omega (arith, as_many r)), r.all, r.same, e) refl

  -- not names that are not distinct,
  pub written_twice : length ws ≤ most_names → distinct ws ≡ false → name_list (written ws) ≡ malformed
  written_twice p e =
      let r = all_read (written ws) ws g most_names 0 refl p in
      names_read p r ∙ not_distinct r.ts (ap distinct r.same ∙ e)

  -- not more than 512.
  pub written_too_many : most_names < length ws → name_list (written ws) ≡ malformed
  unfolding name_list names_in records_from to_end
  written_too_many p =
      let r = some_read (written ws) ws g most_names 0 refl p in
      ap (λ (x : Tokens). names_in (to_end format (written ws) x)) r.is ∙ rw (lt-leb (length (written ws)) r.next r.before_the_end) refl
