-- Computed examples, worked out by hand from document 02, C-17, so that a wrong edit of a definition is refused here.
-- Assumes nothing.
use Rattle.std.specs.Prelude.{ℕ, zero, suc, ◌+◌, ◌*◌, ◌/◌, ◌%◌, ◌≡◌, refl, Bool, true, false, List, [], ◌∷◌, ◌++◌, map, length, take, replicate}
use Prim.Native.String.{String}
use Rattle.rows.specs.Kinds.{Identifier, Integer, LeftParen, Less}
use Rattle.rows.specs.Format.{format}
use Rattle.rows.specs.Words.{bytes, same_exactly, same_ignoring_case, same_through, lower}
use Rattle.rows.specs.Records.{RowToken, records_from, to_end, tokens_from, after_record, found, well_formed, length_fits, word_fits, word_at, span_end_at, span_start_at, kind_at, length_at, in_range, before_tokens, little_endian}
use Rattle.names.specs.NameList.{most_names, is_name, distinct, all_words, words_in, NameList, listed, malformed, names_of, names_in, name_list, names_marked}

-- Whoever unfolds this computes with the definitions of the list's form.
unfoldable read_names : List ℕ → NameList
unfolding name_list names_in names_of all_words words_in distinct is_name same_exactly same_ignoring_case same_through lower records_from to_end tokens_from after_record found well_formed length_fits word_fits word_at span_end_at span_start_at kind_at length_at in_range before_tokens little_endian
read_names file = name_list file

-- A token record of this kind, span and word.
abbrev record_of : (kind start end : ℕ) → (word : List ℕ) → List ℕ
record_of k s e w = (20 + length w) ∷ 0 ∷ k ∷ 0 ∷ s ∷ 0 ∷ 0 ∷ 0 ∷ 0 ∷ 0 ∷ 0 ∷ 0 ∷ e ∷ 0 ∷ 0 ∷ 0 ∷ 0 ∷ 0 ∷ 0 ∷ 0 ∷ w

-- The file of these names, all of one span.
unfoldable file_of : List (List ℕ) → List ℕ
file_of [] = []
file_of (w ∷ ws) = record_of Identifier 0 1 w ++ file_of ws

-- One name; two; two that differ in case only, in their last byte only, and in that one goes on.
unfoldable lists : List (List ℕ)
unfolding bytes
lists =
    file_of (bytes "Lane" ∷ []) ∷ file_of (bytes "Lane" ∷ bytes "vector" ∷ []) ∷ file_of (bytes "Lane" ∷ bytes "lane" ∷ [])
    ∷ file_of (bytes "Lane1" ∷ bytes "Lane2" ∷ []) ∷ file_of (bytes "Lane" ∷ bytes "Lanes" ∷ []) ∷ []

all_listed : map read_names lists
    ≡ listed (bytes "Lane" ∷ []) ∷ listed (bytes "Lane" ∷ bytes "vector" ∷ []) ∷ listed (bytes "Lane" ∷ bytes "lane" ∷ [])
    ∷ listed (bytes "Lane1" ∷ bytes "Lane2" ∷ []) ∷ listed (bytes "Lane" ∷ bytes "Lanes" ∷ []) ∷ []
unfolding read_names lists file_of bytes
all_listed = refl

-- No name; one name twice, also in other spans and apart; a `(`, alone and behind a name; a byte too many; a record cut off; a head in front.
unfoldable ill_formed : List (List ℕ)
unfolding bytes file_of
ill_formed =
    [] ∷ file_of (bytes "Lane" ∷ bytes "Lane" ∷ []) ∷ (record_of Identifier 0 4 (bytes "Lane") ++ record_of Identifier 5 9 (bytes "Lane"))
    ∷ file_of (bytes "a" ∷ bytes "b" ∷ bytes "a" ∷ []) ∷ file_of (bytes "a" ∷ bytes "b" ∷ bytes "b" ∷ []) ∷ record_of LeftParen 0 1 []
    ∷ (file_of (bytes "Lane" ∷ []) ++ record_of LeftParen 4 5 []) ∷ (file_of (bytes "Lane" ∷ []) ++ (0 ∷ [])) ∷ take 23 (file_of (bytes "Lane" ∷ []))
    ∷ (11 ∷ 0 ∷ 5 ∷ 1 ∷ 1 ∷ 3 ∷ 1 ∷ 0 ∷ 0 ∷ 0 ∷ 0 ∷ file_of (bytes "Lane" ∷ [])) ∷ []

none_listed : map read_names ill_formed ≡ replicate 10 malformed
unfolding read_names ill_formed
none_listed = refl

-- 512 names at most. A file of so many takes too long to compute: two names pass where two are the most, three do not, nor two and a byte.
most_are : most_names ≡ 512
most_are = refl

unfoldable read_two : List ℕ → NameList
unfolding read_names
read_two file = names_in (records_from format file 2 0)

two_at_most : map read_two (file_of (bytes "a" ∷ bytes "b" ∷ []) ∷ file_of (bytes "a" ∷ bytes "b" ∷ bytes "c" ∷ []) ∷ (file_of (bytes "a" ∷ bytes "b" ∷ []) ++ (0 ∷ [])) ∷ [])
    ≡ listed (bytes "a" ∷ bytes "b" ∷ []) ∷ malformed ∷ malformed ∷ []
unfolding read_two file_of bytes
two_at_most = refl

-- The tokens of so many names of two bytes, all different, of which 512 pass.
unfoldable many : (n : ℕ) → List RowToken
many zero = []
many (suc n) = record { place = 22 * n; kind = Identifier; word = (65 + n % 32) ∷ (65 + n / 32) ∷ [] } ∷ many n

unfoldable how_many : NameList → ℕ
how_many malformed = 0
how_many (listed ns) = length ns

most_pass : how_many (names_of (many 512)) ≡ 512
unfolding names_of all_words words_in distinct is_name same_exactly same_through many how_many
most_pass = refl

-- ---- names

-- `Lane` is a name beside `vector`; `lane`, `Lan`, `Lanes`, `Lane1` and no word are none.
unfoldable asked : String → Bool
unfolding is_name same_exactly same_ignoring_case same_through lower bytes
asked word = is_name (bytes "Lane" ∷ bytes "vector" ∷ []) (bytes word)

words_asked : map asked ("Lane" ∷ "vector" ∷ "lane" ∷ "Lan" ∷ "Lanes" ∷ "Lane1" ∷ "" ∷ []) ≡ true ∷ true ∷ false ∷ false ∷ false ∷ false ∷ false ∷ []
unfolding asked
words_asked = refl

-- `Lane<lane<7`: the marks of its five tokens.
unfoldable lane_row : List RowToken
unfolding bytes
lane_row =
    record { place = 11; kind = Identifier; word = bytes "Lane" } ∷ record { place = 35; kind = Less; word = [] }
    ∷ record { place = 55; kind = Identifier; word = bytes "lane" } ∷ record { place = 79; kind = Less; word = [] } ∷ record { place = 99; kind = Integer; word = [] } ∷ []

lane_marked : names_marked (bytes "Lane" ∷ []) lane_row ≡ true ∷ false ∷ false ∷ false ∷ false ∷ []
unfolding names_marked is_name same_exactly same_through bytes lane_row
lane_marked = refl
