-- The name list: document 02, C-17. Its file has no head: token records from the first byte to the last.
-- Assumes nothing.
use Rattle.std.specs.Prelude.{ℕ, Bool, true, false, not, ◌&&◌, ◌||◌, List, [], ◌∷◌, map, length, leb, eqb, if◌then◌else◌}
use Rattle.rows.specs.Kinds.{Identifier}
use Rattle.rows.specs.Words.{same_exactly}
use Rattle.rows.specs.Format.{format}
use Rattle.rows.specs.Records.{RowToken, Row, refused, row, records_from}

-- "1 to 512 distinct names".
abbrev pub most_names : ℕ
most_names = 512

-- "one of those names": the word is, byte for byte.
unfoldable pub is_name : (names : List (List ℕ)) (word : List ℕ) → Bool
unfolding same_exactly
is_name [] word = false
is_name (n ∷ names) word = same_exactly n word || is_name names word

-- "distinct names".
unfoldable pub distinct : (names : List (List ℕ)) → Bool
unfolding is_name
distinct [] = true
distinct (n ∷ names) = not (is_name names n) && distinct names

-- "token records of kind 0".
unfoldable pub all_words : List RowToken → Bool
all_words [] = true
all_words (t ∷ ts) = eqb t.kind Identifier && all_words ts

-- "names, given as token records": each one's word.
unfoldable pub words_in : List RowToken → List (List ℕ)
words_in ts = map (λ (t : RowToken). t.word) ts

-- The names of a file, or "8 name list malformed".
pub data NameList : Type 0 where
  listed : List (List ℕ) → NameList
  malformed : NameList

-- "1 to 512 distinct names, given as token records of kind 0": at least 1, of kind 0, distinct.
unfoldable pub names_of : List RowToken → NameList
unfolding all_words distinct words_in
names_of ts = if leb 1 (length ts) && all_words ts && distinct (words_in ts) then listed (words_in ts) else malformed

-- Of token records to the file's end, or "8 name list malformed" where a record is, or one too many begins.
unfoldable pub names_in : Row → NameList
unfolding names_of
names_in (refused e) = malformed
names_in (row ts) = names_of ts

-- "1 to 512 distinct names, given as token records of kind 0 in a second lent file".
unfoldable pub name_list : (file : List ℕ) → NameList
unfolding names_in
name_list file = names_in (records_from format file most_names 0)

-- "its left neighbour is one of those names": of each token of a row, whether it is.
unfoldable pub names_marked : (names : List (List ℕ)) → List RowToken → List Bool
unfolding is_name
names_marked names ts = map (λ (t : RowToken). is_name names t.word) ts
