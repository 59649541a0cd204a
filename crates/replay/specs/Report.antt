-- What the program `replay` prints.
-- Assumes nothing.
use Rattle.std.specs.Prelude.{ℕ, ◌+◌, List, ◌++◌}
use Rattle.rows.specs.Words.{bytes}
use Rattle.text.specs.Text.{decimal, most_digits}

-- A number behind its label.
unfoldable pub labelled : List ℕ → ℕ → List ℕ
labelled label n = label ++ decimal n

-- Which number: the case, the part and the place in it.
unfoldable pub place_text : (case : ℕ) (part : List ℕ) (place : ℕ) → List ℕ
unfolding bytes
place_text case part place = labelled (bytes "case ") case ++ bytes ", " ++ part ++ labelled (bytes " ") place

-- The two numbers that differ.
unfoldable pub values_text : (expected given : ℕ) → List ℕ
unfolding bytes
values_text expected given = labelled (bytes ": expected ") expected ++ labelled (bytes ", got ") given ++ bytes "\n"

-- The line for a case that differs.
unfoldable pub difference : (case : ℕ) (part : List ℕ) (place expected given : ℕ) → List ℕ
difference case part place expected given = place_text case part place ++ values_text expected given

-- The last line.
unfoldable pub total : (replayed differing : ℕ) → List ℕ
unfolding bytes
total replayed differing = decimal replayed ++ bytes " replayed, " ++ decimal differing ++ bytes " differ\n"

-- ---- how long lines get

-- The longest name of a part, `returned`.
abbrev pub part_length : ℕ
part_length = 8

-- `case `, `, ` and ` ` of a place.
abbrev pub place_words : ℕ
place_words = 8

-- `: expected `, `, got ` and the newline of the values.
abbrev pub values_words : ℕ
values_words = 18

-- Case, part and place.
abbrev pub place_length : ℕ
place_length = place_words + most_digits + part_length + most_digits

-- Expected and given.
abbrev pub values_length : ℕ
values_length = values_words + most_digits + most_digits

-- The longest line.
abbrev pub line_length : ℕ
line_length = place_length + values_length
