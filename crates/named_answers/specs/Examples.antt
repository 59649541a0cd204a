-- Computed examples, worked out by hand from document 02, C-17, so that a wrong edit of a definition is refused here.
-- Assumes nothing.
use Rattle.std.specs.Prelude.{ℕ, zero, suc, ◌+◌, ◌≡◌, refl, List, [], ◌∷◌, ◌++◌, map, length, replicate}
use Prim.Native.String.{String}
use Rattle.rows.specs.Languages.{C, Cpp, C23, Cpp98, Cpp17}
use Rattle.rows.specs.Kinds.{Identifier, Integer, LeftParen, RightParen, Comma, Less, Greater, ShiftRight}
use Rattle.rows.specs.Words.{bytes, word_number}
use Rattle.rows.specs.Refusals.{no_token}
use Rattle.names.specs.NameList.{is_name, name_list, names_marked}
use Rattle.prescan.specs.Prescan.{prescan}
use Rattle.reader.specs.Nodes.{count, records}
use Rattle.reader.specs.Reading.{kind_at}
use Rattle.reader.specs.Written.{Token, sign}
use Rattle.structure.specs.Syntax.{validate_structured_syntax}
use Rattle.profile.specs.Profile.{missing_feature}
use Rattle.named_reader.specs.NamedReading.{named_reading}
use Rattle.type_name.specs.Answers.{on_tree}
use Rattle.type_name.specs.FirstLines.{FirstLine, ok, refuses, first_line, answer_first_line, file_first_line, kinds_in, words_in}
use Rattle.type_name.specs.StarredRows.{word, slots}
use Rattle.named_answers.specs.NamedAnswers.{named_row, by_names, named_answer, answer_named, buffer_named}

-- ---- rows

-- The first line of a row under a standard of C++, a flag and an allowance, with these names. Whoever unfolds this computes with all the definitions.
unfoldable line : (standard flag : ℕ) (names : List String) → List Token → (allowance : ℕ) → FirstLine
unfolding first_line count prescan kind_at on_tree named_reading named_row is_name bytes kinds_in words_in word_number validate_structured_syntax missing_feature
line standard flag names row allowance =
    first_line (named_row standard flag (map (λ (t : Token). is_name (map bytes names) t.word) row) (kinds_in row) (words_in row) allowance)

-- `Slots<(Lanes<8)>`, C++17, flag 1. Names Slots: 6 steps in reading, 4 in structure; Slots and Lanes, and Lanes alone: the bracket closes over an open list.
slots_lines : line Cpp17 1 ("Slots" ∷ []) slots 100 ∷ line Cpp17 1 ("Slots" ∷ "Lanes" ∷ []) slots 100 ∷ line Cpp17 1 ("Lanes" ∷ []) slots 100 ∷ []
    ≡ ok 7 10 ∷ refuses 27 no_token 0 6 ∷ refuses 27 no_token 0 6 ∷ []
unfolding line
slots_lines = refl

-- The same with 10 steps allowed, with 9, and with 5, where the sixth token's would pass it.
slots_allowed : line Cpp17 1 ("Slots" ∷ []) slots 10 ∷ line Cpp17 1 ("Slots" ∷ []) slots 9 ∷ line Cpp17 1 ("Slots" ∷ []) slots 5 ∷ []
    ≡ ok 7 10 ∷ refuses 25 no_token 0 9 ∷ refuses 25 no_token 0 5 ∷ []
unfolding line
slots_allowed = refl

-- `Lane<(Key<8>>2)>`, flag 0. Names Lane; Lane and Key.
lane : List Token
lane = word "Lane" ∷ sign Less ∷ sign LeftParen ∷ word "Key" ∷ sign Less ∷ sign Integer ∷ sign ShiftRight ∷ sign Integer ∷ sign RightParen ∷ sign Greater ∷ []

lane_lines : line Cpp17 0 ("Lane" ∷ []) lane 100 ∷ line Cpp17 0 ("Lane" ∷ "Key" ∷ []) lane 100 ∷ [] ≡ ok 9 8 ∷ refuses 26 no_token 0 6 ∷ []
unfolding line lane
lane_lines = refl

-- `A<b<c>>`. Names A: 26; A and b: the tree of `A<B<c>>` in document 01, with its steps.
two_lists : List Token
two_lists = word "A" ∷ sign Less ∷ word "b" ∷ sign Less ∷ word "c" ∷ sign ShiftRight ∷ []

two_lists_lines : line Cpp17 1 ("A" ∷ []) two_lists 100 ∷ line Cpp17 1 ("A" ∷ "b" ∷ []) two_lists 100 ∷ [] ≡ refuses 26 no_token 0 5 ∷ ok 7 8 ∷ []
unfolding line two_lists
two_lists_lines = refl

-- "After prescan", which counts every `<`: `A<b`, `A<b>>` and `A,b` with A named are 16, 12 and 13. "Profile follow[s] as before": `A<long long>` in C++98 is 40.
prescanned_lines : line Cpp17 1 ("A" ∷ []) (word "A" ∷ sign Less ∷ word "b" ∷ []) 100 ∷ line Cpp17 1 ("A" ∷ []) (word "A" ∷ sign Less ∷ word "b" ∷ sign ShiftRight ∷ []) 100
    ∷ line Cpp17 1 ("A" ∷ []) (word "A" ∷ sign Comma ∷ word "b" ∷ []) 100
    ∷ line Cpp98 0 ("A" ∷ []) (word "A" ∷ sign Less ∷ word "long" ∷ word "long" ∷ sign Greater ∷ []) 100 ∷ []
    ≡ refuses 16 1 0 0 ∷ refuses 12 3 0 0 ∷ refuses 13 1 0 0 ∷ refuses 40 no_token 1 4 ∷ []
unfolding line
prescanned_lines = refl

-- 65 lists, one in another: the 65th takes step 130, and is too deep; with 129 allowed, that step is not.
lists : ℕ → List Token
lists zero = word "b" ∷ []
lists (suc n) = word "A" ∷ sign Less ∷ (lists n ++ (sign Greater ∷ []))

nested_lines : line Cpp17 0 ("A" ∷ []) (lists 65) 130 ∷ line Cpp17 0 ("A" ∷ []) (lists 65) 129 ∷ [] ≡ refuses 20 no_token 0 130 ∷ refuses 25 no_token 0 129 ∷ []
unfolding line lists
nested_lines = refl

-- ---- files

-- A head with flag 0, an allowance below 256 and these records.
abbrev file : (language standard allowance : ℕ) → (records : List ℕ) → List ℕ
file language standard allowance rs = 11 ∷ 0 ∷ 5 ∷ 1 ∷ language ∷ standard ∷ 0 ∷ allowance ∷ 0 ∷ 0 ∷ 0 ∷ rs

-- A token record of this kind, all of one span.
abbrev record_of : (kind : ℕ) → (word : List ℕ) → List ℕ
record_of k w = (20 + length w) ∷ 0 ∷ k ∷ 0 ∷ 0 ∷ 0 ∷ 0 ∷ 0 ∷ 0 ∷ 0 ∷ 0 ∷ 0 ∷ 1 ∷ 0 ∷ 0 ∷ 0 ∷ 0 ∷ 0 ∷ 0 ∷ 0 ∷ w

-- `A<b>`, and the name A.
row : List ℕ
row = record_of Identifier (bytes "A") ++ record_of Less [] ++ record_of Identifier (bytes "b") ++ record_of Greater []

A : List ℕ
A = record_of Identifier (bytes "A")

-- The line of a file and a name list with a tree buffer of `room` numbers. Whoever unfolds this computes with all the definitions.
unfoldable named_line : (file names : List ℕ) (room : ℕ) → FirstLine
unfolding file_first_line answer_first_line answer_named named_answer by_names name_list names_marked line row A
named_line f names room = answer_first_line (answer_named f names room)

-- Read with the name A; with a list that is malformed, and in C, 8; "checked after 6", and before 10.
file_lines : named_line (file Cpp Cpp17 100 row) A 24 ∷ named_line (file Cpp Cpp17 100 row) [] 24 ∷ named_line (file Cpp Cpp17 100 row) (A ++ A) 24 ∷ named_line (file C C23 100 row) A 24
    ∷ named_line (file Cpp Cpp17 100 row) [] 23 ∷ named_line (file Cpp Cpp17 100 []) [] 0 ∷ named_line (file Cpp Cpp17 100 []) A 0 ∷ []
    ≡ ok 4 3 ∷ refuses 8 no_token 0 0 ∷ refuses 8 no_token 0 0 ∷ refuses 8 no_token 0 0 ∷ refuses 6 no_token 0 0 ∷ refuses 8 no_token 0 0 ∷ refuses 10 no_token 0 0 ∷ []
unfolding named_line
file_lines = refl

-- T 0, L 1 over A 2 over T 2, zeros behind; 8 fills the buffer with zeros, 6 leaves it.
buffers : buffer_named (file Cpp Cpp17 100 row) A (replicate 24 7) ∷ buffer_named (file Cpp Cpp17 100 row) [] (replicate 24 7) ∷ buffer_named (file Cpp Cpp17 100 row) [] (replicate 23 7) ∷ []
    ≡ (0 ∷ 0 ∷ 1 ∷ 3 ∷ 1 ∷ 3 ∷ 4 ∷ 2 ∷ 2 ∷ 0 ∷ 2 ∷ 1 ∷ replicate 12 0) ∷ replicate 24 0 ∷ replicate 23 7 ∷ []
unfolding named_line buffer_named records
buffers = refl
