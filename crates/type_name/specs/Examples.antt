-- Computed rows of this crate's definitions, so that a wrong edit of one is refused here. Document 01's rows without a star; answers are its or the original's.
-- Assumes nothing.
use Rattle.rows.specs.Answer.{accepted_with, refused_with}
use Rattle.std.specs.Prelude.{ℕ, ◌+◌, ◌≡◌, refl, List, [], ◌∷◌, ◌++◌, length, take, replicate}
use Rattle.rows.specs.Languages.{C, Cpp, Fortran, C89, Cpp98, Cpp17, Fortran2018}
use Rattle.rows.specs.Kinds.{Identifier, Integer, LeftParen, RightParen, LeftBracket, RightBracket, Star, Ampersand, Less, Greater, ShiftRight}
use Rattle.rows.specs.Words.{bytes}
use Rattle.rows.specs.Refusals.{no_token}
use Rattle.reader.specs.Written.{Token, sign}
use Rattle.rows.specs.declared.answer.TypeNameError.TheVariants.{InvalidRecord, UnclosedAngle}
use Rattle.type_name.specs.Answers.{final_buffer}
use Rattle.type_name.specs.AnswerNumbers.{answer_numbers, answer_code}
use Rattle.type_name.specs.FirstLines.{ok, refuses, first_line_of, file_first_line}
use Rattle.type_name.specs.StarredRows.{word, int_file}

-- `Lane<(Key<8>>2)>`, C++17, with flag 0 and with flag 1
lane : List Token
lane = word "Lane" ∷ sign Less ∷ sign LeftParen ∷ word "Key" ∷ sign Less ∷ sign Integer ∷ sign ShiftRight ∷ sign Integer ∷ sign RightParen ∷ sign Greater ∷ []

lanes : first_line_of Cpp Cpp17 0 lane ∷ first_line_of Cpp Cpp17 1 lane ∷ [] ≡ ok 10 8 ∷ refuses 30 no_token 0 14 ∷ []
unfolding first_line_of lane
lanes = refl

-- `LONG LONG`, C89: flag 0 40 detail 1; flag 1 30, since the structure is tree-checked before the profile
upper : List Token
upper = word "LONG" ∷ word "LONG" ∷ []

uppers : first_line_of C C89 0 upper ∷ first_line_of C C89 1 upper ∷ [] ≡ refuses 40 no_token 1 2 ∷ refuses 30 no_token 0 3 ∷ []
unfolding first_line_of upper
uppers = refl

-- `int&`: C 18; Cpp98 accepted
reference : List Token
reference = word "int" ∷ sign Ampersand ∷ []

references : first_line_of C C89 1 reference ∷ first_line_of Cpp Cpp98 1 reference ∷ [] ≡ refuses 18 no_token 0 0 ∷ ok 2 3 ∷ []
unfolding first_line_of reference
references = refl

-- `character*(*)`: 30; flag 0, 4 nodes
assumed_length : List Token
assumed_length = word "character" ∷ sign Star ∷ sign LeftParen ∷ sign Star ∷ sign RightParen ∷ []

assumed_lengths : first_line_of Fortran Fortran2018 1 assumed_length ∷ first_line_of Fortran Fortran2018 0 assumed_length ∷ [] ≡ refuses 30 no_token 0 5 ∷ ok 4 4 ∷ []
unfolding first_line_of assumed_length
assumed_lengths = refl

-- `X<([A<b]>c)>`: 22
wrong_closer : first_line_of Cpp Cpp17 1
    (word "X" ∷ sign Less ∷ sign LeftParen ∷ sign LeftBracket ∷ word "A" ∷ sign Less ∷ word "b" ∷ sign RightBracket ∷ sign Greater ∷ word "c" ∷ sign RightParen ∷ sign Greater ∷ [])
    ≡ refuses 22 no_token 0 16
unfolding first_line_of
wrong_closer = refl

-- ---- answers as numbers

-- Accepted with 10 nodes after 8 steps; refusal 4 of a record at byte offset 23; refusal 16 that names token 1.
as_numbers : answer_numbers (accepted_with 10 8) ∷ answer_numbers (refused_with (InvalidRecord 23) 0) ∷ answer_numbers (refused_with (UnclosedAngle 1) 0) ∷ []
    ≡ (0 ∷ 10 ∷ 8 ∷ 0 ∷ []) ∷ (4 ∷ 65535 ∷ 23 ∷ 0 ∷ []) ∷ (16 ∷ 1 ∷ 0 ∷ 0 ∷ []) ∷ []
unfolding answer_numbers
as_numbers = refl

codes : answer_code (accepted_with 10 8) ∷ answer_code (refused_with (UnclosedAngle 1) 0) ∷ [] ≡ 0 ∷ 16 ∷ []
unfolding answer_code
codes = refl

-- ---- buffers, dirty before

-- Fewer than 6 numbers for one token: 6, and the buffer stays.
short : file_first_line (int_file 2) 5 ≡ refuses 6 no_token 0 0
unfolding file_first_line
short = refl

-- A record cut off: 4, though the buffer is short too.
cut_record : file_first_line (take 20 (int_file 2)) 5 ≡ refuses 4 no_token 11 0
unfolding file_first_line
cut_record = refl

short_buffer : final_buffer (int_file 2) (replicate 5 7) ≡ replicate 5 7
unfolding file_first_line
short_buffer = refl

-- The empty row: 10, and the buffer is filled with zeros.
empty_buffer : final_buffer (take 11 (int_file 2)) (replicate 5 7) ≡ replicate 5 0
unfolding file_first_line
empty_buffer = refl

-- A head cut short: 2, and the buffer stays.
cut_buffer : final_buffer (take 10 (int_file 2)) (replicate 5 7) ≡ replicate 5 7
unfolding file_first_line
cut_buffer = refl

-- Refusal 25 fills the buffer with zeros.
spent_buffer : final_buffer (int_file 1) (replicate 6 7) ≡ replicate 6 0
unfolding file_first_line
spent_buffer = refl

-- ---- what 254 and 255 mean: document 02, C-16

-- A record of this kind and word, its span from 0 to 0.
record_of : (kind : ℕ) (word : List ℕ) → List ℕ
record_of kind word = (20 + length word) ∷ 0 ∷ kind ∷ 0 ∷ replicate 16 0 ++ word

-- `_BitInt(8)` in C with flag 1 and an allowance of 5: under 255 `no 40 65535 3 5` before, now `ok 3 5`; with 254 the 40.
bit_int : (standard : ℕ) → List ℕ
unfolding record_of bytes
bit_int standard =
    11 ∷ 0 ∷ 5 ∷ 1 ∷ C ∷ standard ∷ 1 ∷ 5 ∷ 0 ∷ 0 ∷ 0 ∷ record_of Identifier (bytes "_BitInt") ++ record_of LeftParen [] ++ record_of Integer [] ++ record_of RightParen []

bit_ints : file_first_line (bit_int 255) 24 ∷ file_first_line (bit_int 254) 24 ∷ file_first_line (bit_int 253) 24 ∷ [] ≡ ok 3 5 ∷ refuses 40 no_token 3 5 ∷ refuses 3 no_token 0 0 ∷ []
unfolding file_first_line bit_int
bit_ints = refl
