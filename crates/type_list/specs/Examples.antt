-- Computed examples, worked out by hand from document 02, C-12, so that a wrong edit of a definition is refused here.
-- Assumes nothing.
use Rattle.type_list.specs.ListAnswer.{list_accepts, list_refuses}
use Rattle.std.specs.Prelude.{ℕ, ◌≡◌, refl, List, [], ◌∷◌, map, length, take, replicate}
use Rattle.rows.specs.Languages.{C, Cpp, C89, Cpp17}
use Rattle.rows.specs.Kinds.{LeftParen, RightParen, Comma, Less, Greater}
use Rattle.rows.specs.Records.{RowToken}
use Rattle.rows.specs.declared.answer.TypeNameError.TheVariants.{ShortBuffer, Empty, UnclosedAngle}
use Rattle.reader.specs.Written.{Token, sign}
use Rattle.type_name.specs.FileRow.{passes}
use Rattle.type_name.specs.FirstLines.{file_first_line}
use Rattle.type_name.specs.StarredRows.{word, int_file}
use Rattle.type_list.specs.Parts.{parts}
use Rattle.type_list.specs.ListAnswers.{parts_answer, list_answer_in, list_answer, list_buffer_in, list_buffer}
use Rattle.type_list.specs.AnswerNumbers.{list_numbers, list_code}

-- A row of tokens, wherever they stand in a file.
abbrev in_file : List Token → List RowToken
in_file row = map (λ (t : Token). record { place = 0; kind = t.kind; word = t.word }) row

-- Whoever unfolds this computes with all the definitions. Accepted: 0, nodes in all, steps, 0, parts. Refused: number, token, detail, steps, part.
unfoldable list_of : (language standard flag allowance : ℕ) → List Token → List ℕ
unfolding file_first_line list_answer list_buffer list_numbers
list_of language standard flag allowance row = list_numbers (list_answer_in (passes (parts_answer language standard flag (parts language (in_file row)) allowance)))

-- How many tokens each part has.
abbrev sizes : List (List RowToken) → List ℕ
sizes ps = map (λ (p : List RowToken). length p) ps

unfoldable sizes_of : (language : ℕ) → List Token → List ℕ
unfolding list_of
sizes_of language row = sizes (parts language (in_file row))

abbrev comma : Token
comma = sign Comma

-- An allowance that is enough.
abbrev ample : ℕ
ample = 100

-- ---- parts

-- `int,long`; `a` and its comma: the last part is empty; commas in brackets and in angles are no cuts, in `A<,b>` as little as in `A<b,c>,d`; an empty
-- row is one empty part.
cut : sizes_of C (word "int" ∷ comma ∷ word "long" ∷ []) ∷ sizes_of C (word "a" ∷ comma ∷ []) ∷ sizes_of C (word "f" ∷ sign LeftParen ∷ word "a" ∷ comma ∷ word "b" ∷ sign RightParen ∷ comma ∷ word "c" ∷ [])
    ∷ sizes_of Cpp (word "A" ∷ sign Less ∷ word "b" ∷ comma ∷ word "c" ∷ sign Greater ∷ comma ∷ word "d" ∷ []) ∷ sizes_of Cpp (word "A" ∷ sign Less ∷ comma ∷ word "b" ∷ sign Greater ∷ []) ∷ sizes_of C [] ∷ []
    ≡ (1 ∷ 1 ∷ []) ∷ (1 ∷ 0 ∷ []) ∷ (6 ∷ 1 ∷ []) ∷ (6 ∷ 1 ∷ []) ∷ (5 ∷ []) ∷ (0 ∷ []) ∷ []
unfolding sizes_of
cut = refl

-- A fault ends the cutting: the second part of `a,b),c,d` runs to the row's end, and so does that of `a,b>,c`, an angle too many.
ended : sizes_of C (word "a" ∷ comma ∷ word "b" ∷ sign RightParen ∷ comma ∷ word "c" ∷ comma ∷ word "d" ∷ []) ∷ sizes_of Cpp (word "a" ∷ comma ∷ word "b" ∷ sign Greater ∷ comma ∷ word "c" ∷ []) ∷ []
    ≡ (1 ∷ 6 ∷ []) ∷ (1 ∷ 4 ∷ []) ∷ []
unfolding sizes_of
ended = refl

-- ---- answers

-- "`int,long`, C89, flag 1: 2 parts, 2 nodes, 4 steps."
two : list_of C C89 1 ample (word "int" ∷ comma ∷ word "long" ∷ []) ≡ 0 ∷ 2 ∷ 4 ∷ 0 ∷ 2 ∷ []
unfolding list_of
two = refl

-- "`A<b,c>,d`, C++17: 2, 7, 9."
listed : list_of Cpp Cpp17 1 ample (word "A" ∷ sign Less ∷ word "b" ∷ comma ∷ word "c" ∷ sign Greater ∷ comma ∷ word "d" ∷ []) ≡ 0 ∷ 7 ∷ 9 ∷ 0 ∷ 2 ∷ []
unfolding list_of
listed = refl

-- "`int,`: 10, part 1, steps 2"; an empty row: 10, part 0.
empty_part : list_of C C89 1 ample (word "int" ∷ comma ∷ []) ∷ list_of C C89 1 ample [] ∷ [] ≡ (10 ∷ 65535 ∷ 0 ∷ 2 ∷ 1 ∷ []) ∷ (10 ∷ 65535 ∷ 0 ∷ 0 ∷ 0 ∷ []) ∷ []
unfolding list_of
empty_part = refl

-- "`A<b>,C<d`, C++17, flag 1: 16, part 1, token 1, steps 5."
angle : list_of Cpp Cpp17 1 ample (word "A" ∷ sign Less ∷ word "b" ∷ sign Greater ∷ comma ∷ word "C" ∷ sign Less ∷ word "d" ∷ []) ≡ 16 ∷ 1 ∷ 0 ∷ 5 ∷ 1 ∷ []
unfolding list_of
angle = refl

-- "`A<,b>`, C++17, flag 0: 1 part, 5 nodes, 5 steps."
no_list : list_of Cpp Cpp17 0 ample (word "A" ∷ sign Less ∷ comma ∷ word "b" ∷ sign Greater ∷ []) ≡ 0 ∷ 5 ∷ 5 ∷ 0 ∷ 1 ∷ []
unfolding list_of
no_list = refl

-- "`int,int`, allowance 2: 25, part 1, steps 2; `int,` with 2: 10." With 3 steps allowed it is 25 after 3, with 4 accepted.
allowances : list_of C C89 1 2 (word "int" ∷ comma ∷ word "int" ∷ []) ∷ list_of C C89 1 2 (word "int" ∷ comma ∷ []) ∷ list_of C C89 1 3 (word "int" ∷ comma ∷ word "int" ∷ [])
    ∷ list_of C C89 1 4 (word "int" ∷ comma ∷ word "int" ∷ []) ∷ []
    ≡ (25 ∷ 65535 ∷ 0 ∷ 2 ∷ 1 ∷ []) ∷ (10 ∷ 65535 ∷ 0 ∷ 2 ∷ 1 ∷ []) ∷ (25 ∷ 65535 ∷ 0 ∷ 3 ∷ 1 ∷ []) ∷ (0 ∷ 2 ∷ 4 ∷ 0 ∷ 2 ∷ []) ∷ []
unfolding list_of
allowances = refl

-- "`long long,)`, C89: 40, part 0": its detail is 1 and its steps are 3, as document 01 has of `long long`.
first_decides : list_of C C89 1 ample (word "long" ∷ word "long" ∷ comma ∷ sign RightParen ∷ []) ≡ 40 ∷ 65535 ∷ 1 ∷ 3 ∷ 0 ∷ []
unfolding list_of
first_decides = refl

-- ---- files and buffers

-- `int` alone is one part. 6 comes before any part and touches nothing; a head alone is an empty row.
files : list_answer (int_file 2) 6 ∷ list_answer (int_file 2) 5 ∷ list_answer (take 11 (int_file 2)) 0 ∷ [] ≡ list_accepts 1 1 2 ∷ list_refuses ShortBuffer 0 65535 ∷ list_refuses Empty 0 0 ∷ []
unfolding list_of
files = refl

buffers : list_buffer (int_file 2) (replicate 7 9) ∷ list_buffer (int_file 2) (replicate 5 9) ∷ list_buffer (take 11 (int_file 2)) (replicate 2 9) ∷ []
    ≡ (0 ∷ 0 ∷ 1 ∷ 0 ∷ 0 ∷ 0 ∷ 0 ∷ []) ∷ replicate 5 9 ∷ replicate 2 0 ∷ []
unfolding list_of
buffers = refl

-- The trees of `A<b>,c` one after the other, and zeros.
trees : list_buffer_in (replicate 18 9) (passes (parts_answer Cpp Cpp17 1 (parts Cpp (in_file (word "A" ∷ sign Less ∷ word "b" ∷ sign Greater ∷ comma ∷ word "c" ∷ []))) ample))
    ≡ 0 ∷ 0 ∷ 1 ∷ 3 ∷ 1 ∷ 3 ∷ 4 ∷ 2 ∷ 2 ∷ 0 ∷ 2 ∷ 1 ∷ 0 ∷ 0 ∷ 1 ∷ 0 ∷ 0 ∷ 0 ∷ []
unfolding list_of
trees = refl

-- ---- answers as numbers

codes : list_code (list_accepts 2 7 9) ∷ list_code (list_refuses (UnclosedAngle 1) 5 1) ∷ [] ≡ 0 ∷ 16 ∷ []
unfolding list_code
codes = refl
