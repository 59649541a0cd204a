-- The numbers of a replay list, and what it is that two lists of numbers differ.
-- Assumes nothing.
use Rattle.std.specs.Prelude.{ℕ, zero, suc, ◌+◌, ◌*◌, Bool, ◌&&◌, List, [], ◌∷◌, ◌++◌, length, get_or, take, drop, replicate, eqb, ltb, if◌then◌else◌}
use Rattle.rows.specs.Format.{format}
use Rattle.rows.specs.Records.{little_endian}
use Rattle.type_name.specs.Answers.{answer, final_buffer}
use Rattle.type_name.specs.AnswerNumbers.{answer_code, answer_numbers}
use Rattle.exports.specs.Numbers.{put_front}

-- The bytes of a number of the list.
abbrev pub number_bytes : ℕ
number_bytes = 4

-- The numbers in front of a case.
abbrev pub head_numbers : ℕ
head_numbers = 9

-- Where the head of a case has the number that fills the buffer before.
abbrev pub fill_at : ℕ
fill_at = 2

-- Where it has the answer.
abbrev pub answer_at : ℕ
answer_at = 3

-- How many numbers an answer has.
abbrev pub answer_length : ℕ
answer_length = 4

-- Where it has the count of stored numbers.
abbrev pub stored_at : ℕ
stored_at = 7

-- Where it has the number behind them.
abbrev pub behind_at : ℕ
behind_at = 8

-- One byte more than a row file may have: no case has a longer file.
abbrev pub file_length : ℕ
file_length = format.file_limit + 1

-- No list has so many cases.
abbrev pub most_cases : ℕ
most_cases = 1000000

-- Number i of those that `count` stored numbers and the one behind them stand for.
unfoldable pub number_at : (stored : List ℕ) (count behind i : ℕ) → ℕ
number_at stored count behind i = if ltb i count then little_endian number_bytes stored (number_bytes * i) else behind

-- The first n of them.
unfoldable pub numbers : (stored : List ℕ) (count behind n : ℕ) → List ℕ
numbers stored count behind zero = []
numbers stored count behind (suc n) = numbers stored count behind n ++ (number_at stored count behind n ∷ [])

-- The place of the first number that differs, the length if none does.
unfoldable pub first_difference : List ℕ → List ℕ → ℕ
first_difference [] ys = 0
first_difference (x ∷ xs) [] = 0
first_difference (x ∷ xs) (y ∷ ys) = if eqb x y then suc (first_difference xs ys) else 0

-- No number differs, of lists equally long.
unfoldable pub agree : List ℕ → List ℕ → Bool
agree xs ys = eqb (first_difference xs ys) (length xs)

-- Whether a file's answer is what a case has, with a buffer of so many numbers: the number returned, the answer's numbers, and the final buffer.
unfoldable pub replays : (head file stored : List ℕ) (room : ℕ) → Bool
replays head file stored room =
    let filled = numbers stored 0 (get_or head fill_at 0) room in
    let expected = numbers stored (get_or head stored_at 0) (get_or head behind_at 0) room in
    let a = answer file (length filled) in
    agree (take 1 (drop answer_at head)) (answer_code a ∷ [])
    && agree (take answer_length (drop answer_at head)) (put_front (answer_numbers a) (replicate answer_length 0))
    && agree expected (final_buffer file filled)
