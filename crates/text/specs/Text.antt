-- Decimal numbers as text, numbers as little-endian bytes, and what it is to put such bytes behind others.
-- Assumes nothing.
use Rattle.std.specs.Prelude.{ℕ, zero, suc, ◌+◌, ◌-◌, ◌/◌, ◌%◌, ◌≡◌, Bool, List, [], ◌∷◌, ◌++◌, length, take, drop, leb, ltb, if◌then◌else◌}
use Rattle.rows.specs.Records.{byte_values}

-- ---- decimal numbers

-- The digit `0` in ASCII.
abbrev pub digit_nought : ℕ
digit_nought = 48

-- Decimal: ten digits.
abbrev pub base : ℕ
base = 10

-- No number of 64 bits has more digits.
abbrev pub most_digits : ℕ
most_digits = 20

-- The longest number with the byte that ends it.
abbrev pub longest_ended : ℕ
longest_ended = most_digits + 1

-- The last decimal digit in ASCII.
unfoldable pub last_digit : ℕ → ℕ
last_digit n = digit_nought + n % base

-- The decimal digits of a number, the last k + 1 of them if it has more.
unfoldable pub last_digits : ℕ → ℕ → List ℕ
last_digits zero n = last_digit n ∷ []
last_digits (suc k) n =
    if ltb n base then last_digit n ∷ []
    else last_digits k (n / base) ++ (last_digit n ∷ [])

-- A number in decimal.
unfoldable pub decimal : ℕ → List ℕ
decimal n = last_digits (most_digits - 1) n

-- A number and the byte that ends it.
unfoldable pub ended : ℕ → ℕ → List ℕ
ended n end = decimal n ++ (end ∷ [])

-- ---- record numbers

-- "All record numbers are little-endian": the bytes of a number in so many bytes.
unfoldable pub little_endian_bytes : (width number : ℕ) → List ℕ
little_endian_bytes zero n = []
little_endian_bytes (suc width) n = n % byte_values ∷ little_endian_bytes width (n / byte_values)

-- ---- buffers

-- A buffer that held `at` bytes holds more: `added` stands behind them, and there are `r` bytes now. The bytes behind those are as they were.
pub record Appended (entry : List ℕ) (at : ℕ) (added : List ℕ) (r : ℕ) (exit : List ℕ) : Type 0 where
  pub counts : r ≡ at + length added
  pub says : take r exit ≡ take at entry ++ added
  pub behind : drop r exit ≡ drop r entry

-- The buffer has room for the output.
unfoldable pub fits : (output buffer : List ℕ) → Bool
fits output buffer = leb (length output) (length buffer)

-- A lent buffer after an output: the output in front and the bytes past it as they were; a buffer that is too short is not touched.
unfoldable pub handed : (output buffer : List ℕ) → List ℕ
handed output buffer = if fits output buffer then output ++ drop (length output) buffer else buffer
