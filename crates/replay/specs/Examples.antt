-- Computed examples of this crate's definitions.
-- Assumes nothing.
use Rattle.std.specs.Prelude.{◌≡◌, refl, [], ◌∷◌, true, false}
use Rattle.rows.specs.Records.{little_endian}
use Rattle.rows.specs.Words.{bytes}
use Rattle.text.specs.Text.{decimal, last_digit, last_digits}
use Rattle.replay.specs.Replay.{number_at, numbers, first_difference, agree}
use Rattle.replay.specs.Report.{difference, labelled, place_text, values_text, total}

stored_then_behind : numbers (1 ∷ 2 ∷ 0 ∷ 0 ∷ 7 ∷ 0 ∷ 0 ∷ 1 ∷ []) 2 9 4 ≡ 513 ∷ 16777223 ∷ 9 ∷ 9 ∷ []
unfolding numbers number_at little_endian
stored_then_behind = refl

second_differs : first_difference (5 ∷ 6 ∷ 7 ∷ []) (5 ∷ 0 ∷ 7 ∷ []) ≡ 1
unfolding first_difference
second_differs = refl

none_differs : agree (5 ∷ 6 ∷ []) (5 ∷ 6 ∷ []) ≡ true
unfolding agree first_difference
none_differs = refl

last_differs : agree (5 ∷ 6 ∷ []) (5 ∷ 7 ∷ []) ≡ false
unfolding agree first_difference
last_differs = refl

difference_line : difference 7 (bytes "buffer") 30 5 4294967295 ≡ bytes "case 7, buffer 30: expected 5, got 4294967295\n"
unfolding difference place_text values_text labelled bytes decimal last_digits last_digit
difference_line = refl

total_line : total 4000 0 ≡ bytes "4000 replayed, 0 differ\n"
unfolding total bytes decimal last_digits last_digit
total_line = refl
