-- Computed examples of this crate's definitions.
-- Assumes nothing.
use Rattle.std.specs.Prelude.{◌≡◌, refl, [], ◌∷◌}
use Rattle.rows.specs.Words.{bytes}
use Rattle.text.specs.Text.{decimal, last_digit, last_digits, ended, little_endian_bytes, fits, handed}

nought : decimal 0 ≡ bytes "0"
unfolding decimal last_digits last_digit bytes
nought = refl

one_digit : decimal 9 ≡ bytes "9"
unfolding decimal last_digits last_digit bytes
one_digit = refl

two_digits : ended 10 32 ≡ bytes "10 "
unfolding ended decimal last_digits last_digit bytes
two_digits = refl

greatest : decimal 18446744073709551615 ≡ bytes "18446744073709551615"
unfolding decimal last_digits last_digit bytes
greatest = refl

-- Document 01's head length and head kind, 11 and 256, in two bytes each.
two_bytes : (little_endian_bytes 2 11 ≡ 11 ∷ 0 ∷ []) × (little_endian_bytes 2 256 ≡ 0 ∷ 1 ∷ [])
unfolding little_endian_bytes
two_bytes = (refl, refl)

four_bytes : little_endian_bytes 4 67305985 ≡ 1 ∷ 2 ∷ 3 ∷ 4 ∷ []
unfolding little_endian_bytes
four_bytes = refl

with_room : handed (7 ∷ 8 ∷ []) (1 ∷ 2 ∷ 3 ∷ []) ≡ 7 ∷ 8 ∷ 3 ∷ []
unfolding handed fits
with_room = refl

too_short : handed (7 ∷ 8 ∷ []) (1 ∷ []) ≡ 1 ∷ []
unfolding handed fits
too_short = refl
