-- As many numbers put in front of an array as both hold. Assumes nothing.
use Rattle.std.specs.Prelude.{ℕ, ◌≡◌, refl, List, [], ◌∷◌, ◌++◌, length, take, drop, min}
use Rattle.std.proofs.Common.{ap}
use native.Mathlib.Numerals.{unary_clauses}
use Rattle.exports.specs.Numbers.{put_front}

front_put : (ns xs : List ℕ) → take (min (length xs) (length ns)) ns ++ drop (min (length xs) (length ns)) xs ≡ put_front ns xs
unfolding put_front
front_put [] [] = refl
front_put [] (x ∷ xs) = simp unary_clauses refl
front_put (n ∷ ns) [] = simp unary_clauses refl
front_put (n ∷ ns) (x ∷ xs) = simp unary_clauses (ap (λ (l : List ℕ). n ∷ l) (front_put ns xs))

-- Here `room` and `front` are what the code found.
pub put_in_front : (ns xs : List ℕ) {room : ℕ} {front : List ℕ} → room ≡ min (length xs) (length ns) → front ≡ take room ns → front ++ drop room xs ≡ put_front ns xs
put_in_front ns xs e f = rw (f, e) (front_put ns xs)
