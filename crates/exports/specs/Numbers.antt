-- Numbers in an array of the caller's.
-- Assumes nothing.
use Rattle.std.specs.Prelude.{ℕ, List, [], ◌∷◌}

-- Numbers in front of an array, as many as it has room for; later numbers stay.
unfoldable pub put_front : (numbers array : List ℕ) → List ℕ
put_front [] xs = xs
put_front (n ∷ ns) [] = []
put_front (n ∷ ns) (x ∷ xs) = n ∷ put_front ns xs
