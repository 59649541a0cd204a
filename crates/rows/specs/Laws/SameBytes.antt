-- `==` of two runs of bytes is that of two words. Assumes nothing.
use Rattle.std.specs.Prelude.{ℕ, ◌≡◌, refl, List, [], ◌∷◌, eqb}
use Rattle.std.specs.Cmp.Lexicographic.{pointwise}
use Rattle.rows.specs.Words.{same_exactly, same_through}

pub pointwise_same : (w v : List ℕ) → pointwise eqb w v ≡ same_exactly w v
unfolding same_exactly same_through
pointwise_same [] [] = refl
pointwise_same [] (c ∷ v) = refl
pointwise_same (b ∷ w) [] = refl
pointwise_same (b ∷ w) (c ∷ v) = rw (pointwise_same w v) refl
