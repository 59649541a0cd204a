-- Sums over a list: how often something stands in it.
-- Assumes nothing.
use Rattle.std.specs.Prelude.{ℕ, ◌+◌, ◌≡◌, List, [], ◌∷◌, ◌++◌}
use Rattle.std.proofs.Common.{arith}

unfoldable pub sum {ℓ} : {A : Type ℓ} → (A → ℕ) → List A → ℕ
sum w [] = 0
sum w (t ∷ l) = w t + sum w l

pub sum_append {ℓ} : {A : Type ℓ} (w : A → ℕ) (l m : List A) → sum w (l ++ m) ≡ sum w l + sum w m
unfolding sum
sum_append w [] m = omega arith
sum_append w (t ∷ l) m = omega (arith, sum_append w l m)
