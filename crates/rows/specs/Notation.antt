-- Notation that the definitions share.
-- Assumes nothing.
use Rattle.std.specs.Prelude.{ℕ, Bool, false, ◌||◌, List, [], ◌∷◌, eqb}

infix 40 ◌is_one_of◌
-- The number stands in the list: the Rust's `matches!` with several cases.
unfoldable pub ◌is_one_of◌ : ℕ → List ℕ → Bool
k is_one_of [] = false
k is_one_of (n ∷ ns) = eqb k n || (k is_one_of ns)
