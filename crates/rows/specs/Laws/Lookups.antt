-- What code reads of a list within it, and what the definitions have past its end. Assumes nothing.
use Rattle.std.specs.Prelude.{ℕ, zero, suc, ◌≤◌, ◌<◌, ◌≡◌, refl, List, [], ◌∷◌, length, get_or}
use Rattle.std.proofs.Common.{sym, arith}
use Rattle.std.proofs.Math.ListN.{get_or-eq_default}

-- Within a list the element past its end does not matter.
pub any_default : (l : List ℕ) (i a b : ℕ) → i < length l → get_or l i a ≡ get_or l i b
any_default [] i a b p = absurd (omega arith)
any_default (x ∷ l) zero a b p = refl
any_default (x ∷ l) (suc i) a b p = any_default l i a b (omega arith)

pub past_default : (l : List ℕ) (i a : ℕ) → length l ≤ i → a ≡ get_or l i a
past_default l i a p = sym (get_or-eq_default l a p)
