-- What a loop over the nodes of a level says so far: the nodes read and their steps, before what comes of reading the rest.
-- Assumes nothing.
use Rattle.std.specs.Prelude.{ℕ, ◌+◌, ◌≡◌, refl, ◌++◌}
use Rattle.std.proofs.Common.{sym, ap, ap₂, append_assoc, arith}
use Rattle.reader.specs.Nodes.{NodeKind, Nodes, none, node, count, records}
use Rattle.reader.specs.Reading.{Got, got, bad, before}

infixr 66 ◌then◌
-- The nodes of one level, and after them others.
unfoldable pub ◌then◌ : Nodes → Nodes → Nodes
none then y = y
node k i b x then y = node k i b (x then y)

-- Nodes and steps before what came of the rest.
unfoldable pub onto : Nodes → ℕ → Got → Got
unfolding ◌then◌
onto x m (got y at half m') = got (x then y) at half (m + m')
onto x m (bad e m') = bad e (m + m')

pub then_assoc : (x y z : Nodes) → (x then y) then z ≡ x then y then z
unfolding ◌then◌
then_assoc none y z = refl
then_assoc (node k i b x) y z = ap (node k i b) (then_assoc x y z)

pub then_count : (x y : Nodes) → count (x then y) ≡ count x + count y
unfolding ◌then◌ count
then_count none y = omega arith
then_count (node k i b x) y = omega (arith, then_count x y)

pub then_records : (x y : Nodes) → records (x then y) ≡ records x ++ records y
unfolding ◌then◌ records
then_records none y = refl
then_records (node k i b x) y = rw (then_records x y) (simp append_assoc)

pub before_onto : (k : NodeKind) (i : ℕ) (b : Nodes) (m : ℕ) (g : Got) → before k i b m g ≡ onto (node k i b none) m g
unfolding before onto ◌then◌
before_onto k i b m (got y at half m') = refl
before_onto k i b m (bad e m') = refl

pub onto_none : (g : Got) → onto none 0 g ≡ g
unfolding onto ◌then◌
onto_none (got y at half m) = ap (got y at half) (omega arith)
onto_none (bad e m) = ap (bad e) (omega arith)

pub onto_onto : (x y : Nodes) (m n : ℕ) (g : Got) → onto x m (onto y n g) ≡ onto (x then y) (m + n) g
unfolding onto
onto_onto x y m n (got z at half m') = ap₂ (λ (w : Nodes) (s : ℕ). got w at half s) (sym (then_assoc x y z)) (omega arith)
onto_onto x y m n (bad e m') = ap (bad e) (omega arith)

-- One node more.
pub onto_before : (x : Nodes) (m : ℕ) (k : NodeKind) (i : ℕ) (b : Nodes) (n : ℕ) (g : Got)
    → onto x m (before k i b n g) ≡ onto (x then node k i b none) (m + n) g
onto_before x m k i b n g = rw before_onto (onto_onto x (node k i b none) m n g)
