-- A reading under an allowance of steps: refusal 25 exactly where its steps are more. `left` is what is left of the allowance.
-- Assumes nothing.
use Rattle.std.specs.Prelude.{ℕ, ◌-◌, Bool}
use Rattle.rows.specs.Allowance.{within}
use Rattle.reader.specs.Nodes.{NodeKind, Nodes, node}
use Rattle.reader.specs.Reading.{Fault, Got, got, bad}

-- What comes of a reading when so many steps are left: the nodes, where to go on, whether half a `>>` is left, and the steps left; a fault, and the
-- steps left; or refusal 25.
pub data Limited : Type 0 where
  done : Nodes → (at : ℕ) → (half : Bool) → (left : ℕ) → Limited
  denied : Fault → (left : ℕ) → Limited
  spent : Limited

-- The steps of a reading.
unfoldable pub steps : Got → ℕ
steps (got x at half m) = m
steps (bad e m) = m

-- Where the steps left are enough.
unfoldable pub settled : (left : ℕ) → Got → Limited
settled left (got x at half m) = done x at half (left - m)
settled left (bad e m) = denied e (left - m)

-- "25 step count would pass the allowance, and only then".
unfoldable pub reading_within : (left : ℕ) → Got → Limited
unfolding steps settled
reading_within left g = within left (steps g) (settled left g) spent

-- A node before what came of the rest, as `before` has it.
unfoldable pub behind : NodeKind → ℕ → Nodes → Limited → Limited
behind k i b (done x at half left) = done (node k i b x) at half left
behind k i b (denied e left) = denied e left
behind k i b spent = spent
