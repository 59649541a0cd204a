-- The allowance of steps: document 01, "Answer record", its last line.
-- Assumes nothing.
use Rattle.std.specs.Prelude.{ℕ, leb, if◌then◌else◌}

-- "25 step count would pass the allowance, and only then": what is answered after so many steps, or what stands for 25.
abbrev pub within : {A : Type 0} → (allowance steps : ℕ) → (answered passed : A) → A
within allowance steps answered passed = if leb steps allowance then answered else passed
