-- A check under an allowance of steps: document 01, "Steps".
-- Assumes nothing.
use Rattle.std.specs.Prelude.{ℕ, ◌-◌, Result, Ok, Err}
use Rattle.rows.specs.Allowance.{within}
use Rattle.structure.specs.Said.{Said, holds, fails}
use Rattle.structure.specs.declared.moves.Fault.{Fault}
use Rattle.structure.specs.declared.moves.Fault.TheVariants.{Fails, Spent}

-- What a check comes to under an allowance: where it holds, the steps that are left.
abbrev pub Verdict : Type 0
Verdict = Result ℕ Fault

-- What comes of a check when so many steps are left: "25 step count would pass the allowance, and only then".
unfoldable pub verdict_within : (left : ℕ) → Said → Verdict
verdict_within left (holds m) = within left m (Ok (left - m)) (Err Spent)
verdict_within left (fails m) = within left m (Err (Fails (left - m))) (Err Spent)
