-- `makes_level` meets its contract. Assumes nothing.
use native.Mathlib.Omega.{arith}
use mathlib.Core.Logic.{inl, inr}
use Rattle.listing.specs.Laws.Lines.{makes_level_so, makes_level_not}
use Rattle.listing.proofs.level.makes_level.Goals as goal

pub returns-in-1 : goal.returns-in-1
returns-in-1 c = makes_level_so _ (omega arith) (omega arith)

pub returns-in_default : goal.returns-in_default
returns-in_default c = makes_level_not _ (inl c.in_default.if-kind-lt1-own.true)

pub returns-in_default-2 : goal.returns-in_default-2
returns-in_default-2 c = makes_level_not _ (inr c.in_default.if-kind-lt4-own.false)
