-- `kind_before_last` meets its contract. Assumes nothing.
use Prim.Native.Nat.{◌-◌}
use mathlib.Core.Path.{◌≡◌}
use native.Mathlib.Omega.{arith}
use lib.ListN.{length}
use Rattle.rows.specs.Kinds.{NoToken}
use Rattle.rows.specs.Laws.Lookups.{any_default}
use Rattle.prescan.proofs.boundary.kind_before_last.Goals as goal

pub returns-then-kinds-lt2 : goal.returns-then-kinds-lt2
returns-then-kinds-lt2 c = let none : length c.args.kinds.now - 2 ≡ 0 = omega arith in rw none (any_default c.args.kinds.now 0 0 NoToken (omega arith))

pub returns : goal.returns
returns c = any_default c.args.kinds.now (length c.args.kinds.now - 2) 0 NoToken (omega arith)
