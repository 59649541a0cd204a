-- `close_delimiter` meets its contract. Assumes nothing.
use Prim.Native.Nat.{◌-◌}
use native.Mathlib.Omega.{arith}
use Rattle.prescan.specs.Laws.Taking.{on_past, refuses, nothing_open, own_open, other_open, own_sort}
use Rattle.prescan.proofs.scan.close_delimiter.Goals as goal

pub returns-then-depth-eq0 : goal.returns-then-depth-eq0
returns-then-depth-eq0 c = refuses (nothing_open _ _ _ _ _ _ c.if-depth-eq0.true)

pub returns-then-eq : goal.returns-then-eq
returns-then-eq c = on_past c.requires.0 c.requires.1 c.past.ensures (omega arith) (omega (arith, c.requires.0.angles)) (own_open _ _ _ _ _ _ (c.args.s.depth - 1) (omega arith) _ c.delimiter-opened.ensures (own_sort _ _ c.eq.ensures c.if-eq.true))

pub returns : goal.returns
returns c = refuses (other_open _ _ _ _ _ _ (c.args.s.depth - 1) (omega arith) _ c.delimiter-opened.ensures (own_sort _ _ c.eq.ensures c.if-eq.false))
