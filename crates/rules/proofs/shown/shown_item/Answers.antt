-- `shown_item` meets its contract. Assumes nothing.
use native.Mathlib.Omega.{arith}
use Rattle.rules.specs.Laws.Stand.{item_moves}
use Rattle.rules.specs.Laws.Showing.{second_shown, first_shown}
use Rattle.rules.proofs.shown.shown_item.Goals as goal

pub bounds-table-first : goal.bounds-table-first
bounds-table-first c = omega (arith, item_moves _ c.requires.stands, c.requires.stands.inside)

pub returns-then-table-first-eq-ANY : goal.returns-then-table-first-eq-ANY
returns-then-table-first-eq-ANY c = second_shown _ c.if-table-first-eq-ANY.true

pub returns : goal.returns
returns c = first_shown _ _ c.if-table-first-eq-ANY.false
