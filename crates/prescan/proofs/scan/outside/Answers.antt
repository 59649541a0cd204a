-- `outside` meets its contract: an arm of the definition at each way out. Assumes nothing.
use mathlib.Core.Path.{sym, ◌∙◌}
use native.Mathlib.Omega.{arith}
use Rattle.prescan.specs.Laws.Outside.{less_refused, less_first, less_later, greater_refused, greater_closes, shift_refused, shift_closes, shift_passes, comma_refused, comma_passes, other_passes}
use Rattle.prescan.specs.Laws.Steps.{goes_on, stops}
use Rattle.prescan.proofs.scan.outside.Goals as goal

pub returns-then-s-eq-NO_TOKEN : goal.returns-then-s-eq-NO_TOKEN
returns-then-s-eq-NO_TOKEN c = goes_on c.past.ensures (less_first _ _ _ _ c.if-kind-eq-LESS.true (sym c.opens_angle.ensures ∙ c.if-opens_angle.true) c.if-s-eq-NO_TOKEN.true) (omega arith)

pub returns-then-opens_angle : goal.returns-then-opens_angle
returns-then-opens_angle c = goes_on c.past-then-opens_angle.ensures (less_later _ _ _ _ c.if-kind-eq-LESS.true (sym c.opens_angle.ensures ∙ c.if-opens_angle.true) c.if-s-eq-NO_TOKEN.false) (omega arith)

pub returns-then-kind-eq-LESS : goal.returns-then-kind-eq-LESS
returns-then-kind-eq-LESS c = stops (less_refused _ _ _ _ c.if-kind-eq-LESS.true (sym c.opens_angle.ensures ∙ c.if-opens_angle.false))

pub returns-then-s-eq0 : goal.returns-then-s-eq0
returns-then-s-eq0 c = stops (greater_refused _ _ _ _ c.if-kind-eq-GREATER.true c.if-s-eq0.true)

pub returns-then-kind-eq-GREATER : goal.returns-then-kind-eq-GREATER
returns-then-kind-eq-GREATER c = goes_on c.past-then-kind-eq-GREATER.ensures (greater_closes _ _ _ _ c.if-kind-eq-GREATER.true c.if-s-eq0.false) (omega arith)

pub returns-then-s-eq1 : goal.returns-then-s-eq1
returns-then-s-eq1 c = stops (shift_refused _ _ _ _ c.if-kind-eq-SHIFT_RIGHT.true c.if-s-eq1.true)

pub returns-then-s-ge2 : goal.returns-then-s-ge2
returns-then-s-ge2 c = goes_on c.past-then-s-ge2.ensures (shift_closes _ _ _ _ c.if-kind-eq-SHIFT_RIGHT.true c.if-s-eq1.false c.if-s-ge2.true) (omega arith)

pub returns-then-kind-eq-SHIFT_RIGHT : goal.returns-then-kind-eq-SHIFT_RIGHT
returns-then-kind-eq-SHIFT_RIGHT c = goes_on c.past-then-kind-eq-SHIFT_RIGHT.ensures (shift_passes _ _ _ _ c.if-kind-eq-SHIFT_RIGHT.true c.if-s-eq1.false c.if-s-ge2.false) (omega arith)

pub returns-then-s-eq0-2 : goal.returns-then-s-eq0-2
returns-then-s-eq0-2 c = stops (comma_refused _ _ _ _ c.if-kind-eq-COMMA.true c.if-s-eq0-2.true)

pub returns-then-kind-eq-COMMA : goal.returns-then-kind-eq-COMMA
returns-then-kind-eq-COMMA c = goes_on c.past-then-kind-eq-COMMA.ensures (comma_passes _ _ _ _ c.if-kind-eq-COMMA.true c.if-s-eq0-2.false) (omega arith)

pub returns : goal.returns
returns c = goes_on c.past-2.ensures (other_passes _ _ _ _ c.if-kind-eq-LESS.false c.if-kind-eq-GREATER.false c.if-kind-eq-SHIFT_RIGHT.false c.if-kind-eq-COMMA.false) (omega arith)
