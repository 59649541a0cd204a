-- `is_angle_close` meets its contract: each way out computes with its tests. Assumes nothing.
use borrow.Author.Tests.{eq-eqb, ne_eqb}
use Rattle.reader.specs.Reading.{is_angle_close}
use Rattle.reader.proofs.tables.is_angle_close.Goals as goal

pub returns-then-half : goal.returns-then-half
unfolding is_angle_close
returns-then-half c = simp (is_angle_close, c.if-half.true)

pub returns-then-kind-eq-GREATER : goal.returns-then-kind-eq-GREATER
unfolding is_angle_close
returns-then-kind-eq-GREATER c = simp (is_angle_close, c.if-half.false, eq-eqb _ _ c.if-kind-eq-GREATER.true)

pub returns-then-kind-eq-SHIFT_RIGHT : goal.returns-then-kind-eq-SHIFT_RIGHT
unfolding is_angle_close
returns-then-kind-eq-SHIFT_RIGHT c = simp (is_angle_close, c.if-half.false, ne_eqb _ _ c.if-kind-eq-GREATER.false, eq-eqb _ _ c.if-kind-eq-SHIFT_RIGHT.true)

pub returns : goal.returns
unfolding is_angle_close
returns c = simp (is_angle_close, c.if-half.false, ne_eqb _ _ c.if-kind-eq-GREATER.false, ne_eqb _ _ c.if-kind-eq-SHIFT_RIGHT.false)
