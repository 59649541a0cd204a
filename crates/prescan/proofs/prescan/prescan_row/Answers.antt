-- `prescan_row` meets its contract. The loop's invariant: the state is the definition's before the token. Assumes nothing.
use mathlib.Core.Path.{refl, ◌∙◌}
use native.Mathlib.Omega.{arith}
use Rattle.prescan.specs.Prescan.{start}
use Rattle.prescan.specs.Laws.ScanLoop.{empty_row, loop_begins, loop_refuses, loop_goes_on, loop_identifier, loop_ordinary, loop_ends}
use Rattle.prescan.specs.Laws.Ordinary.{ordinary_so}
use Rattle.prescan.proofs.prescan.prescan_row.Goals.{then-kind-eq-IDENTIFIER, else-kind-eq-IDENTIFIER+then-is_ordinary, else-kind-eq-IDENTIFIER+else-is_ordinary+in-Ok}
use Rattle.prescan.proofs.prescan.prescan_row.Goals as goal

pub returns-then-kinds-eq0 : goal.returns-then-kinds-eq0
returns-then-kinds-eq0 c = record { same = empty_row _ _ c.if-kinds-eq0.true }

pub loop-at-init : goal.loop-at-init
unfolding start
loop-at-init c = (loop_begins _ _ _ _ (omega arith) c.requires.0 c.requires.1 refl refl refl, refl)

pub returns : goal.returns
returns c = loop_ends _ c.loop-at.invariant.0 (omega arith) _ c.check_row_end.ensures

pub returns-in-Err : goal.returns-in-Err
returns-in-Err c = loop_refuses _ c.loop-at.invariant.0 (omega arith) c.in-Err.ensures

pub loop-at-preserved : goal.loop-at-preserved
loop-at-preserved c =
    elim c.if-kind-eq-IDENTIFIER.branch [
      | then-kind-eq-IDENTIFIER w ↦ rw (w.stack-is, w.state-is) (loop_identifier _ c.loop-at.invariant.0 (omega arith) w.if-kind-eq-IDENTIFIER.true, c.loop-at.invariant.1)
      | else-kind-eq-IDENTIFIER+then-is_ordinary w ↦ rw (w.stack-is, w.state-is) (loop_ordinary _ c.loop-at.invariant.0 (omega arith) w.if-kind-eq-IDENTIFIER.false (ordinary_so refl w.is_ordinary.ensures w.if-is_ordinary.true), c.loop-at.invariant.1)
      | else-kind-eq-IDENTIFIER+else-is_ordinary+in-Ok w ↦ rw (w.stack-is, w.state-is) (loop_goes_on _ c.loop-at.invariant.0 (omega arith) w.in-Ok.ensures, w.take.auto.stack ∙ c.loop-at.invariant.1)
    ]
