-- `validate_fortran_type` meets its contract. Assumes nothing.
use mathlib.Core.Path.{refl}
use native.Mathlib.Omega.{arith}
use Rattle.structure.specs.FortranTypes.{fortran_end}
use Rattle.structure.specs.Laws.Walks.{walk_below, walk_after}
use Rattle.structure.specs.Laws.Loops.{entry_spent, head_fails, head_holds, run_start, run_end, run_stop, run_on, run_stops, run_inside}
use Rattle.structure.specs.Laws.Inside.{by_name}
use Rattle.structure.specs.Checks.{test}
use Rattle.structure.specs.Laws.Checks.{fortran_entry, fortran_moved}
use Rattle.structure.proofs.level.Level.validate_fortran_type.Goals as goal

pub returns-then-allowed-eq0 : goal.returns-then-allowed-eq0
returns-then-allowed-eq0 c = entry_spent _ (fortran_entry _ _ _) c.if-allowed-eq0.true

pub returns-then-not-validate_fortran_type_head : goal.returns-then-not-validate_fortran_type_head
returns-then-not-validate_fortran_type_head c = head_fails _ _ (fortran_entry _ _ _) (omega arith) c.validate_fortran_type_head.ensures c.if-not-validate_fortran_type_head.true

pub loop-at-init : goal.loop-at-init
loop-at-init c = run_start tt c.args.self.now.stands.nodes_stand (head_holds _ _ (fortran_entry _ _ _) (omega arith) c.validate_fortran_type_head.ensures c.if-not-validate_fortran_type_head.false)

pub is_single_token-last-requires : goal.is_single_token-last-requires
is_single_token-last-requires c = (omega arith, walk_after c.loop-at.invariant.walk (omega arith) c.node_end-end.ensures)

pub returns-in-Stop : goal.returns-in-Stop
returns-in-Stop c = run_stop c.loop-at.invariant (omega arith) (fortran_moved c.loop-at.invariant (omega arith) c.shape_at-shape.ensures c.node_end-end.ensures c.is_single_token-last.ensures c.fortran_node-act.ensures c.in-Stop.is) c.plain.ensures

pub loop-at-preserved-in-On : goal.loop-at-preserved-in-On
loop-at-preserved-in-On c = run_on c.loop-at.invariant (omega arith) c.node_end-end.ensures (fortran_moved c.loop-at.invariant (omega arith) c.shape_at-shape.ensures c.node_end-end.ensures c.is_single_token-last.ensures c.fortran_node-act.ensures c.in-On.is) tt

pub returns : goal.returns
unfolding fortran_end
returns c = run_end c.loop-at.invariant (omega arith) c.plain-2.ensures

pub within-requires : goal.within-requires
within-requires c = walk_below c.loop-at.invariant.walk (omega arith) c.node_end-end.ensures c.args.self.now.stands.worded

pub returns-in_err-left-in-Inside-Selectors-default : goal.returns-in_err-left-in-Inside-Selectors-default
unfolding test
returns-in_err-left-in-Inside-Selectors-default c = run_stops c.loop-at.invariant (omega arith) c.node_end-end.ensures (fortran_moved c.loop-at.invariant (omega arith) c.shape_at-shape.ensures c.node_end-end.ensures c.is_single_token-last.ensures c.fortran_node-act.ensures c.in-Inside-Selectors-default.is) (by_name _ (λ x. refl) (rw c.within.ensures.1 at c.validate_fortran_selector_list.ensures)) c.in_err-left-in-Inside-Selectors-default.was c.from_residual.ensures.1

pub loop-at-preserved : goal.loop-at-preserved
unfolding test
loop-at-preserved c = run_inside c.loop-at.invariant (omega arith) c.node_end-end.ensures (fortran_moved c.loop-at.invariant (omega arith) c.shape_at-shape.ensures c.node_end-end.ensures c.is_single_token-last.ensures c.fortran_node-act.ensures c.in-Inside-Selectors-default.is) (by_name _ (λ x. refl) (rw c.within.ensures.1 at c.validate_fortran_selector_list.ensures)) c.in_ok-left-in-Inside-Selectors-default.was tt
