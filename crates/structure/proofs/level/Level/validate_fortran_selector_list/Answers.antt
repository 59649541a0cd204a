-- `validate_fortran_selector_list` meets its contract. Assumes nothing.
use mathlib.Core.Path.{refl}
use native.Mathlib.Omega.{arith}
use Rattle.structure.specs.Selectors.{validate_fortran_selector_list}
use Rattle.structure.specs.Laws.Walks.{walk_start, walk_stops, walk_holds, walk_further, walk_fits}
use Rattle.structure.specs.Laws.Inside.{no_list, list_of, both_failed, selectors_start}
use Rattle.structure.specs.Laws.Every.{elements_past, elements_fit, elements_ready, elements_comma, elements_turn, elements_last, elements_next}
use Rattle.structure.proofs.level.Level.validate_fortran_selector_list.Goals as goal

pub returns-then-from-to : goal.returns-then-from-to
unfolding validate_fortran_selector_list
returns-then-from-to c = both_failed _ _ (λ x. refl) (no_list c.if-from-to.true)

pub returns-then-not-elements_are_full : goal.returns-then-not-elements_are_full
unfolding validate_fortran_selector_list
returns-then-not-elements_are_full c = both_failed _ _ (λ x. refl) (list_of c.if-from-to.false c.elements_are_full.ensures c.if-not-elements_are_full.true)

pub loop-left-init : goal.loop-left-init
loop-left-init c = walk_start _ c.args.self.now.stands.nodes_stand (selectors_start _ _ c.if-from-to.false c.elements_are_full.ensures c.if-not-elements_are_full.false _)

pub within-requires : goal.within-requires
within-requires c = elements_ready _ c.loop-left.invariant c.element_end-end.ensures c.args.self.now.stands.worded

pub returns-in_err-left : goal.returns-in_err-left
returns-in_err-left c = walk_stops c.loop-left.invariant (elements_turn _ c.loop-left.invariant c.element_end-end.ensures) (rw c.within.ensures.1 at c.validate_fortran_selector.ensures) c.in_err-left.was c.from_residual.ensures.1

pub returns-then-end-to : goal.returns-then-end-to
returns-then-end-to c = elements_last _ (walk_holds c.loop-left.invariant (elements_turn _ c.loop-left.invariant c.element_end-end.ensures) (rw c.within.ensures.1 at c.validate_fortran_selector.ensures) c.in_ok-left.was) c.if-end-to.true

pub node_end-at-requires : goal.node_end-at-requires
node_end-at-requires c = (omega (arith, elements_fit _ c.loop-left.invariant c.element_end-end.ensures, c.if-end-to.false), elements_comma _ c.loop-left.invariant c.element_end-end.ensures)

pub loop-left-smaller : goal.loop-left-smaller
loop-left-smaller c = omega (arith, elements_past _ c.loop-left.invariant c.element_end-end.ensures, walk_further (walk_holds c.loop-left.invariant (elements_turn _ c.loop-left.invariant c.element_end-end.ensures) (rw c.within.ensures.1 at c.validate_fortran_selector.ensures) c.in_ok-left.was) (omega (arith, elements_fit _ c.loop-left.invariant c.element_end-end.ensures, c.if-end-to.false)) c.node_end-at.ensures, walk_fits (walk_holds c.loop-left.invariant (elements_turn _ c.loop-left.invariant c.element_end-end.ensures) (rw c.within.ensures.1 at c.validate_fortran_selector.ensures) c.in_ok-left.was) (omega (arith, elements_fit _ c.loop-left.invariant c.element_end-end.ensures, c.if-end-to.false)) c.node_end-at.ensures)

pub loop-left-preserved : goal.loop-left-preserved
loop-left-preserved c = elements_next _ (walk_holds c.loop-left.invariant (elements_turn _ c.loop-left.invariant c.element_end-end.ensures) (rw c.within.ensures.1 at c.validate_fortran_selector.ensures) c.in_ok-left.was) (omega (arith, elements_fit _ c.loop-left.invariant c.element_end-end.ensures, c.if-end-to.false)) c.node_end-at.ensures
