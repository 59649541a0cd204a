-- The proof of the checks that call one another. The measure is eight for each node of the range, and a rank: a check of the nodes below has fewer
-- nodes, and one of the same nodes a lower rank.
-- Assumes nothing.
use mathlib.Core.Path.{refl, sym, ap, ◌∙◌}
use native.Mathlib.Omega.{arith}
use Rattle.std.specs.Prelude.{Err}
use Rattle.structure.specs.Declarators.{type_end, declarator_end}
use Rattle.structure.specs.Checks.{test, validate_cpp_template_argument, validate_parameter, validate_parameter_type_list}
use Rattle.structure.specs.Laws.Limits.{limited_no}
use Rattle.structure.specs.Laws.Walks.{walk_start, walk_stops, walk_holds, walk_further, walk_fits, walk_below, walk_after}
use Rattle.structure.specs.Laws.Loops.{entry_spent, entry, head_fails, head_holds, run_start, run_end, run_stop, run_on, run_stops, run_inside}
use Rattle.structure.specs.Laws.Checks.{type_entry, declarator_entry, expression_entry, word_type, no_word_before, type_moved}
use Rattle.structure.specs.Laws.Checks.{at_word, at_wrong_word, at_scope, at_list}
use Rattle.structure.specs.Laws.Checks.{declarator_moved, expression_moved, waits_on, waits_inside}
use Rattle.structure.specs.Laws.Inside.{empty_of, full_of, no_node, some_node, no_bound, bound_of, by_name, either_held, either_else, both_failed, both_then}
use Rattle.structure.specs.Laws.Inside.{first_held, first_spent, then_second, told, inside_declarator, group_declarator, group_parameters, parameters_start}
use Rattle.structure.specs.Laws.Every.{elements_past, elements_fit, elements_ready, elements_comma, elements_turn, elements_last, elements_next, arguments_end}
use Rattle.structure.specs.Laws.Every.{arguments_turn}
use Rattle.structure.proofs.level.Level.+validation.Goals as goal

pub arguments-loop-at-init : goal.arguments-loop-at-init
unfolding test
arguments-loop-at-init t c = walk_start _ c.args.self.now.stands.nodes_stand (λ x s. refl)

pub arguments-returns : goal.arguments-returns
arguments-returns t c = arguments_end _ c.loop-at.invariant (omega arith)

pub arguments-within-requires : goal.arguments-within-requires
arguments-within-requires t c = walk_below c.loop-at.invariant (omega arith) c.node_end-end.ensures c.args.self.now.stands.worded

pub arguments-validate_cpp_template_argument-requires : goal.arguments-validate_cpp_template_argument-requires
arguments-validate_cpp_template_argument-requires t c = (rw c.within.ensures.1 (omega (arith, walk_further c.loop-at.invariant (omega arith) c.node_end-end.ensures, walk_fits c.loop-at.invariant (omega arith) c.node_end-end.ensures, c.loop-at.invariant.past, c.decreases)), tt)

pub arguments-returns-in_err-left : goal.arguments-returns-in_err-left
arguments-returns-in_err-left t c = walk_stops c.loop-at.invariant (arguments_turn _ c.loop-at.invariant (omega arith) c.node_end-end.ensures) (rw c.within.ensures.1 at c.validate_cpp_template_argument.ensures) c.in_err-left.was c.from_residual.ensures.1

pub arguments-loop-at-preserved : goal.arguments-loop-at-preserved
arguments-loop-at-preserved t c = walk_holds c.loop-at.invariant (arguments_turn _ c.loop-at.invariant (omega arith) c.node_end-end.ensures) (rw c.within.ensures.1 at c.validate_cpp_template_argument.ensures) c.in_ok-left.was

pub either-returns-in-Ok : goal.either-returns-in-Ok
unfolding test
either-returns-in-Ok t c = first_held _ (λ x. refl) c.validate_c_family_type.ensures c.in-Ok.is

pub either-returns-in-Err-Fails : goal.either-returns-in-Err-Fails
unfolding test
either-returns-in-Err-Fails t c = then_second _ (λ x. refl) c.validate_c_family_type.ensures (c.in-Err-Fails.is ∙ ap Err c.in-Err-Fails.field-0-is) c.validate_expression.ensures

pub either-returns-in-Err-Spent : goal.either-returns-in-Err-Spent
unfolding test
either-returns-in-Err-Spent t c = first_spent _ (λ x. refl) c.validate_c_family_type.ensures (c.in-Err-Spent.is ∙ ap Err c.in-Err-Spent.field-0-is)

pub parameter-returns-then-is_ellipsis : goal.parameter-returns-then-is_ellipsis
unfolding validate_parameter
parameter-returns-then-is_ellipsis t c = either_held _ _ (λ x. refl) (λ x s. sym c.if-is_ellipsis.true ∙ c.is_ellipsis.ensures x s)

pub parameter-returns : goal.parameter-returns
unfolding validate_parameter
parameter-returns t c = either_else _ _ (λ x. refl) (λ x s. sym c.if-is_ellipsis.false ∙ c.is_ellipsis.ensures x s) c.validate_c_family_type.ensures

pub test-returns-in-TypeName : goal.test-returns-in-TypeName
unfolding test
test-returns-in-TypeName t c = told _ _ c.in-TypeName.is (by_name _ (λ x. refl) c.validate_c_family_type.ensures)

pub test-returns-in-Expression : goal.test-returns-in-Expression
unfolding test
test-returns-in-Expression t c = told _ _ c.in-Expression.is (by_name _ (λ x. refl) c.validate_expression.ensures)

pub test-returns-then-from-to : goal.test-returns-then-from-to
unfolding test
test-returns-then-from-to t c = told _ _ c.in-SomeExpression.is (both_failed _ _ (λ x. refl) (no_node c.if-from-to.true))

pub test-returns-in-SomeExpression : goal.test-returns-in-SomeExpression
unfolding test
test-returns-in-SomeExpression t c = told _ _ c.in-SomeExpression.is (both_then _ _ (λ x. refl) (some_node c.if-from-to.false) c.validate_expression-in-SomeExpression.ensures)

pub test-returns-then-from-to-2 : goal.test-returns-then-from-to-2
unfolding test
test-returns-then-from-to-2 t c = told _ _ c.in-OptionalExpression.is (either_held _ _ (λ x. refl) (empty_of c.if-from-to-2.true))

pub test-returns-in-OptionalExpression : goal.test-returns-in-OptionalExpression
unfolding test
test-returns-in-OptionalExpression t c = told _ _ c.in-OptionalExpression.is (either_else _ _ (λ x. refl) (full_of c.if-from-to-2.false) c.validate_expression-in-OptionalExpression.ensures)

pub test-returns-then-from-to-3 : goal.test-returns-then-from-to-3
unfolding test
test-returns-then-from-to-3 t c = told _ _ c.in-ArrayBound.is (either_held _ _ (λ x. refl) (no_bound c.if-from-to-3.true))

pub test-returns-then-is_single_token : goal.test-returns-then-is_single_token
unfolding test
test-returns-then-is_single_token t c = told _ _ c.in-ArrayBound.is (either_held _ _ (λ x. refl) (bound_of c.if-from-to-3.false c.is_single_token.ensures c.if-is_single_token.true))

pub test-returns-in-ArrayBound : goal.test-returns-in-ArrayBound
unfolding test
test-returns-in-ArrayBound t c = told _ _ c.in-ArrayBound.is (either_else _ _ (λ x. refl) (bound_of c.if-from-to-3.false c.is_single_token.ensures c.if-is_single_token.false) c.validate_expression-in-ArrayBound.ensures)

pub test-returns-in-Declarator : goal.test-returns-in-Declarator
test-returns-in-Declarator t c = told _ _ c.in-Declarator.is (inside_declarator _ _ c.validate_abstract_declarator.ensures)

pub test-returns-then-looks_like_abstract_declarator : goal.test-returns-then-looks_like_abstract_declarator
test-returns-then-looks_like_abstract_declarator t c = told _ _ c.in-DeclaratorOrParameters.is (group_declarator _ _ _ c.looks_like_abstract_declarator.ensures c.if-looks_like_abstract_declarator.true c.validate_abstract_declarator-then-looks_like_abstract_declarator.ensures)

pub test-returns-then-not-saw_type_word : goal.test-returns-then-not-saw_type_word
test-returns-then-not-saw_type_word t c = told _ _ c.in-DeclaratorOrParameters.is (group_parameters _ _ _ c.looks_like_abstract_declarator.ensures c.if-looks_like_abstract_declarator.false (both_failed _ _ (λ x. refl) (λ x s. sym c.if-not-saw_type_word.true)))

pub test-returns-in-DeclaratorOrParameters : goal.test-returns-in-DeclaratorOrParameters
test-returns-in-DeclaratorOrParameters t c = told _ _ c.in-DeclaratorOrParameters.is (group_parameters _ _ _ c.looks_like_abstract_declarator.ensures c.if-looks_like_abstract_declarator.false (both_then _ _ (λ x. refl) (λ x s. sym c.if-not-saw_type_word.false) c.validate_parameter_type_list.ensures))

pub validate_abstract_declarator-returns-then-allowed-eq0 : goal.validate_abstract_declarator-returns-then-allowed-eq0
validate_abstract_declarator-returns-then-allowed-eq0 t c = entry_spent _ (declarator_entry _ _ _) c.if-allowed-eq0.true

pub validate_abstract_declarator-loop-at-init : goal.validate_abstract_declarator-loop-at-init
validate_abstract_declarator-loop-at-init t c = run_start refl c.args.self.now.stands.nodes_stand (entry _ (declarator_entry _ _ _) (omega arith))

pub validate_abstract_declarator-shape_at-right-requires : goal.validate_abstract_declarator-shape_at-right-requires
validate_abstract_declarator-shape_at-right-requires t c = walk_after c.loop-at.invariant.walk (omega arith) c.node_end-end.ensures

pub validate_abstract_declarator-returns-in-Stop : goal.validate_abstract_declarator-returns-in-Stop
validate_abstract_declarator-returns-in-Stop t c = run_stop c.loop-at.invariant (omega arith) (declarator_moved c.loop-at.invariant (omega arith) c.shape_at-shape.ensures c.exact_word-word.ensures c.node_end-end.ensures c.shape_at-right.ensures c.abstract_declarator_node-act.ensures c.in-Stop.is) c.plain.ensures

pub validate_abstract_declarator-returns : goal.validate_abstract_declarator-returns
unfolding declarator_end
validate_abstract_declarator-returns t c = run_end c.loop-at.invariant (omega arith) c.plain-2.ensures

pub validate_abstract_declarator-loop-at-preserved-in-On : goal.validate_abstract_declarator-loop-at-preserved-in-On
validate_abstract_declarator-loop-at-preserved-in-On t c = run_on c.loop-at.invariant (omega arith) c.node_end-end.ensures (declarator_moved c.loop-at.invariant (omega arith) c.shape_at-shape.ensures c.exact_word-word.ensures c.node_end-end.ensures c.shape_at-right.ensures c.abstract_declarator_node-act.ensures c.in-On.is) (c.shape_at-shape.ensures _ c.loop-at.invariant.walk.stands)

pub validate_abstract_declarator-within-requires : goal.validate_abstract_declarator-within-requires
validate_abstract_declarator-within-requires t c = walk_below c.loop-at.invariant.walk (omega arith) c.node_end-end.ensures c.args.self.now.stands.worded

pub validate_abstract_declarator-validate_abstract_declarator-requires : goal.validate_abstract_declarator-validate_abstract_declarator-requires
validate_abstract_declarator-validate_abstract_declarator-requires t c = (rw c.within.ensures.1 (omega (arith, walk_further c.loop-at.invariant.walk (omega arith) c.node_end-end.ensures, walk_fits c.loop-at.invariant.walk (omega arith) c.node_end-end.ensures, c.loop-at.invariant.walk.past, c.decreases)), tt)

pub validate_abstract_declarator-returns-in_err-left-in-Inside-Declarator-default : goal.validate_abstract_declarator-returns-in_err-left-in-Inside-Declarator-default
validate_abstract_declarator-returns-in_err-left-in-Inside-Declarator-default t c = run_stops c.loop-at.invariant (omega arith) c.node_end-end.ensures (declarator_moved c.loop-at.invariant (omega arith) c.shape_at-shape.ensures c.exact_word-word.ensures c.node_end-end.ensures c.shape_at-right.ensures c.abstract_declarator_node-act.ensures c.in-Inside-Declarator-default.is) (told _ _ (rw c.in-Inside-Declarator-default.is at c.in-Inside-Declarator-default.field-0-is) (inside_declarator _ _ (rw c.within.ensures.1 at c.validate_abstract_declarator.ensures))) c.in_err-left-in-Inside-Declarator-default.was c.from_residual.ensures.1

pub validate_abstract_declarator-within-requires-in-Inside : goal.validate_abstract_declarator-within-requires-in-Inside
validate_abstract_declarator-within-requires-in-Inside t c = walk_below c.loop-at.invariant.walk (omega arith) c.node_end-end.ensures c.args.self.now.stands.worded

pub validate_abstract_declarator-test-requires : goal.validate_abstract_declarator-test-requires
validate_abstract_declarator-test-requires t c = (rw c.within-in-Inside.ensures.1 (omega (arith, walk_further c.loop-at.invariant.walk (omega arith) c.node_end-end.ensures, walk_fits c.loop-at.invariant.walk (omega arith) c.node_end-end.ensures, c.loop-at.invariant.walk.past, c.decreases)), tt)

pub validate_abstract_declarator-returns-in_err-left-in-Inside : goal.validate_abstract_declarator-returns-in_err-left-in-Inside
validate_abstract_declarator-returns-in_err-left-in-Inside t c = run_stops c.loop-at.invariant (omega arith) c.node_end-end.ensures (declarator_moved c.loop-at.invariant (omega arith) c.shape_at-shape.ensures c.exact_word-word.ensures c.node_end-end.ensures c.shape_at-right.ensures c.abstract_declarator_node-act.ensures c.in-Inside.is) (rw c.within-in-Inside.ensures.1 at c.test.ensures) c.in_err-left-in-Inside.was c.from_residual-in_err-left-in-Inside.ensures.1

pub validate_abstract_declarator-loop-at-preserved-in_ok-left-in-Inside-Declarator-default : goal.validate_abstract_declarator-loop-at-preserved-in_ok-left-in-Inside-Declarator-default
validate_abstract_declarator-loop-at-preserved-in_ok-left-in-Inside-Declarator-default t c = run_inside c.loop-at.invariant (omega arith) c.node_end-end.ensures (declarator_moved c.loop-at.invariant (omega arith) c.shape_at-shape.ensures c.exact_word-word.ensures c.node_end-end.ensures c.shape_at-right.ensures c.abstract_declarator_node-act.ensures c.in-Inside-Declarator-default.is) (told _ _ (rw c.in-Inside-Declarator-default.is at c.in-Inside-Declarator-default.field-0-is) (inside_declarator _ _ (rw c.within.ensures.1 at c.validate_abstract_declarator.ensures))) c.in_ok-left-in-Inside-Declarator-default.was (c.shape_at-shape.ensures _ c.loop-at.invariant.walk.stands)

pub validate_abstract_declarator-loop-at-preserved : goal.validate_abstract_declarator-loop-at-preserved
validate_abstract_declarator-loop-at-preserved t c = run_inside c.loop-at.invariant (omega arith) c.node_end-end.ensures (declarator_moved c.loop-at.invariant (omega arith) c.shape_at-shape.ensures c.exact_word-word.ensures c.node_end-end.ensures c.shape_at-right.ensures c.abstract_declarator_node-act.ensures c.in-Inside.is) (rw c.within-in-Inside.ensures.1 at c.test.ensures) c.in_ok-left-in-Inside.was (c.shape_at-shape.ensures _ c.loop-at.invariant.walk.stands)

pub validate_c_family_type-returns-then-allowed-eq0 : goal.validate_c_family_type-returns-then-allowed-eq0
validate_c_family_type-returns-then-allowed-eq0 t c = entry_spent _ (type_entry _ _ _) c.if-allowed-eq0.true

pub validate_c_family_type-returns-then-is_type_word : goal.validate_c_family_type-returns-then-is_type_word
validate_c_family_type-returns-then-is_type_word t c = word_type _ _ _ (omega arith) c.is_type_word.ensures c.if-is_type_word.true

pub validate_c_family_type-returns-then-not-validate_c_decl_specifiers : goal.validate_c_family_type-returns-then-not-validate_c_decl_specifiers
validate_c_family_type-returns-then-not-validate_c_decl_specifiers t c = head_fails _ _ (type_entry _ _ _) (omega arith) c.validate_c_decl_specifiers.ensures c.if-not-validate_c_decl_specifiers.true

pub validate_c_family_type-loop-at-init : goal.validate_c_family_type-loop-at-init
validate_c_family_type-loop-at-init t c = run_start (refl, no_word_before) c.args.self.now.stands.nodes_stand (head_holds _ _ (type_entry _ _ _) (omega arith) c.validate_c_decl_specifiers.ensures c.if-not-validate_c_decl_specifiers.false)

pub validate_c_family_type-returns-then-not-takes_word : goal.validate_c_family_type-returns-then-not-takes_word
validate_c_family_type-returns-then-not-takes_word t c = run_stop c.loop-at.invariant c.loop-at-test.true (at_wrong_word c.loop-at.invariant c.shape_at-shape.ensures c.exact_word-word.ensures c.if-shape-eq-IDENTIFIER.true c.takes_word.ensures c.if-not-takes_word.true) (sym (limited_no _))

pub validate_c_family_type-loop-at-preserved-then-shape-eq-IDENTIFIER : goal.validate_c_family_type-loop-at-preserved-then-shape-eq-IDENTIFIER
validate_c_family_type-loop-at-preserved-then-shape-eq-IDENTIFIER t c = run_on c.loop-at.invariant c.loop-at-test.true c.node_end-end.ensures (at_word c.loop-at.invariant c.shape_at-shape.ensures c.exact_word-word.ensures c.if-shape-eq-IDENTIFIER.true c.takes_word.ensures c.if-not-takes_word.false) (c.shape_at-shape.ensures _ c.loop-at.invariant.walk.stands, c.exact_word-word.ensures _ c.loop-at.invariant.walk.stands)

pub validate_c_family_type-shape_at-right-requires : goal.validate_c_family_type-shape_at-right-requires
validate_c_family_type-shape_at-right-requires t c = walk_after c.loop-at.invariant.walk c.loop-at-test.true c.node_end-end.ensures

pub validate_c_family_type-loop-at-preserved-then-takes_scope : goal.validate_c_family_type-loop-at-preserved-then-takes_scope
validate_c_family_type-loop-at-preserved-then-takes_scope t c = run_on c.loop-at.invariant c.loop-at-test.true c.node_end-end.ensures (at_scope c.loop-at.invariant c.shape_at-shape.ensures c.loop-at-test.true c.node_end-end.ensures c.shape_at-right.ensures c.takes_scope.ensures c.if-takes_scope.true) (c.shape_at-shape.ensures _ c.loop-at.invariant.walk.stands, c.exact_word-word.ensures _ c.loop-at.invariant.walk.stands)

pub validate_c_family_type-returns-in-Stop : goal.validate_c_family_type-returns-in-Stop
validate_c_family_type-returns-in-Stop t c = run_stop c.loop-at.invariant c.loop-at-test.true (type_moved c.loop-at.invariant c.loop-at-test.true c.shape_at-shape.ensures c.exact_word-word.ensures c.node_end-end.ensures c.shape_at-right.ensures c.c_family_node-act.ensures c.in-Stop.is) c.plain.ensures

pub validate_c_family_type-loop-at-preserved-in-On : goal.validate_c_family_type-loop-at-preserved-in-On
validate_c_family_type-loop-at-preserved-in-On t c = run_on c.loop-at.invariant c.loop-at-test.true c.node_end-end.ensures (type_moved c.loop-at.invariant c.loop-at-test.true c.shape_at-shape.ensures c.exact_word-word.ensures c.node_end-end.ensures c.shape_at-right.ensures c.c_family_node-act.ensures c.in-On.is) (c.shape_at-shape.ensures _ c.loop-at.invariant.walk.stands, c.exact_word-word.ensures _ c.loop-at.invariant.walk.stands)

pub validate_c_family_type-returns : goal.validate_c_family_type-returns
unfolding type_end
validate_c_family_type-returns t c = run_end c.loop-at.invariant (omega arith) c.plain-2.ensures

pub validate_c_family_type-within-requires : goal.validate_c_family_type-within-requires
validate_c_family_type-within-requires t c = walk_below c.loop-at.invariant.walk c.loop-at-test.true c.node_end-end.ensures c.args.self.now.stands.worded

pub validate_c_family_type-arguments-requires : goal.validate_c_family_type-arguments-requires
validate_c_family_type-arguments-requires t c = (rw c.within.ensures.1 (omega (arith, walk_further c.loop-at.invariant.walk c.loop-at-test.true c.node_end-end.ensures, walk_fits c.loop-at.invariant.walk c.loop-at-test.true c.node_end-end.ensures, c.loop-at.invariant.walk.past, c.decreases)), tt)

pub validate_c_family_type-returns-in_err-left : goal.validate_c_family_type-returns-in_err-left
validate_c_family_type-returns-in_err-left t c = run_stops c.loop-at.invariant c.loop-at-test.true c.node_end-end.ensures (at_list c.loop-at.invariant c.shape_at-shape.ensures c.takes_list.ensures c.if-takes_list.true) (rw c.within.ensures.1 at c.arguments.ensures) c.in_err-left.was c.from_residual.ensures.1

pub validate_c_family_type-loop-at-preserved-then-takes_list : goal.validate_c_family_type-loop-at-preserved-then-takes_list
validate_c_family_type-loop-at-preserved-then-takes_list t c = run_inside c.loop-at.invariant c.loop-at-test.true c.node_end-end.ensures (at_list c.loop-at.invariant c.shape_at-shape.ensures c.takes_list.ensures c.if-takes_list.true) (rw c.within.ensures.1 at c.arguments.ensures) c.in_ok-left.was (c.shape_at-shape.ensures _ c.loop-at.invariant.walk.stands, c.exact_word-word.ensures _ c.loop-at.invariant.walk.stands)

pub validate_c_family_type-within-requires-in-Inside : goal.validate_c_family_type-within-requires-in-Inside
validate_c_family_type-within-requires-in-Inside t c = walk_below c.loop-at.invariant.walk c.loop-at-test.true c.node_end-end.ensures c.args.self.now.stands.worded

pub validate_c_family_type-test-requires : goal.validate_c_family_type-test-requires
validate_c_family_type-test-requires t c = (rw c.within-in-Inside.ensures.1 (omega (arith, walk_further c.loop-at.invariant.walk c.loop-at-test.true c.node_end-end.ensures, walk_fits c.loop-at.invariant.walk c.loop-at-test.true c.node_end-end.ensures, c.loop-at.invariant.walk.past, c.decreases)), tt)

pub validate_c_family_type-returns-in_err-left-in-Inside : goal.validate_c_family_type-returns-in_err-left-in-Inside
validate_c_family_type-returns-in_err-left-in-Inside t c = run_stops c.loop-at.invariant c.loop-at-test.true c.node_end-end.ensures (type_moved c.loop-at.invariant c.loop-at-test.true c.shape_at-shape.ensures c.exact_word-word.ensures c.node_end-end.ensures c.shape_at-right.ensures c.c_family_node-act.ensures c.in-Inside.is) (rw c.within-in-Inside.ensures.1 at c.test.ensures) c.in_err-left-in-Inside.was c.from_residual-in_err-left-in-Inside.ensures.1

pub validate_c_family_type-loop-at-preserved : goal.validate_c_family_type-loop-at-preserved
validate_c_family_type-loop-at-preserved t c = run_inside c.loop-at.invariant c.loop-at-test.true c.node_end-end.ensures (type_moved c.loop-at.invariant c.loop-at-test.true c.shape_at-shape.ensures c.exact_word-word.ensures c.node_end-end.ensures c.shape_at-right.ensures c.c_family_node-act.ensures c.in-Inside.is) (rw c.within-in-Inside.ensures.1 at c.test.ensures) c.in_ok-left-in-Inside.was (c.shape_at-shape.ensures _ c.loop-at.invariant.walk.stands, c.exact_word-word.ensures _ c.loop-at.invariant.walk.stands)

pub validate_cpp_template_argument-returns-then-self : goal.validate_cpp_template_argument-returns-then-self
unfolding validate_cpp_template_argument
validate_cpp_template_argument-returns-then-self t c = both_failed _ _ (λ x. refl) (no_node c.if-self.true)

pub validate_cpp_template_argument-returns : goal.validate_cpp_template_argument-returns
unfolding validate_cpp_template_argument test
validate_cpp_template_argument-returns t c = both_then _ _ (λ x. refl) (some_node c.if-self.false) c.either.ensures

pub validate_expression-returns-then-allowed-eq0 : goal.validate_expression-returns-then-allowed-eq0
validate_expression-returns-then-allowed-eq0 t c = entry_spent _ (expression_entry _ _ _) c.if-allowed-eq0.true

pub validate_expression-loop-at-init : goal.validate_expression-loop-at-init
validate_expression-loop-at-init t c = run_start (omega arith) c.args.self.now.stands.nodes_stand (entry _ (expression_entry _ _ _) (omega arith))

pub validate_expression-returns-in-Stop : goal.validate_expression-returns-in-Stop
validate_expression-returns-in-Stop t c = run_stop c.loop-at.invariant (omega arith) (expression_moved c.loop-at.invariant c.shape_at-shape.ensures c.expression_node-act.ensures c.in-Stop.is) c.plain.ensures

pub validate_expression-loop-at-preserved-in-On : goal.validate_expression-loop-at-preserved-in-On
validate_expression-loop-at-preserved-in-On t c = run_on c.loop-at.invariant (omega arith) c.node_end-end.ensures (expression_moved c.loop-at.invariant c.shape_at-shape.ensures c.expression_node-act.ensures c.in-On.is) (omega (arith, waits_on c.expression_node-act.ensures c.in-On.is, walk_further c.loop-at.invariant.walk (omega arith) c.node_end-end.ensures, c.loop-at.invariant.known))

pub validate_expression-returns : goal.validate_expression-returns
validate_expression-returns t c = run_end c.loop-at.invariant (omega arith) (c.plain-2.ensures ∙ rw c.expression_end.ensures)

pub validate_expression-within-requires : goal.validate_expression-within-requires
validate_expression-within-requires t c = walk_below c.loop-at.invariant.walk (omega arith) c.node_end-end.ensures c.args.self.now.stands.worded

pub validate_expression-test-requires : goal.validate_expression-test-requires
validate_expression-test-requires t c = (rw c.within.ensures.1 (omega (arith, walk_further c.loop-at.invariant.walk (omega arith) c.node_end-end.ensures, walk_fits c.loop-at.invariant.walk (omega arith) c.node_end-end.ensures, c.loop-at.invariant.walk.past, c.decreases)), tt)

pub validate_expression-returns-in_err-left-in-Inside : goal.validate_expression-returns-in_err-left-in-Inside
validate_expression-returns-in_err-left-in-Inside t c = run_stops c.loop-at.invariant (omega arith) c.node_end-end.ensures (expression_moved c.loop-at.invariant c.shape_at-shape.ensures c.expression_node-act.ensures c.in-Inside.is) (rw c.within.ensures.1 at c.test.ensures) c.in_err-left-in-Inside.was c.from_residual.ensures.1

pub validate_expression-loop-at-preserved : goal.validate_expression-loop-at-preserved
validate_expression-loop-at-preserved t c = run_inside c.loop-at.invariant (omega arith) c.node_end-end.ensures (expression_moved c.loop-at.invariant c.shape_at-shape.ensures c.expression_node-act.ensures c.in-Inside.is) (rw c.within.ensures.1 at c.test.ensures) c.in_ok-left-in-Inside.was (omega (arith, waits_inside c.expression_node-act.ensures c.in-Inside.is, walk_further c.loop-at.invariant.walk (omega arith) c.node_end-end.ensures, c.loop-at.invariant.known))

pub validate_parameter_type_list-returns-then-from-to : goal.validate_parameter_type_list-returns-then-from-to
unfolding validate_parameter_type_list
validate_parameter_type_list-returns-then-from-to t c = either_held _ _ (λ x. refl) (empty_of c.if-from-to.true)

pub validate_parameter_type_list-returns-then-not-elements_are_full : goal.validate_parameter_type_list-returns-then-not-elements_are_full
unfolding validate_parameter_type_list
validate_parameter_type_list-returns-then-not-elements_are_full t c = either_else _ _ (λ x. refl) (full_of c.if-from-to.false) (both_failed _ _ (λ x. refl) (λ x s. sym c.if-not-elements_are_full.true ∙ c.elements_are_full.ensures x s))

pub validate_parameter_type_list-loop-left-init : goal.validate_parameter_type_list-loop-left-init
validate_parameter_type_list-loop-left-init t c = walk_start _ c.args.self.now.stands.nodes_stand (parameters_start _ _ c.if-from-to.false c.elements_are_full.ensures c.if-not-elements_are_full.false _)

pub validate_parameter_type_list-within-requires : goal.validate_parameter_type_list-within-requires
validate_parameter_type_list-within-requires t c = elements_ready _ c.loop-left.invariant c.element_end-end.ensures c.args.self.now.stands.worded

pub validate_parameter_type_list-parameter-requires : goal.validate_parameter_type_list-parameter-requires
validate_parameter_type_list-parameter-requires t c = (rw c.within.ensures.1 (omega (arith, elements_past _ c.loop-left.invariant c.element_end-end.ensures, elements_fit _ c.loop-left.invariant c.element_end-end.ensures, c.loop-left.invariant.past, c.decreases)), tt)

pub validate_parameter_type_list-returns-in_err-left : goal.validate_parameter_type_list-returns-in_err-left
validate_parameter_type_list-returns-in_err-left t c = walk_stops c.loop-left.invariant (elements_turn _ c.loop-left.invariant c.element_end-end.ensures) (rw c.within.ensures.1 at c.parameter.ensures) c.in_err-left.was c.from_residual.ensures.1

pub validate_parameter_type_list-returns-then-end-to : goal.validate_parameter_type_list-returns-then-end-to
validate_parameter_type_list-returns-then-end-to t c = elements_last _ (walk_holds c.loop-left.invariant (elements_turn _ c.loop-left.invariant c.element_end-end.ensures) (rw c.within.ensures.1 at c.parameter.ensures) c.in_ok-left.was) c.if-end-to.true

pub validate_parameter_type_list-node_end-at-requires : goal.validate_parameter_type_list-node_end-at-requires
validate_parameter_type_list-node_end-at-requires t c = (omega (arith, elements_fit _ c.loop-left.invariant c.element_end-end.ensures, c.if-end-to.false), elements_comma _ c.loop-left.invariant c.element_end-end.ensures)

pub validate_parameter_type_list-loop-left-smaller : goal.validate_parameter_type_list-loop-left-smaller
validate_parameter_type_list-loop-left-smaller t c = omega (arith, elements_past _ c.loop-left.invariant c.element_end-end.ensures, walk_further (walk_holds c.loop-left.invariant (elements_turn _ c.loop-left.invariant c.element_end-end.ensures) (rw c.within.ensures.1 at c.parameter.ensures) c.in_ok-left.was) (omega (arith, elements_fit _ c.loop-left.invariant c.element_end-end.ensures, c.if-end-to.false)) c.node_end-at.ensures, walk_fits (walk_holds c.loop-left.invariant (elements_turn _ c.loop-left.invariant c.element_end-end.ensures) (rw c.within.ensures.1 at c.parameter.ensures) c.in_ok-left.was) (omega (arith, elements_fit _ c.loop-left.invariant c.element_end-end.ensures, c.if-end-to.false)) c.node_end-at.ensures)

pub validate_parameter_type_list-loop-left-preserved : goal.validate_parameter_type_list-loop-left-preserved
validate_parameter_type_list-loop-left-preserved t c = elements_next _ (walk_holds c.loop-left.invariant (elements_turn _ c.loop-left.invariant c.element_end-end.ensures) (rw c.within.ensures.1 at c.parameter.ensures) c.in_ok-left.was) (omega (arith, elements_fit _ c.loop-left.invariant c.element_end-end.ensures, c.if-end-to.false)) c.node_end-at.ensures
