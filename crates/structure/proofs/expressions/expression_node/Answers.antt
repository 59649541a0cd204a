-- `expression_node` meets its contract: an arm of the table at each way out. Assumes nothing.
use mathlib.Core.Path.{sym, ◌∙◌}
use native.Mathlib.Omega.{arith}
use Rattle.structure.specs.Laws.Waits.{moves_on, moves_inside}
use Rattle.structure.specs.Laws.Tables.{expression_1, expression_2, expression_3, expression_4, expression_5, expression_6, expression_7, expression_8, expression_9, expression_10, expression_11, expression_12, expression_13, expression_14}
use Rattle.structure.proofs.expressions.expression_node.Goals as goal

pub returns-then-shape-eq-IDENTIFIER : goal.returns-then-shape-eq-IDENTIFIER
returns-then-shape-eq-IDENTIFIER c = moves_on _ _ c.on_if.ensures (omega arith) (expression_1 _ _ _ _ _ c.if-shape-eq-IDENTIFIER.true)

pub returns-then-is_literal : goal.returns-then-is_literal
returns-then-is_literal c = moves_on _ _ c.on_if-then-is_literal.ensures (omega arith) (expression_2 _ _ _ _ _ c.if-shape-eq-IDENTIFIER.false (sym c.is_literal.ensures ∙ c.if-is_literal.true))

pub returns-then-shape-eq-SCOPE : goal.returns-then-shape-eq-SCOPE
returns-then-shape-eq-SCOPE c = moves_on _ _ c.on_if-then-shape-eq-SCOPE.ensures (omega arith) (expression_3 _ _ _ _ _ c.if-shape-eq-IDENTIFIER.false (sym c.is_literal.ensures ∙ c.if-is_literal.false) c.if-shape-eq-SCOPE.true)

pub returns-then-is_member_access : goal.returns-then-is_member_access
returns-then-is_member_access c = moves_on _ _ c.on_if-then-is_member_access.ensures (omega arith) (rw c.is_access_of.ensures (expression_4 _ _ _ _ _ c.if-shape-eq-IDENTIFIER.false (sym c.is_literal.ensures ∙ c.if-is_literal.false) c.if-shape-eq-SCOPE.false (sym c.is_member_access.ensures ∙ c.if-is_member_access.true)))

pub returns-then-is_prefix_operator-operand : goal.returns-then-is_prefix_operator-operand
returns-then-is_prefix_operator-operand c = record { is = expression_5 _ _ _ _ _ c.if-shape-eq-IDENTIFIER.false (sym c.is_literal.ensures ∙ c.if-is_literal.false) c.if-shape-eq-SCOPE.false (sym c.is_member_access.ensures ∙ c.if-is_member_access.false) (rw c.is_prefix_operator.ensures at c.if-is_prefix_operator-operand.true); waits = omega arith }

pub returns-then-is_prefix_or_binary_operator-operand : goal.returns-then-is_prefix_or_binary_operator-operand
returns-then-is_prefix_or_binary_operator-operand c = record { is = expression_6 _ _ _ _ _ c.if-shape-eq-IDENTIFIER.false (sym c.is_literal.ensures ∙ c.if-is_literal.false) c.if-shape-eq-SCOPE.false (sym c.is_member_access.ensures ∙ c.if-is_member_access.false) (rw c.is_prefix_operator.ensures at c.if-is_prefix_operator-operand.false) (rw c.is_prefix_or_binary_operator.ensures at c.if-is_prefix_or_binary_operator-operand.true); waits = omega arith }

pub returns-then-is_postfix_operator-operand : goal.returns-then-is_postfix_operator-operand
returns-then-is_postfix_operator-operand c = record { is = expression_7 _ _ _ _ _ c.if-shape-eq-IDENTIFIER.false (sym c.is_literal.ensures ∙ c.if-is_literal.false) c.if-shape-eq-SCOPE.false (sym c.is_member_access.ensures ∙ c.if-is_member_access.false) (rw c.is_prefix_operator.ensures at c.if-is_prefix_operator-operand.false) (rw c.is_prefix_or_binary_operator.ensures at c.if-is_prefix_or_binary_operator-operand.false) (rw c.is_postfix_operator.ensures at c.if-is_postfix_operator-operand.true); waits = omega arith }

pub returns-then-shape-eq-QUESTION : goal.returns-then-shape-eq-QUESTION
returns-then-shape-eq-QUESTION c = moves_on _ _ c.on_if-then-shape-eq-QUESTION.ensures (omega arith) (expression_8 _ _ _ _ _ c.if-shape-eq-IDENTIFIER.false (sym c.is_literal.ensures ∙ c.if-is_literal.false) c.if-shape-eq-SCOPE.false (sym c.is_member_access.ensures ∙ c.if-is_member_access.false) (rw c.is_prefix_operator.ensures at c.if-is_prefix_operator-operand.false) (rw c.is_prefix_or_binary_operator.ensures at c.if-is_prefix_or_binary_operator-operand.false) (rw c.is_postfix_operator.ensures at c.if-is_postfix_operator-operand.false) c.if-shape-eq-QUESTION.true)

pub returns-then-shape-eq-COLON : goal.returns-then-shape-eq-COLON
returns-then-shape-eq-COLON c = moves_on _ _ c.on_if-then-shape-eq-COLON.ensures (omega (arith, c.saturating_sub.ensures)) (rw c.saturating_sub.ensures (expression_9 _ _ _ _ _ c.if-shape-eq-IDENTIFIER.false (sym c.is_literal.ensures ∙ c.if-is_literal.false) c.if-shape-eq-SCOPE.false (sym c.is_member_access.ensures ∙ c.if-is_member_access.false) (rw c.is_prefix_operator.ensures at c.if-is_prefix_operator-operand.false) (rw c.is_prefix_or_binary_operator.ensures at c.if-is_prefix_or_binary_operator-operand.false) (rw c.is_postfix_operator.ensures at c.if-is_postfix_operator-operand.false) c.if-shape-eq-QUESTION.false c.if-shape-eq-COLON.true))

pub returns-then-is_binary_or_assignment_operator : goal.returns-then-is_binary_or_assignment_operator
returns-then-is_binary_or_assignment_operator c = moves_on _ _ c.on_if-then-is_binary_or_assignment_operator.ensures (omega arith) (expression_10 _ _ _ _ _ c.if-shape-eq-IDENTIFIER.false (sym c.is_literal.ensures ∙ c.if-is_literal.false) c.if-shape-eq-SCOPE.false (sym c.is_member_access.ensures ∙ c.if-is_member_access.false) (rw c.is_prefix_operator.ensures at c.if-is_prefix_operator-operand.false) (rw c.is_prefix_or_binary_operator.ensures at c.if-is_prefix_or_binary_operator-operand.false) (rw c.is_postfix_operator.ensures at c.if-is_postfix_operator-operand.false) c.if-shape-eq-QUESTION.false c.if-shape-eq-COLON.false (sym c.is_binary_or_assignment_operator.ensures ∙ c.if-is_binary_or_assignment_operator.true))

pub returns-then-shape-eq-PARENTHESIZED : goal.returns-then-shape-eq-PARENTHESIZED
returns-then-shape-eq-PARENTHESIZED c = moves_inside _ _ _ c.inside_if.ensures (omega arith) (rw c.group_test.ensures (expression_11 _ _ _ _ _ c.if-shape-eq-IDENTIFIER.false (sym c.is_literal.ensures ∙ c.if-is_literal.false) c.if-shape-eq-SCOPE.false (sym c.is_member_access.ensures ∙ c.if-is_member_access.false) (rw c.is_prefix_operator.ensures at c.if-is_prefix_operator-operand.false) (rw c.is_prefix_or_binary_operator.ensures at c.if-is_prefix_or_binary_operator-operand.false) (rw c.is_postfix_operator.ensures at c.if-is_postfix_operator-operand.false) c.if-shape-eq-QUESTION.false c.if-shape-eq-COLON.false (sym c.is_binary_or_assignment_operator.ensures ∙ c.if-is_binary_or_assignment_operator.false) c.if-shape-eq-PARENTHESIZED.true))

pub returns-then-shape-eq-BRACKETED : goal.returns-then-shape-eq-BRACKETED
returns-then-shape-eq-BRACKETED c = moves_inside _ _ _ c.inside_if-then-shape-eq-BRACKETED.ensures (omega arith) (expression_12 _ _ _ _ _ c.if-shape-eq-IDENTIFIER.false (sym c.is_literal.ensures ∙ c.if-is_literal.false) c.if-shape-eq-SCOPE.false (sym c.is_member_access.ensures ∙ c.if-is_member_access.false) (rw c.is_prefix_operator.ensures at c.if-is_prefix_operator-operand.false) (rw c.is_prefix_or_binary_operator.ensures at c.if-is_prefix_or_binary_operator-operand.false) (rw c.is_postfix_operator.ensures at c.if-is_postfix_operator-operand.false) c.if-shape-eq-QUESTION.false c.if-shape-eq-COLON.false (sym c.is_binary_or_assignment_operator.ensures ∙ c.if-is_binary_or_assignment_operator.false) c.if-shape-eq-PARENTHESIZED.false c.if-shape-eq-BRACKETED.true)

pub returns-then-shape-eq-TEMPLATE_ARGUMENTS : goal.returns-then-shape-eq-TEMPLATE_ARGUMENTS
returns-then-shape-eq-TEMPLATE_ARGUMENTS c = moves_inside _ _ _ c.inside_if-then-shape-eq-TEMPLATE_ARGUMENTS.ensures (omega arith) (expression_13 _ _ _ _ _ c.if-shape-eq-IDENTIFIER.false (sym c.is_literal.ensures ∙ c.if-is_literal.false) c.if-shape-eq-SCOPE.false (sym c.is_member_access.ensures ∙ c.if-is_member_access.false) (rw c.is_prefix_operator.ensures at c.if-is_prefix_operator-operand.false) (rw c.is_prefix_or_binary_operator.ensures at c.if-is_prefix_or_binary_operator-operand.false) (rw c.is_postfix_operator.ensures at c.if-is_postfix_operator-operand.false) c.if-shape-eq-QUESTION.false c.if-shape-eq-COLON.false (sym c.is_binary_or_assignment_operator.ensures ∙ c.if-is_binary_or_assignment_operator.false) c.if-shape-eq-PARENTHESIZED.false c.if-shape-eq-BRACKETED.false c.if-shape-eq-TEMPLATE_ARGUMENTS.true)

pub returns : goal.returns
returns c = record { is = expression_14 _ _ _ _ _ c.if-shape-eq-IDENTIFIER.false (sym c.is_literal.ensures ∙ c.if-is_literal.false) c.if-shape-eq-SCOPE.false (sym c.is_member_access.ensures ∙ c.if-is_member_access.false) (rw c.is_prefix_operator.ensures at c.if-is_prefix_operator-operand.false) (rw c.is_prefix_or_binary_operator.ensures at c.if-is_prefix_or_binary_operator-operand.false) (rw c.is_postfix_operator.ensures at c.if-is_postfix_operator-operand.false) c.if-shape-eq-QUESTION.false c.if-shape-eq-COLON.false (sym c.is_binary_or_assignment_operator.ensures ∙ c.if-is_binary_or_assignment_operator.false) c.if-shape-eq-PARENTHESIZED.false c.if-shape-eq-BRACKETED.false c.if-shape-eq-TEMPLATE_ARGUMENTS.false; waits = tt }
