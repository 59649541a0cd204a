-- What is done at a node of an expression: the loop of `validate_expression`, an arm a line. Document 01, "Node record".
-- Assumes nothing.
use Rattle.std.specs.Prelude.{ℕ, suc, pred, Bool, true, false, ◌&&◌, not, eqb, if◌then◌else◌}
use Rattle.rows.specs.Notation.{◌is_one_of◌}
use Rattle.rows.specs.Languages.{Cpp, Fortran}
use Rattle.rows.specs.Kinds.{Identifier, Question, Colon, Scope}
use Rattle.type_nodes.specs.Shapes.{Parenthesized, Bracketed, TemplateArguments}
use Rattle.type_nodes.specs.Sets.{literals, member_accesses, accesses_of, prefix_operators, prefix_or_binary_operators, postfix_operators}
use Rattle.type_nodes.specs.Sets.{is_binary_or_assignment_operator}
use Rattle.type_nodes.specs.Moves.{some_expression, optional_expression, arguments, Move, stop, on, on_if, inside_if}

-- The variables of `validate_expression`: an operand is expected; it must be a name, as after `.` or `::`; so many `?` wait for their `:`.
pub data ExpressionState : Type 0 where
  expression_state : (expects_operand expects_name_after_access : Bool) (conditional_depth : ℕ) → ExpressionState

-- What `validate_expression` returns after its loop.
unfoldable pub expression_end : ExpressionState → Bool
expression_end (expression_state expects_operand expects_name_after_access conditional_depth) =
    not expects_operand && not expects_name_after_access && eqb conditional_depth 0

-- `validate_expression` at a node of shape s.
unfoldable pub expression_node : (lang s : ℕ) → ExpressionState → Move ExpressionState
unfolding ◌is_one_of◌ literals member_accesses accesses_of prefix_operators prefix_or_binary_operators postfix_operators is_binary_or_assignment_operator on_if inside_if
expression_node lang s (expression_state expects_operand expects_name_after_access conditional_depth) =
    if eqb s Identifier then on_if expects_operand (expression_state false false conditional_depth)
    else if s is_one_of literals then
    on_if (expects_operand && not expects_name_after_access) (expression_state false expects_name_after_access conditional_depth)
    else if eqb s Scope then on_if (eqb lang Cpp && not expects_name_after_access) (expression_state true true conditional_depth)
    else if s is_one_of member_accesses then
    on_if (not expects_operand && s is_one_of accesses_of lang) (expression_state true true conditional_depth)
    else if s is_one_of prefix_operators && expects_operand && not expects_name_after_access then
    on (expression_state expects_operand expects_name_after_access conditional_depth)
    else if s is_one_of prefix_or_binary_operators && expects_operand && not expects_name_after_access then
    on (expression_state expects_operand expects_name_after_access conditional_depth)
    else if s is_one_of postfix_operators && not expects_operand then
    on (expression_state expects_operand expects_name_after_access conditional_depth)
    else if eqb s Question then
    on_if (not (eqb lang Fortran) && not expects_operand) (expression_state true expects_name_after_access (suc conditional_depth))
    else if eqb s Colon then
    on_if (not (eqb lang Fortran) && not expects_operand && not (eqb conditional_depth 0))
    (expression_state true expects_name_after_access (pred conditional_depth))
    else if is_binary_or_assignment_operator lang s then on_if (not expects_operand) (expression_state true false conditional_depth)
    else if eqb s Parenthesized then
    inside_if (not expects_name_after_access) (if expects_operand then some_expression else optional_expression)
    (expression_state false expects_name_after_access conditional_depth)
    else if eqb s Bracketed then inside_if (not expects_operand) some_expression (expression_state false expects_name_after_access conditional_depth)
    else if eqb s TemplateArguments then
    inside_if (eqb lang Cpp && not expects_operand) arguments (expression_state expects_operand expects_name_after_access conditional_depth)
    else stop false
