-- What the declared types of the code stand for. Assumes nothing.
use Rattle.std.specs.Prelude.{ℕ, ◌≤◌, ◌≡◌, Bool, true, false}
use Rattle.type_nodes.specs.Moves.{Test, type_name, expression, some_expression, optional_expression, type_or_expression, array_bound, declarator}
use Rattle.type_nodes.specs.Moves.{arguments, selectors, declarator_or_parameters, Move, stop, on, inside}
use Rattle.structure.specs.Declarators.{TypeState, type_state, DeclaratorState, declarator_state}
use Rattle.structure.specs.Expressions.{ExpressionState, expression_state}
use Rattle.structure.specs.FortranTypes.{FortranState, fortran_state}
use Rattle.structure.specs.declared.moves.Inner.{Inner}
use Rattle.structure.specs.declared.moves.Inner.TheVariants as I
use Rattle.structure.specs.declared.moves.TypeLoop.{TypeLoop}
use Rattle.structure.specs.declared.moves.DeclaratorLoop.{DeclaratorLoop}
use Rattle.structure.specs.declared.moves.ExpressionLoop.{ExpressionLoop}
use Rattle.structure.specs.declared.moves.FortranLoop.{FortranLoop}
use Rattle.structure.specs.declared.moves.FortranInner.{FortranInner}
use Rattle.structure.specs.declared.moves.Move as Code
use Rattle.structure.specs.declared.moves.Move.TheVariants.{Stop, On, Inside}

-- What `Inner` asks.
abbrev pub test_of : Inner → Test
test_of I.TypeName = type_name
test_of I.Expression = expression
test_of I.SomeExpression = some_expression
test_of I.OptionalExpression = optional_expression
test_of I.TypeOrExpression = type_or_expression
test_of I.ArrayBound = array_bound
test_of I.Declarator = declarator
test_of I.Arguments = arguments
test_of (I.DeclaratorOrParameters saw_type_word) = declarator_or_parameters saw_type_word

-- What `FortranInner` asks.
abbrev pub fortran_test_of : FortranInner → Test
fortran_test_of t = selectors

-- The variables of `validate_c_family_type`.
abbrev pub type_state_of : TypeLoop → TypeState
type_state_of st = type_state st.saw_type_word st.declarator_started st.saw_reference

-- The variables of `validate_abstract_declarator`.
abbrev pub declarator_state_of : DeclaratorLoop → DeclaratorState
declarator_state_of st = declarator_state st.saw_operator st.saw_reference

-- The variables of `validate_expression`.
abbrev pub expression_state_of : ExpressionLoop → ExpressionState
expression_state_of st = expression_state st.expects_operand st.expects_name_after_access st.conditional_depth

-- The variables of `validate_fortran_type`.
abbrev pub fortran_state_of : FortranLoop → FortranState
fortran_state_of st = fortran_state st.saw_word st.saw_selector

-- `if !.. { return false; }` of the code: go on if a condition holds.
unfoldable pub goes_on_if : {S I : Type 0} → Bool → S → Code.Move S I
goes_on_if true st = On st
goes_on_if false st = Stop false

-- The same before a test of the nodes below.
unfoldable pub goes_inside_if : {S I : Type 0} → Bool → I → S → Code.Move S I
goes_inside_if true t st = Inside t st
goes_inside_if false t st = Stop false

-- What a loop does at a node, from what its variables and what is asked below a node stand for.
abbrev pub move_of : {S I T : Type 0} → (state : S → T) → (test : I → Test) → Code.Move S I → Move T
move_of state test (Stop r) = stop r
move_of state test (On st) = on (state st)
move_of state test (Inside t st) = inside (test t) (state st)

-- The moves of the code's `validate_c_family_type`.
abbrev pub TypeMove : Type 0
TypeMove = Code.Move TypeLoop Inner

-- What `validate_c_family_type` does at a node.
abbrev pub type_move_of : TypeMove → Move TypeState
type_move_of m = move_of type_state_of test_of m

-- The moves of the code's `validate_abstract_declarator`.
abbrev pub DeclaratorMove : Type 0
DeclaratorMove = Code.Move DeclaratorLoop Inner

-- What `validate_abstract_declarator` does at a node.
abbrev pub declarator_move_of : DeclaratorMove → Move DeclaratorState
declarator_move_of m = move_of declarator_state_of test_of m

-- The moves of the code's `validate_expression`.
abbrev pub ExpressionMove : Type 0
ExpressionMove = Code.Move ExpressionLoop Inner

-- What `validate_expression` does at a node.
abbrev pub expression_move_of : ExpressionMove → Move ExpressionState
expression_move_of m = move_of expression_state_of test_of m

-- The moves of the code's `validate_fortran_type`.
abbrev pub FortranMove : Type 0
FortranMove = Code.Move FortranLoop FortranInner

-- What `validate_fortran_type` does at a node.
abbrev pub fortran_move_of : FortranMove → Move FortranState
fortran_move_of m = move_of fortran_state_of fortran_test_of m

-- At most n `?` wait for their `:`.
abbrev pub Waits : ℕ → ExpressionMove → Type 0
Waits n (Stop r) = Unit {0}
Waits n (On st) = st.conditional_depth ≤ n
Waits n (Inside t st) = st.conditional_depth ≤ n

-- A move of an expression, and a bound that lets the code count its `?`.
pub record Moves (n : ℕ) (r : ExpressionMove) (m : Move ExpressionState) : Type 0 where
  pub is : expression_move_of r ≡ m
  pub waits : Waits n r
