-- What is done at a node of a C or C++ type name and of an abstract declarator: the loops of `validate_c_family_type` and
-- `validate_abstract_declarator`, an arm a line. Document 01, "Node record". s and w: shape and word of the node; `left`, `right`: shape of the node
-- before and after it; lw: word of the node before it. Words are compared exactly.
-- Assumes nothing.
use Rattle.std.specs.Prelude.{ℕ, Bool, ◌&&◌, ◌||◌, if◌then◌else◌}
use Rattle.std.proofs.Math.Bool.{true, false, not}
use Rattle.std.proofs.Math.Dec.{eqb}
use Rattle.rows.specs.Notation.{◌is_one_of◌}
use Rattle.rows.specs.Languages.{C, Cpp}
use Rattle.rows.specs.Kinds.{Identifier, Scope, Star}
use Rattle.rows.specs.Words.{noexcept, _Atomic, decltype, _BitInt}
use Rattle.type_nodes.specs.Shapes.{NoNode, Parenthesized, Bracketed, TemplateArguments}
use Rattle.type_nodes.specs.Sets.{typeof_words, reference_operators, is_c_family_declarator_qualifier}
use Rattle.type_nodes.specs.Moves.{type_name, expression, optional_expression, type_or_expression, array_bound, declarator, arguments}
use Rattle.type_nodes.specs.Moves.{declarator_or_parameters, Move, stop, inside, on_if, inside_if}

-- `scope_has_valid_neighbors`
unfoldable pub scope_has_valid_neighbors : (left right : ℕ) → Bool
scope_has_valid_neighbors left right =
    (eqb left NoNode || eqb left Identifier || eqb left TemplateArguments) && (eqb right Identifier || eqb right Star)

-- An identifier in a declarator: `next_is_scope`, `next_is_template` or `previous_is_scope`.
unfoldable pub is_part_of_name : (left right : ℕ) → Bool
is_part_of_name left right = eqb right Scope || eqb right TemplateArguments || eqb left Scope

-- The variables of `validate_c_family_type`.
pub data TypeState : Type 0 where
  type_state : (saw_type_word declarator_started saw_reference : Bool) → TypeState

-- What `validate_c_family_type` returns after its loop.
unfoldable pub type_end : TypeState → Bool
type_end (type_state saw_type_word declarator_started saw_reference) = saw_type_word

-- The variables of `validate_abstract_declarator`.
pub data DeclaratorState : Type 0 where
  declarator_state : (saw_operator saw_reference : Bool) → DeclaratorState

-- What `validate_abstract_declarator` returns after its loop.
unfoldable pub declarator_end : DeclaratorState → Bool
declarator_end (declarator_state saw_operator saw_reference) = saw_operator

module _ (lang : ℕ) where
  -- `validate_c_family_type` at parentheses, by `preceding_identifier`. They start the declarator, but not after `_BitInt`. The last line is the two
  -- arms `_`: `declarator_or_parameters` tells them apart.
  unfoldable pub c_family_group : (lw : ℕ) → TypeState → Move TypeState
  unfolding ◌is_one_of◌ typeof_words inside_if
  c_family_group lw (type_state saw_type_word declarator_started saw_reference) =
      if eqb lw decltype then inside_if (eqb lang Cpp) expression (type_state saw_type_word true saw_reference)
      else if lw is_one_of typeof_words then inside type_or_expression (type_state saw_type_word true saw_reference)
      else if eqb lw _Atomic then inside_if (eqb lang C) type_name (type_state saw_type_word true saw_reference)
      else if eqb lw _BitInt then inside_if (eqb lang C) expression (type_state saw_type_word declarator_started saw_reference)
      else if eqb lw noexcept && declarator_started then inside_if (eqb lang Cpp) optional_expression (type_state saw_type_word true saw_reference)
      else inside (declarator_or_parameters saw_type_word) (type_state saw_type_word true saw_reference)

  -- `validate_c_family_type` at a node.
  unfoldable pub c_family_node : (left lw s w right : ℕ) → TypeState → Move TypeState
  unfolding ◌is_one_of◌ reference_operators is_c_family_declarator_qualifier scope_has_valid_neighbors on_if inside_if c_family_group
  c_family_node left lw s w right (type_state saw_type_word declarator_started saw_reference) =
      if eqb s Identifier then
      on_if (not declarator_started || is_c_family_declarator_qualifier w) (type_state true declarator_started saw_reference)
      else if eqb s Scope then
      on_if (eqb lang Cpp && scope_has_valid_neighbors left right) (type_state saw_type_word declarator_started saw_reference)
      else if eqb s TemplateArguments then
      inside_if (eqb lang Cpp && eqb left Identifier) arguments (type_state true declarator_started saw_reference)
      else if eqb s Star then on_if (saw_type_word && not saw_reference) (type_state saw_type_word true saw_reference)
      else if s is_one_of reference_operators then
      on_if (eqb lang Cpp && saw_type_word && not saw_reference) (type_state saw_type_word true true)
      else if eqb s Parenthesized then c_family_group lw (type_state saw_type_word declarator_started saw_reference)
      else if eqb s Bracketed then inside_if saw_type_word array_bound (type_state saw_type_word true saw_reference)
      else stop false

  -- `validate_abstract_declarator` at a node.
  unfoldable pub abstract_declarator_node : (left s w right : ℕ) → DeclaratorState → Move DeclaratorState
  unfolding ◌is_one_of◌ reference_operators is_c_family_declarator_qualifier is_part_of_name scope_has_valid_neighbors on_if inside_if
  abstract_declarator_node left s w right (declarator_state saw_operator saw_reference) =
      if eqb s Star then on_if (not saw_reference) (declarator_state true saw_reference)
      else if s is_one_of reference_operators then on_if (eqb lang Cpp && not saw_reference) (declarator_state true true)
      else if eqb s Identifier then
      on_if (is_c_family_declarator_qualifier w || is_part_of_name left right) (declarator_state saw_operator saw_reference)
      else if eqb s Scope then on_if (eqb lang Cpp && scope_has_valid_neighbors left right) (declarator_state saw_operator saw_reference)
      else if eqb s TemplateArguments then inside_if (eqb lang Cpp && eqb left Identifier) arguments (declarator_state saw_operator saw_reference)
      else if eqb s Parenthesized then inside declarator (declarator_state true saw_reference)
      else if eqb s Bracketed then inside array_bound (declarator_state true saw_reference)
      else stop false
