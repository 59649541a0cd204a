-- The checks that call one another, over trees: whether each holds, and its steps, one for each entry to `validate_c_family_type`,
-- `validate_abstract_declarator` and `validate_expression`. Document 01, "Node record" and "Steps".
-- Assumes nothing.
use Prim.Native.Nat.{ℕ, zero, suc}
use Rattle.std.specs.Prelude.{Bool, ◌&&◌, ◌||◌, not, List}
use Rattle.std.proofs.Math.Bool.{true, false}
use Rattle.rows.specs.Kinds.{Star}
use Rattle.rows.specs.Words.{no_word, exactly}
use Rattle.reader.specs.Nodes.{Nodes, none, node, count}
use Rattle.type_nodes.specs.Shapes.{NoNode}
use Rattle.type_nodes.specs.Nodes.{empty, next, arguments_of, shape, node_identifier, exact_word, is_single_token, is_ellipsis}
use Rattle.type_nodes.specs.SplitOnCommas.{elements_are_full, split_on_commas}
use Rattle.type_nodes.specs.AbstractDeclarators.{looks_like_abstract_declarator}
use Rattle.type_nodes.specs.Moves.{Move, stop, on, inside, Test, type_name, expression, some_expression, optional_expression, type_or_expression}
use Rattle.type_nodes.specs.Moves.{array_bound, declarator, arguments, selectors, declarator_or_parameters}
use Rattle.type_nodes.specs.Specifiers.{validate_c_decl_specifiers}
use Rattle.structure.specs.Said.{Said, fails, Job, a_type, an_expression, a_declarator, after, both, either, plain, every}
use Rattle.structure.specs.Declarators.{TypeState, type_state, type_end, c_family_node, DeclaratorState, declarator_state}
use Rattle.structure.specs.Declarators.{declarator_end, abstract_declarator_node}
use Rattle.structure.specs.Expressions.{ExpressionState, expression_state, expression_end, expression_node}
use Rattle.structure.specs.Selectors.{validate_fortran_selector_list}

module _ (lang : ℕ) (kinds words : List ℕ) where
  -- ---- what is done at the first of the nodes x; `left` and lw: shape and word number of the node before it

  -- `validate_c_family_type` at the first node.
  abbrev pub type_move : (left lw : ℕ) → Nodes → TypeState → Move TypeState
  type_move left lw x st = c_family_node lang left (exactly lw) (shape kinds x) (exact_word kinds words x) (shape kinds (next x)) st

  -- `validate_abstract_declarator` at the first node.
  abbrev pub declarator_move : (left lw : ℕ) → Nodes → DeclaratorState → Move DeclaratorState
  declarator_move left lw x st = abstract_declarator_node lang left (shape kinds x) (exact_word kinds words x) (shape kinds (next x)) st

  -- `validate_expression` at the first node.
  abbrev pub expression_move : (left lw : ℕ) → Nodes → ExpressionState → Move ExpressionState
  expression_move left lw x st = expression_node lang (shape kinds x) st

  -- ---- the checks of a list of nodes, given those of the nodes below: `check`

  module _ (check : Job → Nodes → Said) where
    -- `validate_cpp_template_argument`: there are template arguments in C++ alone.
    unfoldable pub validate_cpp_template_argument : Nodes → Said
    unfolding empty
    validate_cpp_template_argument x = both (plain (not (empty x))) (λ _. either (check a_type x) (λ _. check an_expression x))

    -- One parameter of `validate_parameter_type_list`.
    unfoldable pub validate_parameter : Nodes → Said
    unfolding is_ellipsis
    validate_parameter x = either (plain (is_ellipsis kinds x)) (λ _. check a_type x)

    -- `validate_parameter_type_list`
    unfoldable pub validate_parameter_type_list : Nodes → Said
    unfolding empty elements_are_full split_on_commas validate_parameter
    validate_parameter_type_list x =
        either (plain (empty x))
        (λ _. both (plain (elements_are_full (split_on_commas kinds x))) (λ _. every validate_parameter (split_on_commas kinds x)))

    -- What a `validate_*` function asks of the nodes b below a node.
    unfoldable pub test : Test → Nodes → Said
    unfolding empty is_single_token arguments_of validate_cpp_template_argument looks_like_abstract_declarator validate_parameter_type_list validate_fortran_selector_list
    test type_name b = check a_type b
    test expression b = check an_expression b
    test some_expression b = both (plain (not (empty b))) (λ _. check an_expression b)
    test optional_expression b = either (plain (empty b)) (λ _. check an_expression b)
    test type_or_expression b = either (check a_type b) (λ _. check an_expression b)
    test array_bound b = either (plain (empty b || is_single_token kinds Star b)) (λ _. check an_expression b)
    test declarator b = check a_declarator b
    test arguments b = every validate_cpp_template_argument (arguments_of b)
    test selectors b = validate_fortran_selector_list lang kinds words check b
    test (declarator_or_parameters saw_type_word) b =
        elim (looks_like_abstract_declarator kinds b) as (λ _. Said) [
          | true ↦ check a_declarator b
          | false ↦ both (plain saw_type_word) (λ _. validate_parameter_type_list b)
        ]

    -- The loop over the nodes of a level: S is the type of its variables, `move` what it does at a node, `done` what it returns at its end.
    module _ (S : Type 0) (move : (left lw : ℕ) → Nodes → S → Move S) (done : S → Bool) where
      -- A turn of the loop. b: the nodes below the node, f: the loop over the nodes after it; "with its early exits".
      unfoldable pub follow : Move S → (b : Nodes) → (f : S → Said) → Said
      unfolding test
      follow (stop r) b f = plain r
      follow (on st) b f = f st
      follow (inside t st) b f = both (test t b) (λ _. f st)

      -- The loop itself, "in the Rust's order".
      unfoldable pub loop : Nodes → (left lw : ℕ) → S → Said
      unfolding follow shape node_identifier
      loop none left lw st = plain (done st)
      loop (node k i b x) left lw st =
          follow (move left lw (node k i b x) st) b (loop x (shape kinds (node k i b x)) (node_identifier kinds words (node k i b x)))

    -- `validate_c_family_type`
    unfoldable pub validate_c_family_type : Nodes → Said
    unfolding empty next exactly validate_c_decl_specifiers loop type_end c_family_node
    validate_c_family_type x =
        after 1 (both (plain (not (empty x) && validate_c_decl_specifiers lang kinds words x))
        (λ _. loop TypeState type_move type_end x NoNode no_word (type_state false false false)))

    -- `validate_abstract_declarator`
    unfoldable pub validate_abstract_declarator : Nodes → Said
    unfolding empty next exactly loop declarator_end abstract_declarator_node
    validate_abstract_declarator x =
        after 1 (both (plain (not (empty x))) (λ _. loop DeclaratorState declarator_move declarator_end x NoNode no_word (declarator_state false false)))

    -- `validate_expression`
    unfoldable pub validate_expression : Nodes → Said
    unfolding empty loop expression_end expression_node
    validate_expression x =
        after 1 (both (plain (not (empty x))) (λ _. loop ExpressionState expression_move expression_end x NoNode no_word (expression_state true false 0)))

    -- One of the counted checks: `validate_c_family_type`, `validate_expression` or `validate_abstract_declarator`.
    unfoldable pub turn : Job → Nodes → Said
    unfolding validate_c_family_type validate_expression validate_abstract_declarator
    turn a_type x = validate_c_family_type x
    turn an_expression x = validate_expression x
    turn a_declarator x = validate_abstract_declarator x

  -- ---- the checks themselves

  -- `fuel` bounds how deep the checks stand in one another: one more than there are nodes is enough for every tree.
  unfoldable pub check_f : (fuel : ℕ) → Job → Nodes → Said
  unfolding turn
  check_f zero job x = fails 0
  check_f (suc fuel) job x = turn (check_f fuel) job x

  -- The checks of any list of nodes: the counted `validate_*` functions themselves.
  unfoldable pub checked : Job → Nodes → Said
  unfolding check_f count
  checked job x = check_f (suc (count x)) job x
