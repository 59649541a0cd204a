-- The arms of the tables of moves: where the tests before an arm fail and its own holds, the table gives the arm's move.
-- Assumes nothing.
use Rattle.std.specs.Prelude.{ℕ, zero, suc, pred, ◌+◌, ◌-◌, ◌≡◌, refl, Bool, false, ◌&&◌, ◌||◌, not, if◌then◌else◌}
use Rattle.std.proofs.Math.Numerals.{add-one}
use Rattle.std.proofs.Math.Path.{sym, ap}
use Rattle.std.proofs.Common.{◌∙◌, arith}
use Rattle.std.proofs.Math.Bool.{true}
use Rattle.std.proofs.Math.Dec.{eqb}
use borrow.Author.Tests.{eq-eqb, ne_eqb, eqb-true}
use Rattle.rows.specs.Notation.{◌is_one_of◌}
use Rattle.rows.specs.Languages.{C, Cpp, Fortran}
use Rattle.rows.specs.Kinds.{Identifier, Scope, Star, Question, Colon}
use Rattle.rows.specs.Words.{decltype, noexcept, _Atomic, _BitInt}
use Rattle.type_nodes.specs.Shapes.{Parenthesized, Bracketed, TemplateArguments}
use Rattle.type_nodes.specs.Sets.{reference_operators, typeof_words, literals, member_accesses, accesses_of, prefix_operators, prefix_or_binary_operators, postfix_operators}
use Rattle.type_nodes.specs.Sets.{is_c_family_declarator_qualifier, is_binary_or_assignment_operator}
use Rattle.type_nodes.specs.Moves.{type_name, expression, some_expression, optional_expression, type_or_expression, array_bound, declarator, arguments}
use Rattle.type_nodes.specs.Moves.{selectors, declarator_or_parameters, Move, stop, on, inside, on_if, inside_if}
use Rattle.std.proofs.lemmas.Bool.{and_parts}
use Rattle.structure.specs.Declarators.{scope_has_valid_neighbors, is_part_of_name, TypeState, DeclaratorState, type_state, declarator_state, abstract_declarator_node, c_family_group}
use Rattle.structure.specs.Declarators.{c_family_node}
use Rattle.structure.specs.Expressions.{ExpressionState, expression_state, expression_node}
use Rattle.structure.specs.FortranTypes.{FortranState, fortran_state, fortran_node}

-- One less, as code has it.
one_less : (n : ℕ) → pred n ≡ n - 1
one_less zero = refl
one_less (suc n) = omega arith

module _ (lang left s w right : ℕ) (operator reference : Bool) where
  abbrev declarator_table : Move DeclaratorState
  declarator_table = abstract_declarator_node lang left s w right (declarator_state operator reference)

  pub declarator_1 : s ≡ Star → on_if (not reference) (declarator_state true reference) ≡ declarator_table
  unfolding abstract_declarator_node
  declarator_1 y = rw (eq-eqb s Star y)

  module _ (n1 : s ≡ Star → ⊥) where
    pub declarator_2 : (s is_one_of reference_operators) ≡ true → on_if (eqb lang Cpp && not reference) (declarator_state true true) ≡ declarator_table
    unfolding abstract_declarator_node
    declarator_2 y = rw (ne_eqb s Star n1, y)

    module _ (n2 : (s is_one_of reference_operators) ≡ false) where
      pub declarator_3 : s ≡ Identifier → on_if (is_c_family_declarator_qualifier w || is_part_of_name left right) (declarator_state operator reference) ≡ declarator_table
      unfolding abstract_declarator_node
      declarator_3 y = rw (ne_eqb s Star n1, n2, eq-eqb s Identifier y)

      module _ (n3 : s ≡ Identifier → ⊥) where
        pub declarator_4 : s ≡ Scope → on_if (eqb lang Cpp && scope_has_valid_neighbors left right) (declarator_state operator reference) ≡ declarator_table
        unfolding abstract_declarator_node
        declarator_4 y = rw (ne_eqb s Star n1, n2, ne_eqb s Identifier n3, eq-eqb s Scope y)

        module _ (n4 : s ≡ Scope → ⊥) where
          pub declarator_5 : s ≡ TemplateArguments → inside_if (eqb lang Cpp && eqb left Identifier) arguments (declarator_state operator reference) ≡ declarator_table
          unfolding abstract_declarator_node
          declarator_5 y = rw (ne_eqb s Star n1, n2, ne_eqb s Identifier n3, ne_eqb s Scope n4, eq-eqb s TemplateArguments y)

          module _ (n5 : s ≡ TemplateArguments → ⊥) where
            pub declarator_6 : s ≡ Parenthesized → inside_if true declarator (declarator_state true reference) ≡ declarator_table
            unfolding abstract_declarator_node inside_if
            declarator_6 y = rw (ne_eqb s Star n1, n2, ne_eqb s Identifier n3, ne_eqb s Scope n4, ne_eqb s TemplateArguments n5, eq-eqb s Parenthesized y)

            module _ (n6 : s ≡ Parenthesized → ⊥) where
              pub declarator_7 : s ≡ Bracketed → inside_if true array_bound (declarator_state true reference) ≡ declarator_table
              unfolding abstract_declarator_node inside_if
              declarator_7 y = rw (ne_eqb s Star n1, n2, ne_eqb s Identifier n3, ne_eqb s Scope n4, ne_eqb s TemplateArguments n5, ne_eqb s Parenthesized n6, eq-eqb s Bracketed y)

              pub declarator_8 : (s ≡ Bracketed → ⊥) → stop false ≡ declarator_table
              unfolding abstract_declarator_node
              declarator_8 n7 = rw (ne_eqb s Star n1, n2, ne_eqb s Identifier n3, ne_eqb s Scope n4, ne_eqb s TemplateArguments n5, ne_eqb s Parenthesized n6, ne_eqb s Bracketed n7)

module _ (lang lw : ℕ) (word started reference : Bool) where
  abbrev group_table : Move TypeState
  group_table = c_family_group lang lw (type_state word started reference)

  pub group_1 : lw ≡ decltype → inside_if (eqb lang Cpp) expression (type_state word true reference) ≡ group_table
  unfolding c_family_group
  group_1 y = rw (eq-eqb lw decltype y)

  module _ (n1 : lw ≡ decltype → ⊥) where
    pub group_2 : (lw is_one_of typeof_words) ≡ true → inside_if true type_or_expression (type_state word true reference) ≡ group_table
    unfolding c_family_group inside_if
    group_2 y = rw (ne_eqb lw decltype n1, y)

    module _ (n2 : (lw is_one_of typeof_words) ≡ false) where
      pub group_3 : lw ≡ _Atomic → inside_if (eqb lang C) type_name (type_state word true reference) ≡ group_table
      unfolding c_family_group
      group_3 y = rw (ne_eqb lw decltype n1, n2, eq-eqb lw _Atomic y)

      module _ (n3 : lw ≡ _Atomic → ⊥) where
        pub group_4 : lw ≡ _BitInt → inside_if (eqb lang C) expression (type_state word started reference) ≡ group_table
        unfolding c_family_group
        group_4 y = rw (ne_eqb lw decltype n1, n2, ne_eqb lw _Atomic n3, eq-eqb lw _BitInt y)

        module _ (n4 : lw ≡ _BitInt → ⊥) where
          pub group_5 : (eqb lw noexcept && started) ≡ true → inside_if (eqb lang Cpp) optional_expression (type_state word true reference) ≡ group_table
          unfolding c_family_group
          group_5 y = rw (ne_eqb lw decltype n1, n2, ne_eqb lw _Atomic n3, ne_eqb lw _BitInt n4, y)

          pub group_6 : (eqb lw noexcept && started) ≡ false → inside_if true (declarator_or_parameters word) (type_state word true reference) ≡ group_table
          unfolding c_family_group inside_if
          group_6 n5 = rw (ne_eqb lw decltype n1, n2, ne_eqb lw _Atomic n3, ne_eqb lw _BitInt n4, n5)

module _ (lang left lw s w right : ℕ) (word started reference : Bool) where
  abbrev type_table : Move TypeState
  type_table = c_family_node lang left lw s w right (type_state word started reference)

  pub type_1 : s ≡ Identifier → on_if (not started || is_c_family_declarator_qualifier w) (type_state true started reference) ≡ type_table
  unfolding c_family_node
  type_1 y = rw (eq-eqb s Identifier y)

  module _ (n1 : s ≡ Identifier → ⊥) where
    pub type_2 : s ≡ Scope → on_if (eqb lang Cpp && scope_has_valid_neighbors left right) (type_state word started reference) ≡ type_table
    unfolding c_family_node
    type_2 y = rw (ne_eqb s Identifier n1, eq-eqb s Scope y)

    module _ (n2 : s ≡ Scope → ⊥) where
      pub type_3 : s ≡ TemplateArguments → inside_if (eqb lang Cpp && eqb left Identifier) arguments (type_state true started reference) ≡ type_table
      unfolding c_family_node
      type_3 y = rw (ne_eqb s Identifier n1, ne_eqb s Scope n2, eq-eqb s TemplateArguments y)

      module _ (n3 : s ≡ TemplateArguments → ⊥) where
        pub type_4 : s ≡ Star → on_if (word && not reference) (type_state word true reference) ≡ type_table
        unfolding c_family_node
        type_4 y = rw (ne_eqb s Identifier n1, ne_eqb s Scope n2, ne_eqb s TemplateArguments n3, eq-eqb s Star y)

        module _ (n4 : s ≡ Star → ⊥) where
          pub type_5 : (s is_one_of reference_operators) ≡ true → on_if (eqb lang Cpp && word && not reference) (type_state word true true) ≡ type_table
          unfolding c_family_node
          type_5 y = rw (ne_eqb s Identifier n1, ne_eqb s Scope n2, ne_eqb s TemplateArguments n3, ne_eqb s Star n4, y)

          module _ (n5 : (s is_one_of reference_operators) ≡ false) where
            pub type_6 : s ≡ Parenthesized → c_family_group lang lw (type_state word started reference) ≡ type_table
            unfolding c_family_node
            type_6 y = rw (ne_eqb s Identifier n1, ne_eqb s Scope n2, ne_eqb s TemplateArguments n3, ne_eqb s Star n4, n5, eq-eqb s Parenthesized y)

            module _ (n6 : s ≡ Parenthesized → ⊥) where
              pub type_7 : s ≡ Bracketed → inside_if word array_bound (type_state word true reference) ≡ type_table
              unfolding c_family_node
              type_7 y = rw (ne_eqb s Identifier n1, ne_eqb s Scope n2, ne_eqb s TemplateArguments n3, ne_eqb s Star n4, n5, ne_eqb s Parenthesized n6, eq-eqb s Bracketed y)

              pub type_8 : (s ≡ Bracketed → ⊥) → stop false ≡ type_table
              unfolding c_family_node
              type_8 n7 = rw (ne_eqb s Identifier n1, ne_eqb s Scope n2, ne_eqb s TemplateArguments n3, ne_eqb s Star n4, n5, ne_eqb s Parenthesized n6, ne_eqb s Bracketed n7)

-- The three nodes that the loop takes at once.
module _ (lang left lw s w right : ℕ) (word started reference : Bool) where
  pub word_taken : s ≡ Identifier → {ok : Bool} → ok ≡ (not started || is_c_family_declarator_qualifier w)
      → type_table lang left lw s w right word started reference ≡ on_if ok (type_state true started reference)
  word_taken y d = sym (type_1 lang left lw s w right word started reference y) ∙ ap (λ (b : Bool). on_if b (type_state true started reference)) (sym d)

  pub scope_taken : (eqb s Scope && (eqb lang Cpp && scope_has_valid_neighbors left right)) ≡ true → type_table lang left lw s w right word started reference ≡ on (type_state word started reference)
  unfolding on_if
  scope_taken y =
      let z : s ≡ Scope = eqb-true s Scope (and_parts (eqb s Scope) (eqb lang Cpp && scope_has_valid_neighbors left right) y).0 in
      sym (type_2 lang left lw s w right word started reference (λ q. absurd (omega (arith, z, q))) z)
      ∙ ap (λ (ok : Bool). on_if ok (type_state word started reference)) (and_parts (eqb s Scope) (eqb lang Cpp && scope_has_valid_neighbors left right) y).1

  pub list_taken : (eqb s TemplateArguments && (eqb lang Cpp && eqb left Identifier)) ≡ true → type_table lang left lw s w right word started reference ≡ inside arguments (type_state true started reference)
  unfolding inside_if
  list_taken y =
      let z : s ≡ TemplateArguments = eqb-true s TemplateArguments (and_parts (eqb s TemplateArguments) (eqb lang Cpp && eqb left Identifier) y).0 in
      sym (type_3 lang left lw s w right word started reference (λ q. absurd (omega (arith, z, q))) (λ q. absurd (omega (arith, z, q))) z)
      ∙ ap (λ (ok : Bool). inside_if ok arguments (type_state true started reference)) (and_parts (eqb s TemplateArguments) (eqb lang Cpp && eqb left Identifier) y).1

module _ (lang s : ℕ) (operand access : Bool) (depth : ℕ) where
  abbrev expression_table : Move ExpressionState
  expression_table = expression_node lang s (expression_state operand access depth)

  pub expression_1 : s ≡ Identifier → on_if operand (expression_state false false depth) ≡ expression_table
  unfolding expression_node
  expression_1 y = rw (eq-eqb s Identifier y)

  module _ (n1 : s ≡ Identifier → ⊥) where
    pub expression_2 : (s is_one_of literals) ≡ true → on_if (operand && not access) (expression_state false access depth) ≡ expression_table
    unfolding expression_node
    expression_2 y = rw (ne_eqb s Identifier n1, y)

    module _ (n2 : (s is_one_of literals) ≡ false) where
      pub expression_3 : s ≡ Scope → on_if (eqb lang Cpp && not access) (expression_state true true depth) ≡ expression_table
      unfolding expression_node
      expression_3 y = rw (ne_eqb s Identifier n1, n2, eq-eqb s Scope y)

      module _ (n3 : s ≡ Scope → ⊥) where
        pub expression_4 : (s is_one_of member_accesses) ≡ true → on_if (not operand && s is_one_of accesses_of lang) (expression_state true true depth) ≡ expression_table
        unfolding expression_node
        expression_4 y = rw (ne_eqb s Identifier n1, n2, ne_eqb s Scope n3, y)

        module _ (n4 : (s is_one_of member_accesses) ≡ false) where
          pub expression_5 : (s is_one_of prefix_operators && operand && not access) ≡ true → on (expression_state operand access depth) ≡ expression_table
          unfolding expression_node
          expression_5 y = rw (ne_eqb s Identifier n1, n2, ne_eqb s Scope n3, n4, y)

          module _ (n5 : (s is_one_of prefix_operators && operand && not access) ≡ false) where
            pub expression_6 : (s is_one_of prefix_or_binary_operators && operand && not access) ≡ true → on (expression_state operand access depth) ≡ expression_table
            unfolding expression_node
            expression_6 y = rw (ne_eqb s Identifier n1, n2, ne_eqb s Scope n3, n4, n5, y)

            module _ (n6 : (s is_one_of prefix_or_binary_operators && operand && not access) ≡ false) where
              pub expression_7 : (s is_one_of postfix_operators && not operand) ≡ true → on (expression_state operand access depth) ≡ expression_table
              unfolding expression_node
              expression_7 y = rw (ne_eqb s Identifier n1, n2, ne_eqb s Scope n3, n4, n5, n6, y)

              module _ (n7 : (s is_one_of postfix_operators && not operand) ≡ false) where
                pub expression_8 : s ≡ Question → on_if (not (eqb lang Fortran) && not operand) (expression_state true access (depth + 1)) ≡ expression_table
                unfolding expression_node
                expression_8 y = rw (ne_eqb s Identifier n1, n2, ne_eqb s Scope n3, n4, n5, n6, n7, eq-eqb s Question y, add-one depth)

                module _ (n8 : s ≡ Question → ⊥) where
                  pub expression_9 : s ≡ Colon → on_if (not (eqb lang Fortran) && not operand && not (eqb depth 0)) (expression_state true access (depth - 1)) ≡ expression_table
                  unfolding expression_node
                  expression_9 y = rw (← one_less depth, ne_eqb s Identifier n1, n2, ne_eqb s Scope n3, n4, n5, n6, n7, ne_eqb s Question n8, eq-eqb s Colon y)

                  module _ (n9 : s ≡ Colon → ⊥) where
                    pub expression_10 : is_binary_or_assignment_operator lang s ≡ true → on_if (not operand) (expression_state true false depth) ≡ expression_table
                    unfolding expression_node
                    expression_10 y = rw (ne_eqb s Identifier n1, n2, ne_eqb s Scope n3, n4, n5, n6, n7, ne_eqb s Question n8, ne_eqb s Colon n9, y)

                    module _ (n10 : is_binary_or_assignment_operator lang s ≡ false) where
                      pub expression_11 : s ≡ Parenthesized → inside_if (not access) (if operand then some_expression else optional_expression) (expression_state false access depth) ≡ expression_table
                      unfolding expression_node
                      expression_11 y = rw (ne_eqb s Identifier n1, n2, ne_eqb s Scope n3, n4, n5, n6, n7, ne_eqb s Question n8, ne_eqb s Colon n9, n10, eq-eqb s Parenthesized y)

                      module _ (n11 : s ≡ Parenthesized → ⊥) where
                        pub expression_12 : s ≡ Bracketed → inside_if (not operand) some_expression (expression_state false access depth) ≡ expression_table
                        unfolding expression_node
                        expression_12 y = rw (ne_eqb s Identifier n1, n2, ne_eqb s Scope n3, n4, n5, n6, n7, ne_eqb s Question n8, ne_eqb s Colon n9, n10, ne_eqb s Parenthesized n11, eq-eqb s Bracketed y)

                        module _ (n12 : s ≡ Bracketed → ⊥) where
                          pub expression_13 : s ≡ TemplateArguments → inside_if (eqb lang Cpp && not operand) arguments (expression_state operand access depth) ≡ expression_table
                          unfolding expression_node
                          expression_13 y = rw (ne_eqb s Identifier n1, n2, ne_eqb s Scope n3, n4, n5, n6, n7, ne_eqb s Question n8, ne_eqb s Colon n9, n10, ne_eqb s Parenthesized n11, ne_eqb s Bracketed n12, eq-eqb s TemplateArguments y)

                          pub expression_14 : (s ≡ TemplateArguments → ⊥) → stop false ≡ expression_table
                          unfolding expression_node
                          expression_14 n13 = rw (ne_eqb s Identifier n1, n2, ne_eqb s Scope n3, n4, n5, n6, n7, ne_eqb s Question n8, ne_eqb s Colon n9, n10, ne_eqb s Parenthesized n11, ne_eqb s Bracketed n12, ne_eqb s TemplateArguments n13)

module _ (s : ℕ) (last_integer word selector : Bool) where
  abbrev fortran_table : Move FortranState
  fortran_table = fortran_node s last_integer (fortran_state word selector)

  pub fortran_1 : s ≡ Identifier → on (fortran_state true selector) ≡ fortran_table
  unfolding fortran_node
  fortran_1 y = rw (eq-eqb s Identifier y)

  module _ (n1 : s ≡ Identifier → ⊥) where
    pub fortran_2 : (eqb s Parenthesized && word && not selector) ≡ true → inside selectors (fortran_state word true) ≡ fortran_table
    unfolding fortran_node
    fortran_2 y = rw (ne_eqb s Identifier n1, y)

    module _ (n2 : (eqb s Parenthesized && word && not selector) ≡ false) where
      pub fortran_3 : (eqb s Star && word && last_integer) ≡ true → stop true ≡ fortran_table
      unfolding fortran_node
      fortran_3 y = rw (ne_eqb s Identifier n1, n2, y)

      pub fortran_4 : (eqb s Star && word && last_integer) ≡ false → stop false ≡ fortran_table
      unfolding fortran_node
      fortran_4 n3 = rw (ne_eqb s Identifier n1, n2, n3)
