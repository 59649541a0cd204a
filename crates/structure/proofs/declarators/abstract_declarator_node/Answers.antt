-- `abstract_declarator_node` meets its contract: an arm of the table at each way out. Assumes nothing.
use mathlib.Core.Path.{sym, ◌∙◌}
use Rattle.structure.specs.Laws.Waits.{goes_on, goes_inside}
use Rattle.structure.specs.Laws.Tables.{declarator_1, declarator_2, declarator_3, declarator_4, declarator_5, declarator_6, declarator_7, declarator_8}
use Rattle.structure.proofs.declarators.abstract_declarator_node.Goals as goal

pub returns-then-shape-eq-STAR : goal.returns-then-shape-eq-STAR
returns-then-shape-eq-STAR c = goes_on _ _ _ _ c.on_if.ensures ((declarator_1 _ _ _ _ _ _ _ c.if-shape-eq-STAR.true))

pub returns-then-is_reference_operator : goal.returns-then-is_reference_operator
returns-then-is_reference_operator c = goes_on _ _ _ _ c.on_if-then-is_reference_operator.ensures ((declarator_2 _ _ _ _ _ _ _ c.if-shape-eq-STAR.false (sym c.is_reference_operator.ensures ∙ c.if-is_reference_operator.true)))

pub returns-then-shape-eq-IDENTIFIER : goal.returns-then-shape-eq-IDENTIFIER
returns-then-shape-eq-IDENTIFIER c = goes_on _ _ _ _ c.on_if-then-shape-eq-IDENTIFIER.ensures (rw (c.is_c_family_declarator_qualifier-known.ensures, c.is_part_of_name.ensures) (declarator_3 _ _ _ _ _ _ _ c.if-shape-eq-STAR.false (sym c.is_reference_operator.ensures ∙ c.if-is_reference_operator.false) c.if-shape-eq-IDENTIFIER.true))

pub returns-then-shape-eq-SCOPE : goal.returns-then-shape-eq-SCOPE
returns-then-shape-eq-SCOPE c = goes_on _ _ _ _ c.on_if-then-shape-eq-SCOPE.ensures (rw c.scope_has_valid_neighbors-good.ensures (declarator_4 _ _ _ _ _ _ _ c.if-shape-eq-STAR.false (sym c.is_reference_operator.ensures ∙ c.if-is_reference_operator.false) c.if-shape-eq-IDENTIFIER.false c.if-shape-eq-SCOPE.true))

pub returns-then-shape-eq-TEMPLATE_ARGUMENTS : goal.returns-then-shape-eq-TEMPLATE_ARGUMENTS
returns-then-shape-eq-TEMPLATE_ARGUMENTS c = goes_inside _ _ _ _ _ c.inside_if.ensures ((declarator_5 _ _ _ _ _ _ _ c.if-shape-eq-STAR.false (sym c.is_reference_operator.ensures ∙ c.if-is_reference_operator.false) c.if-shape-eq-IDENTIFIER.false c.if-shape-eq-SCOPE.false c.if-shape-eq-TEMPLATE_ARGUMENTS.true))

pub returns-then-shape-eq-PARENTHESIZED : goal.returns-then-shape-eq-PARENTHESIZED
returns-then-shape-eq-PARENTHESIZED c = goes_inside _ _ _ _ _ c.inside_if-then-shape-eq-PARENTHESIZED.ensures ((declarator_6 _ _ _ _ _ _ _ c.if-shape-eq-STAR.false (sym c.is_reference_operator.ensures ∙ c.if-is_reference_operator.false) c.if-shape-eq-IDENTIFIER.false c.if-shape-eq-SCOPE.false c.if-shape-eq-TEMPLATE_ARGUMENTS.false c.if-shape-eq-PARENTHESIZED.true))

pub returns-then-shape-eq-BRACKETED : goal.returns-then-shape-eq-BRACKETED
returns-then-shape-eq-BRACKETED c = goes_inside _ _ _ _ _ c.inside_if-then-shape-eq-BRACKETED.ensures ((declarator_7 _ _ _ _ _ _ _ c.if-shape-eq-STAR.false (sym c.is_reference_operator.ensures ∙ c.if-is_reference_operator.false) c.if-shape-eq-IDENTIFIER.false c.if-shape-eq-SCOPE.false c.if-shape-eq-TEMPLATE_ARGUMENTS.false c.if-shape-eq-PARENTHESIZED.false c.if-shape-eq-BRACKETED.true))

pub returns : goal.returns
returns c = declarator_8 _ _ _ _ _ _ _ c.if-shape-eq-STAR.false (sym c.is_reference_operator.ensures ∙ c.if-is_reference_operator.false) c.if-shape-eq-IDENTIFIER.false c.if-shape-eq-SCOPE.false c.if-shape-eq-TEMPLATE_ARGUMENTS.false c.if-shape-eq-PARENTHESIZED.false c.if-shape-eq-BRACKETED.false
