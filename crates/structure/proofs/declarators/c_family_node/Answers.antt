-- `c_family_node` meets its contract: an arm of the table at each way out. Assumes nothing.
use mathlib.Core.Path.{sym, ◌∙◌}
use borrow.Author.Tests.{eqb-false}
use Rattle.structure.specs.Laws.Waits.{goes_on, goes_inside}
use Rattle.structure.specs.Laws.Tables.{type_2, type_3, type_4, type_5, type_6, type_7, type_8}
use Rattle.structure.proofs.declarators.c_family_node.Goals as goal

pub returns-then-shape-eq-SCOPE : goal.returns-then-shape-eq-SCOPE
returns-then-shape-eq-SCOPE c = goes_on _ _ _ _ c.on_if.ensures (rw c.scope_has_valid_neighbors-good.ensures (type_2 _ _ _ _ _ _ _ _ _ (eqb-false _ _ c.requires) c.if-shape-eq-SCOPE.true))

pub returns-then-shape-eq-TEMPLATE_ARGUMENTS : goal.returns-then-shape-eq-TEMPLATE_ARGUMENTS
returns-then-shape-eq-TEMPLATE_ARGUMENTS c = goes_inside _ _ _ _ _ c.inside_if.ensures ((type_3 _ _ _ _ _ _ _ _ _ (eqb-false _ _ c.requires) c.if-shape-eq-SCOPE.false c.if-shape-eq-TEMPLATE_ARGUMENTS.true))

pub returns-then-shape-eq-STAR : goal.returns-then-shape-eq-STAR
returns-then-shape-eq-STAR c = goes_on _ _ _ _ c.on_if-then-shape-eq-STAR.ensures ((type_4 _ _ _ _ _ _ _ _ _ (eqb-false _ _ c.requires) c.if-shape-eq-SCOPE.false c.if-shape-eq-TEMPLATE_ARGUMENTS.false c.if-shape-eq-STAR.true))

pub returns-then-is_reference_operator : goal.returns-then-is_reference_operator
returns-then-is_reference_operator c = goes_on _ _ _ _ c.on_if-then-is_reference_operator.ensures ((type_5 _ _ _ _ _ _ _ _ _ (eqb-false _ _ c.requires) c.if-shape-eq-SCOPE.false c.if-shape-eq-TEMPLATE_ARGUMENTS.false c.if-shape-eq-STAR.false (sym c.is_reference_operator.ensures ∙ c.if-is_reference_operator.true)))

pub returns-then-shape-eq-PARENTHESIZED : goal.returns-then-shape-eq-PARENTHESIZED
returns-then-shape-eq-PARENTHESIZED c = c.c_family_group.ensures ∙ (type_6 _ _ _ _ _ _ _ _ _ (eqb-false _ _ c.requires) c.if-shape-eq-SCOPE.false c.if-shape-eq-TEMPLATE_ARGUMENTS.false c.if-shape-eq-STAR.false (sym c.is_reference_operator.ensures ∙ c.if-is_reference_operator.false) c.if-shape-eq-PARENTHESIZED.true)

pub returns-then-shape-eq-BRACKETED : goal.returns-then-shape-eq-BRACKETED
returns-then-shape-eq-BRACKETED c = goes_inside _ _ _ _ _ c.inside_if-then-shape-eq-BRACKETED.ensures ((type_7 _ _ _ _ _ _ _ _ _ (eqb-false _ _ c.requires) c.if-shape-eq-SCOPE.false c.if-shape-eq-TEMPLATE_ARGUMENTS.false c.if-shape-eq-STAR.false (sym c.is_reference_operator.ensures ∙ c.if-is_reference_operator.false) c.if-shape-eq-PARENTHESIZED.false c.if-shape-eq-BRACKETED.true))

pub returns : goal.returns
returns c = type_8 _ _ _ _ _ _ _ _ _ (eqb-false _ _ c.requires) c.if-shape-eq-SCOPE.false c.if-shape-eq-TEMPLATE_ARGUMENTS.false c.if-shape-eq-STAR.false (sym c.is_reference_operator.ensures ∙ c.if-is_reference_operator.false) c.if-shape-eq-PARENTHESIZED.false c.if-shape-eq-BRACKETED.false
