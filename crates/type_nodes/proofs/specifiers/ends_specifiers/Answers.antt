-- `ends_specifiers` meets its contract: by the shape. Assumes nothing.
use borrow.Author.Tests.{ne_eqb}
use Rattle.rows.specs.Notation.{◌is_one_of◌}
use Rattle.type_nodes.proofs.specifiers.ends_specifiers.Goals as goal

pub returns-then-shape-eq-IDENTIFIER : goal.returns-then-shape-eq-IDENTIFIER
unfolding ◌is_one_of◌
returns-then-shape-eq-IDENTIFIER c = rw c.if-shape-eq-IDENTIFIER.true

pub returns-then-shape-eq-SCOPE : goal.returns-then-shape-eq-SCOPE
unfolding ◌is_one_of◌
returns-then-shape-eq-SCOPE c = rw c.if-shape-eq-SCOPE.true

pub returns-then-shape-eq-TEMPLATE_ARGUMENTS : goal.returns-then-shape-eq-TEMPLATE_ARGUMENTS
unfolding ◌is_one_of◌
returns-then-shape-eq-TEMPLATE_ARGUMENTS c = rw c.if-shape-eq-TEMPLATE_ARGUMENTS.true

pub returns-then-shape-eq-PARENTHESIZED : goal.returns-then-shape-eq-PARENTHESIZED
unfolding ◌is_one_of◌
returns-then-shape-eq-PARENTHESIZED c = rw (c.if-shape-eq-PARENTHESIZED.true, c.is_parenthesis_word.ensures)

pub returns : goal.returns
unfolding ◌is_one_of◌
returns c = rw (ne_eqb _ _ c.if-shape-eq-IDENTIFIER.false, ne_eqb _ _ c.if-shape-eq-SCOPE.false, ne_eqb _ _ c.if-shape-eq-TEMPLATE_ARGUMENTS.false, ne_eqb _ _ c.if-shape-eq-PARENTHESIZED.false)
