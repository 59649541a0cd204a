-- `specifier_node` meets its contract: an arm of the table at each way out. Assumes nothing.
use borrow.Author.Tests.{ne_eqb}
use Rattle.type_nodes.specs.Laws.SpecifierTables.{moved, at_identifier, at_scope, at_list, at_group}
use Rattle.type_nodes.proofs.specifiers.specifier_node.Goals as goal

pub returns-then-shape-eq-IDENTIFIER : goal.returns-then-shape-eq-IDENTIFIER
returns-then-shape-eq-IDENTIFIER c = moved c.specifier_word.ensures (at_identifier _ _ _ _ _ _ _ c.if-shape-eq-IDENTIFIER.true)

pub returns-then-shape-eq-SCOPE : goal.returns-then-shape-eq-SCOPE
returns-then-shape-eq-SCOPE c = moved (c.specifier_scope.ensures _ c.requires.0) (at_scope _ _ _ _ _ _ _ c.if-shape-eq-SCOPE.true)

pub returns-then-shape-eq-TEMPLATE_ARGUMENTS : goal.returns-then-shape-eq-TEMPLATE_ARGUMENTS
returns-then-shape-eq-TEMPLATE_ARGUMENTS c = moved (c.specifier_list.ensures _) (at_list _ _ _ _ _ _ _ c.if-shape-eq-TEMPLATE_ARGUMENTS.true)

pub returns : goal.returns
returns c = record { is = at_group _ _ _ _ _ _ _ (ne_eqb _ _ c.if-shape-eq-IDENTIFIER.false) (ne_eqb _ _ c.if-shape-eq-SCOPE.false) (ne_eqb _ _ c.if-shape-eq-TEMPLATE_ARGUMENTS.false) c.requires.1; known = tt }
