-- `node_identifier` meets its contract. Assumes nothing.
use native.Mathlib.Omega.{arith}
use Rattle.type_nodes.specs.Laws.Siblings.{found_there, found_nothing, token_known, identifier_none, identifier_read, identifier_other}
use Rattle.type_nodes.proofs.nodes.node_identifier.Goals as goal

pub returns-in_default : goal.returns-in_default
returns-in_default c = λ x s. identifier_none _ _ (found_nothing _ _ x (c.node_at.ensures x s) c.in_default.is)

pub bounds-words-node : goal.bounds-words-node
bounds-words-node c = let f = c.requires.nodes_stand in omega (arith, c.requires.worded, token_known f.stands (found_there _ _ f.nodes (c.node_at.ensures f.nodes f.stands) c.in-Some.is))

pub returns-then-node-eq-IDENTIFIER : goal.returns-then-node-eq-IDENTIFIER
returns-then-node-eq-IDENTIFIER c = λ x s. identifier_read s (found_there _ _ x (c.node_at.ensures x s) c.in-Some.is) c.args.words.now c.if-node-eq-IDENTIFIER.true

pub returns : goal.returns
returns c = λ x s. identifier_other s (found_there _ _ x (c.node_at.ensures x s) c.in-Some.is) c.args.words.now c.if-node-eq-IDENTIFIER.false
