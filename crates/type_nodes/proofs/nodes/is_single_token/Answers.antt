-- `is_single_token` meets its contract. Assumes nothing.
use Rattle.type_nodes.specs.Laws.Siblings.{found_there, found_nothing, single_none, single_node}
use Rattle.type_nodes.proofs.nodes.is_single_token.Goals as goal

pub returns-in_default : goal.returns-in_default
returns-in_default c = λ x s. single_none _ c.args.kind c.requires.0 (found_nothing _ _ x (c.node_at.ensures x s) c.in_default.is)

pub returns : goal.returns
returns c = λ x s. single_node s (found_there _ _ x (c.node_at.ensures x s) c.in-Some.is) c.args.kind
