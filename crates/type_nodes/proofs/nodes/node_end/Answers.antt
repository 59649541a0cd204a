-- `node_end` meets its contract. Assumes nothing.
use Rattle.type_nodes.specs.Laws.Siblings.{read_end}
use Rattle.type_nodes.proofs.nodes.node_end.Goals as goal

pub returns : goal.returns
returns c = λ x s. read_end s c.requires.0 c.node_extent.ensures.value
