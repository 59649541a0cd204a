-- `is_prefix_operator` meets its contract. Assumes nothing.
use Rattle.type_nodes.specs.Sets.{prefix_operators}
use Rattle.type_nodes.specs.Laws.Chains.{tests, tests_after, chain}
use Rattle.type_nodes.proofs.sets.is_prefix_operator.Goals as goal

pub returns : goal.returns
unfolding prefix_operators tests tests_after
returns c = chain c.args.shape prefix_operators
