-- `is_prefix_or_binary_operator` meets its contract. Assumes nothing.
use Rattle.type_nodes.specs.Sets.{prefix_or_binary_operators}
use Rattle.type_nodes.specs.Laws.Chains.{tests, tests_after, chain}
use Rattle.type_nodes.proofs.sets.is_prefix_or_binary_operator.Goals as goal

pub returns : goal.returns
unfolding prefix_or_binary_operators tests tests_after
returns c = chain c.args.shape prefix_or_binary_operators
