-- `is_reference_operator` meets its contract. Assumes nothing.
use Rattle.type_nodes.specs.Sets.{reference_operators}
use Rattle.type_nodes.specs.Laws.Chains.{tests, tests_after, chain}
use Rattle.type_nodes.proofs.sets.is_reference_operator.Goals as goal

pub returns : goal.returns
unfolding reference_operators tests tests_after
returns c = chain c.args.shape reference_operators
