-- `is_postfix_operator` meets its contract. Assumes nothing.
use Rattle.type_nodes.specs.Sets.{postfix_operators}
use Rattle.type_nodes.specs.Laws.Chains.{tests, tests_after, chain}
use Rattle.type_nodes.proofs.sets.is_postfix_operator.Goals as goal

pub returns : goal.returns
unfolding postfix_operators tests tests_after
returns c = chain c.args.shape postfix_operators
