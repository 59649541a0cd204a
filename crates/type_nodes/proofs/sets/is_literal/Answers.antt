-- `is_literal` meets its contract. Assumes nothing.
use Rattle.type_nodes.specs.Sets.{literals}
use Rattle.type_nodes.specs.Laws.Chains.{tests, tests_after, chain}
use Rattle.type_nodes.proofs.sets.is_literal.Goals as goal

pub returns : goal.returns
unfolding literals tests tests_after
returns c = chain c.args.shape literals
