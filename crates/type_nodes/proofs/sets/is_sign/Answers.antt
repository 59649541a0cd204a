-- `is_sign` meets its contract. Assumes nothing.
use Rattle.type_nodes.specs.Sets.{signs}
use Rattle.type_nodes.specs.Laws.Chains.{tests, tests_after, chain}
use Rattle.type_nodes.proofs.sets.is_sign.Goals as goal

pub returns : goal.returns
unfolding signs tests tests_after
returns c = chain c.args.word signs
