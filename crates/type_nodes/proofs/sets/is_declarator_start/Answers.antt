-- `is_declarator_start` meets its contract. Assumes nothing.
use Rattle.type_nodes.specs.Sets.{declarator_starts}
use Rattle.type_nodes.specs.Laws.Chains.{tests, tests_after, chain}
use Rattle.type_nodes.proofs.sets.is_declarator_start.Goals as goal

pub returns : goal.returns
unfolding declarator_starts tests tests_after
returns c = chain c.args.shape declarator_starts
