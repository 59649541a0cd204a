-- `is_member_access` meets its contract. Assumes nothing.
use Rattle.type_nodes.specs.Sets.{member_accesses}
use Rattle.type_nodes.specs.Laws.Chains.{tests, tests_after, chain}
use Rattle.type_nodes.proofs.sets.is_member_access.Goals as goal

pub returns : goal.returns
unfolding member_accesses tests tests_after
returns c = chain c.args.shape member_accesses
