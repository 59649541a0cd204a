-- `is_c_family_operator` meets its contract. Assumes nothing.
use Rattle.type_nodes.specs.Ranges.{◌is_within◌, c_family_ranges}
use Rattle.type_nodes.specs.Laws.Chains.{tests, tests_after, range_chain}
use Rattle.type_nodes.proofs.sets.is_c_family_operator.Goals as goal

pub returns : goal.returns
unfolding c_family_ranges ◌is_within◌ tests tests_after
returns c = range_chain c.args.kind c_family_ranges
