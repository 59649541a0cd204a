-- `is_fortran_operator` meets its contract. Assumes nothing.
use Rattle.type_nodes.specs.Ranges.{◌is_within◌, fortran_ranges}
use Rattle.type_nodes.specs.Laws.Chains.{tests, tests_after, range_chain}
use Rattle.type_nodes.proofs.sets.is_fortran_operator.Goals as goal

pub returns : goal.returns
unfolding fortran_ranges ◌is_within◌ tests tests_after
returns c = range_chain c.args.kind fortran_ranges
