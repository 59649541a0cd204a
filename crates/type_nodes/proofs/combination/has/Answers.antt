-- `has` meets its contract. Assumes nothing.
use Rattle.type_nodes.specs.Combination.{has}
use Rattle.type_nodes.proofs.combination.has.Goals as goal

pub returns : goal.returns
unfolding has
returns c = rw c.times.ensures
