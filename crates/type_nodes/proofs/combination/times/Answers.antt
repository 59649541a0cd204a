-- `times` meets its contract. Assumes nothing.
use mathlib.Core.Path.{refl}
use Rattle.type_nodes.specs.Combination.{times}
use Rattle.type_nodes.proofs.combination.times.Goals as goal

pub returns : goal.returns
unfolding times
returns c = refl
