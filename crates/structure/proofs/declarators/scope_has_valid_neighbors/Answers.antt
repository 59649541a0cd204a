-- `scope_has_valid_neighbors` meets its contract. Assumes nothing.
use mathlib.Core.Path.{refl}
use Rattle.structure.specs.Declarators.{scope_has_valid_neighbors}
use Rattle.structure.proofs.declarators.scope_has_valid_neighbors.Goals as goal

pub returns : goal.returns
unfolding scope_has_valid_neighbors
returns c = refl
