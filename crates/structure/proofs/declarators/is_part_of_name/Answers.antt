-- `is_part_of_name` meets its contract. Assumes nothing.
use mathlib.Core.Path.{refl}
use Rattle.structure.specs.Declarators.{is_part_of_name}
use Rattle.structure.proofs.declarators.is_part_of_name.Goals as goal

pub returns : goal.returns
unfolding is_part_of_name
returns c = refl
