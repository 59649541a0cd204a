-- `within` meets its contract. Assumes nothing.
use mathlib.Core.Path.{refl}
use Rattle.structure.proofs.level.Level.within.Goals as goal

pub returns : goal.returns
returns c = (_, refl)
