-- `asks_structure` meets its contract. Assumes nothing.
use mathlib.Core.Path.{refl}
use Rattle.rows.specs.Format.{asks_structure}
use Rattle.rows.proofs.head.asks_structure.Goals as goal

pub returns : goal.returns
unfolding asks_structure
returns c = refl
