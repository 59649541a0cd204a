-- `past` meets its contract. Assumes nothing.
use mathlib.Core.Path.{refl}
use Rattle.prescan.specs.Prescan.{past}
use Rattle.prescan.proofs.scan.past.Goals as goal

pub returns : goal.returns
unfolding past
returns c = record { same_depth = refl; is = λ held. refl }
