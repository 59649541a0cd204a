-- `digit` meets its contract. Assumes nothing.
use mathlib.Core.Path.{refl}
use Rattle.text.specs.Text.{last_digit}
use Rattle.text.proofs.digit.Goals as goal

pub returns : goal.returns
unfolding last_digit
returns c = refl
