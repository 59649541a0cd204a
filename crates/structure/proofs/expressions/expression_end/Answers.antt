-- `expression_end` meets its contract. Assumes nothing.
use mathlib.Core.Path.{refl}
use Rattle.structure.specs.Expressions.{expression_end}
use Rattle.structure.proofs.expressions.expression_end.Goals as goal

pub returns : goal.returns
unfolding expression_end
returns c = refl
