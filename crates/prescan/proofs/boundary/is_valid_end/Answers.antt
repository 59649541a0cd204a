-- `is_valid_end` meets its contract. Assumes nothing.
use Rattle.rows.specs.Laws.Tests.{or_false, or_assoc}
use Rattle.prescan.specs.Prescan.{valid_end}
use Rattle.prescan.proofs.boundary.is_valid_end.Goals as goal

pub returns : goal.returns
unfolding valid_end
returns c = simp (valid_end, or_false, or_assoc)
