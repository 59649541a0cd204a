-- `is_valid_start` meets its contract. Assumes nothing.
use Rattle.rows.specs.Laws.Tests.{or_false, or_assoc}
use Rattle.prescan.specs.Prescan.{valid_start}
use Rattle.prescan.proofs.boundary.is_valid_start.Goals as goal

pub returns : goal.returns
unfolding valid_start
returns c = simp (valid_start, or_false, or_assoc)
