-- `opens_angle` meets its contract. Assumes nothing.
use Rattle.rows.specs.Laws.Tests.{or_false, or_assoc}
use Rattle.prescan.specs.Prescan.{opens_angle}
use Rattle.prescan.proofs.scan.opens_angle.Goals as goal

pub returns : goal.returns
unfolding opens_angle
returns c = simp (opens_angle, or_false, or_assoc)
