-- `old` meets its contract. Assumes nothing.
use mathlib.Core.Path.{refl}
use Rattle.rows.proofs.format.old.Goals as goal

pub returns : goal.returns
returns c = rw c.archive_standards.ensures refl
