-- `copy_bytes` meets its contract. Assumes nothing.
use native.Mathlib.Omega.{arith}
use Rattle.text.specs.Laws.Appending.{copying_start, copying_on}
use Rattle.text.proofs.copy_bytes.Goals as goal

pub loop-i-init : goal.loop-i-init
loop-i-init c = copying_start _ _ _

pub loop-i-preserved : goal.loop-i-preserved
loop-i-preserved c = copying_on c.loop-i.invariant c.requires (omega arith)
