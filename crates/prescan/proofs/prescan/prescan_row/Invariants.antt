-- `prescan_row` meets its contract. The loop's invariant: the state is the definition's before the token. Assumes nothing.
use Prim.Native.Nat.{◌-◌}
use mathlib.Core.Path.{◌≡◌}
use lib.ListN.{length}
use Rattle.prescan.specs.Laws.ScanLoop.{ScanLoop}
use Rattle.prescan.proofs.prescan.prescan_row.Given as goal

abbrev pub invariant-loop-at : goal.invariant-loop-at
invariant-loop-at l = ScanLoop l.language l.kinds l.stack l.state l.at × (length l.stack ≡ length l.initial.stack)

abbrev pub decreases-loop-at : goal.decreases-loop-at
decreases-loop-at l = length l.kinds - l.at
