-- `level` meets its contract. Assumes nothing.
use Rattle.listing.specs.Laws.Lines.{Counting}
use Rattle.listing.proofs.level.level.Given as goal

abbrev pub invariant-loop-above : goal.invariant-loop-above
invariant-loop-above l = Counting l.tree l.node l.count l.above
