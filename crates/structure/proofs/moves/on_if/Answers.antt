-- `on_if` meets its contract. Assumes nothing.
use Rattle.structure.specs.RepresentedMoves.{goes_on_if}
use Rattle.structure.proofs.moves.on_if.Goals as goal

pub returns-then-ok : goal.returns-then-ok
unfolding goes_on_if
returns-then-ok g c = simp c.if-ok.true

pub returns : goal.returns
unfolding goes_on_if
returns g c = simp c.if-ok.false
