-- `inside_if` meets its contract. Assumes nothing.
use Rattle.structure.specs.RepresentedMoves.{goes_inside_if}
use Rattle.structure.proofs.moves.inside_if.Goals as goal

pub returns-then-ok : goal.returns-then-ok
unfolding goes_inside_if
returns-then-ok g c = simp c.if-ok.true

pub returns : goal.returns
unfolding goes_inside_if
returns g c = simp c.if-ok.false
