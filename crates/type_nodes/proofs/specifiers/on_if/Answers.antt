-- `on_if` meets its contract. Assumes nothing.
use Rattle.type_nodes.specs.Moves.{on_if}
use Rattle.type_nodes.proofs.specifiers.on_if.Goals as goal

pub returns-then-ok : goal.returns-then-ok
unfolding on_if
returns-then-ok c = λ seen. record { is = simp c.if-ok.true; known = tt }

pub returns : goal.returns
unfolding on_if
returns c = λ seen. record { is = simp c.if-ok.false; known = tt }
