-- `elements_are_full` meets its contract. The loop's invariant: what is left of the parts decides. Assumes nothing.
use native.Mathlib.Omega.{arith}
use Rattle.type_nodes.specs.Laws.Commas.{comma_start, comma_bad, comma_next, comma_other, comma_end}
use Rattle.type_nodes.proofs.split_on_commas.elements_are_full.Goals as goal

pub loop-at-init : goal.loop-at-init
loop-at-init c = comma_start c.requires

pub returns-then-not-some : goal.returns-then-not-some
returns-then-not-some c = comma_bad c.loop-at.invariant (omega arith) c.shape_at-shape.ensures c.if-shape-eq-COMMA.true c.if-not-some.true

pub loop-at-preserved-else-not-some : goal.loop-at-preserved-else-not-some
loop-at-preserved-else-not-some c = comma_next c.loop-at.invariant (omega arith) c.shape_at-shape.ensures c.node_end-next.ensures c.if-shape-eq-COMMA.true c.if-not-some.false

pub loop-at-preserved : goal.loop-at-preserved
loop-at-preserved c = comma_other c.loop-at.invariant (omega arith) c.shape_at-shape.ensures c.node_end-next.ensures c.if-shape-eq-COMMA.false

pub returns : goal.returns
returns c = comma_end c.loop-at.invariant (omega arith)
