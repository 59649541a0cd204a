-- `element_end` meets its contract. Assumes nothing.
use native.Mathlib.Omega.{arith}
use Rattle.type_nodes.specs.Laws.Elements.{element_start, element_comma, element_next, element_last}
use Rattle.type_nodes.proofs.split_on_commas.element_end.Goals as goal

pub loop-at-init : goal.loop-at-init
loop-at-init c = element_start c.requires

pub returns-then-shape_at-eq-COMMA : goal.returns-then-shape_at-eq-COMMA
returns-then-shape_at-eq-COMMA c = element_comma c.loop-at.invariant (omega arith) c.shape_at.ensures c.if-shape_at-eq-COMMA.true

pub loop-at-preserved : goal.loop-at-preserved
loop-at-preserved c = element_next c.loop-at.invariant (omega arith) c.shape_at.ensures c.node_end-at.ensures c.if-shape_at-eq-COMMA.false

pub returns : goal.returns
returns c = element_last c.loop-at.invariant (omega arith)
