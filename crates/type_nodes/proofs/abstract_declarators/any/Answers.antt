-- `any` meets its contract. Assumes nothing.
use native.Mathlib.Omega.{arith}
use Rattle.type_nodes.specs.Laws.Found.{any_start, any_here, any_next, any_end}
use Rattle.type_nodes.proofs.abstract_declarators.any.Goals as goal

pub loop-at-init : goal.loop-at-init
loop-at-init c = any_start _ c.requires

pub returns-then-shape-wanted : goal.returns-then-shape-wanted
returns-then-shape-wanted c = any_here c.loop-at.invariant (omega arith) c.shape_at-shape.ensures c.if-shape-wanted.true

pub loop-at-preserved : goal.loop-at-preserved
loop-at-preserved c = any_next c.loop-at.invariant (omega arith) c.shape_at-shape.ensures c.node_end-next.ensures c.if-shape-wanted.false

pub returns : goal.returns
returns c = any_end c.loop-at.invariant (omega arith)
