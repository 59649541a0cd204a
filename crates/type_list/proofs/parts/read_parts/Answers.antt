-- `read_parts` meets its contract. The loop's invariant: the trees of the parts so far stand in front of the buffer, and the parts left decide.
-- Assumes nothing.
use mathlib.Core.Path.{refl, ◌∙◌}
use native.Mathlib.Omega.{arith}
use Rattle.type_list.specs.Laws.Loop.{parts_begin, parts_refused, parts_again, parts_end}
use Rattle.type_list.proofs.parts.read_parts.Goals as goal

pub loop-taken-init : goal.loop-taken-init
loop-taken-init c = (parts_begin c.args.head c.args.kinds.now c.args.words.now c.requires refl refl refl refl, refl)

pub take_part-step-requires : goal.take_part-step-requires
take_part-step-requires c = (c.loop-taken.invariant.0.ready, omega arith)

pub overflow_sub-result : goal.overflow_sub-result
overflow_sub-result c = let (m, is, l, fits) = rw c.in-Err.is at c.take_part-step.ensures.says in omega (arith, l, fits, c.loop-taken.invariant.0.ready.allowed)

pub shape_of-tree-in-Err : goal.shape_of-tree-in-Err
shape_of-tree-in-Err c = c.take_part-step.auto.tree ∙ c.loop-taken.invariant.1

pub returns-in-Err : goal.returns-in-Err
returns-in-Err c = parts_refused c.args.head c.args.kinds.now c.args.words.now c.loop-taken.invariant.0 (omega arith) (rw c.in-Err.is at c.take_part-step.ensures)

pub loop-taken-smaller : goal.loop-taken-smaller
loop-taken-smaller c = let a = rw c.in-Ok.is at c.take_part-step.ensures.says in omega (arith, a.from)

pub loop-taken-preserved : goal.loop-taken-preserved
loop-taken-preserved c = (parts_again c.args.head c.args.kinds.now c.args.words.now c.loop-taken.invariant.0 (omega arith) (rw c.in-Ok.is at c.take_part-step.ensures), c.take_part-step.auto.tree ∙ c.loop-taken.invariant.1)

pub overflow_sub-result-2 : goal.overflow_sub-result-2
overflow_sub-result-2 c = c.loop-taken.invariant.0.ready.allowed

pub shape_of-tree : goal.shape_of-tree
shape_of-tree c = c.loop-taken.invariant.1

pub returns : goal.returns
returns c = parts_end c.args.head c.args.kinds.now c.args.words.now c.loop-taken.invariant.0 (omega arith)
