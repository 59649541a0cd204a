-- `mark_names` meets its contract. The loop's invariant: the marks before this token are made, and its left neighbour's record is next. Assumes nothing.
use native.Mathlib.Omega.{arith}
use mathlib.Core.Path.{refl}
use Rattle.names.specs.Laws.Records.{there_begins, there_inside, sized_at}
use Rattle.names.specs.Laws.Walk.{walk_begins, record_there, walk_passes, walk_marks, walk_ends}
use Rattle.names.proofs.marks.mark_names.Goals as goal

pub loop-i-init : goal.loop-i-init
loop-i-init c = walk_begins _ _ _ _ _ _ _

pub two_bytes-requires : goal.two_bytes-requires
two_bytes-requires c = omega (arith, there_begins (record_there _ _ _ _ _ _ _ c.loop-i.invariant (omega arith) c.requires.1.tokens c.requires.1.of_row))

pub overflow_add-next : goal.overflow_add-next
overflow_add-next c = let f = there_inside (record_there _ _ _ _ _ _ _ c.loop-i.invariant (omega arith) c.requires.1.tokens c.requires.1.of_row) refl c.two_bytes.ensures.value in omega (arith, f.1)

pub loop-i-preserved-then-kinds-i-ne-LESS : goal.loop-i-preserved-then-kinds-i-ne-LESS
loop-i-preserved-then-kinds-i-ne-LESS c = walk_passes _ _ _ _ _ _ _ c.loop-i.invariant (omega arith) _ (sized_at _ _ _ c.two_bytes.ensures.value) c.if-kinds-i-ne-LESS.true

pub overflow_sub-left : goal.overflow_sub-left
overflow_sub-left c = omega (arith, c.loop-i.invariant.first)

pub word_there-sought-requires : goal.word_there-sought-requires
word_there-sought-requires c = record_there _ _ _ _ _ _ _ c.loop-i.invariant (omega arith) c.requires.1.tokens c.requires.1.of_row

pub is_name-requires : goal.is_name-requires
is_name-requires c = c.requires.0

pub bounds-marks-left : goal.bounds-marks-left
bounds-marks-left c = omega (arith, c.requires.1.for_marks, c.loop-i.invariant.first, c.loop-i.invariant.kept)

pub loop-i-preserved : goal.loop-i-preserved
loop-i-preserved c = walk_marks _ _ _ _ _ _ _ c.loop-i.invariant (omega arith) _ (sized_at _ _ _ c.two_bytes.ensures.value) c.requires.1.for_marks c.if-kinds-i-ne-LESS.false c.word_there-sought.ensures c.is_name.ensures

pub shape_of-marks : goal.shape_of-marks
shape_of-marks c = c.loop-i.invariant.kept

pub returns : goal.returns
returns c = walk_ends _ _ _ _ _ _ _ c.loop-i.invariant (omega arith)
