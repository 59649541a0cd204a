-- `mark_names` meets its contract. The loop's invariant: the marks before this token are made, and its left neighbour's record is next. Assumes nothing.
use Rattle.names.specs.Laws.Walk.{Walk}
use Rattle.names.proofs.marks.mark_names.Given as goal

abbrev pub invariant-loop-i : goal.invariant-loop-i
invariant-loop-i l = Walk l.file l.kinds l.names l.heads l.links l.places l.initial.marks l.marks l.i l.next
