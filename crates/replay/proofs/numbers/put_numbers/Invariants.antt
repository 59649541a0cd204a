-- `put_numbers` meets its contract. Assumes nothing.
use Rattle.replay.specs.Laws.Comparing.{Filling}
use Rattle.replay.proofs.numbers.put_numbers.Given as goal

abbrev pub invariant-loop-i : goal.invariant-loop-i
invariant-loop-i l = Filling l.initial.list l.stored l.count l.behind l.list l.i
