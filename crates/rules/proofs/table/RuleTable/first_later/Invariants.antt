-- `first_later` meets its contract. The loop's invariant: no place so far overlaps. Assumes nothing.
use Rattle.rules.specs.Laws.Pairs.{LaterLoop}
use Rattle.rules.proofs.table.RuleTable.first_later.Given as goal

abbrev pub invariant-loop-later : goal.invariant-loop-later
invariant-loop-later l = LaterLoop _ l.self.read l.earlier l.from l.later
