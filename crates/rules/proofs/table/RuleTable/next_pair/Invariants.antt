-- `next_pair` meets its contract. The loop's invariant: what comes after the pair handed in is not before the place reached. Assumes nothing.
use Rattle.rules.specs.Laws.Pairs.{PairLoop}
use Rattle.rules.proofs.table.RuleTable.next_pair.Given as goal

abbrev pub invariant-loop-i : goal.invariant-loop-i
invariant-loop-i l = PairLoop _ l.self.read l.earlier l.later l.i l.from
