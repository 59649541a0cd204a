-- `compare` meets its contract. The loop's invariant: the same with case ignored so far. Assumes nothing.
use Rattle.rows.specs.Laws.KnownWords.{SoFar}
use Rattle.rows.proofs.words.compare.Given as goal

abbrev pub invariant-loop-i : goal.invariant-loop-i
invariant-loop-i l = SoFar l.word l.known l.exact l.i
