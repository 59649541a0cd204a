-- `copy_bytes` meets its contract. Assumes nothing.
use Rattle.text.specs.Laws.Appending.{Copying}
use Rattle.text.proofs.copy_bytes.Given as goal

abbrev pub invariant-loop-i : goal.invariant-loop-i
invariant-loop-i l = Copying l.initial.buffer l.at l.bytes l.buffer l.i
