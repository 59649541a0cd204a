-- `in_chain` meets its contract. The loop's invariant: no name from this number on is the word. Assumes nothing.
use Rattle.names.specs.Laws.Tables.{ChainLoop}
use Rattle.names.proofs.table.in_chain.Given as goal

abbrev pub invariant-loop-entry : goal.invariant-loop-entry
invariant-loop-entry l = ChainLoop l.names l.links l.places l.sought l.first l.entry

abbrev pub decreases-loop-entry : goal.decreases-loop-entry
decreases-loop-entry l = l.entry
