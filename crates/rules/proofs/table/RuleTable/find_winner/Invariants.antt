-- `find_winner` meets its contract. The loop's invariant: the rules from this place on decide. Assumes nothing.
use Rattle.rules.specs.Laws.Winners.{WinnerLoop}
use Rattle.rules.proofs.table.RuleTable.find_winner.Given as goal

abbrev pub invariant-loop-place : goal.invariant-loop-place
invariant-loop-place l = WinnerLoop l.self.read l.row.file.now l.row.kinds.now l.row.places.now l.tree l.nodes l.place
