-- `rule_matches` meets its contract. The loop's invariant: the items left and the nodes left decide. Assumes nothing.
use Prim.Native.Nat.{◌-◌}
use Rattle.rules.specs.Laws.MatchLoop.{MatchLoop}
use Rattle.rules.proofs.matching.rule_matches.Given as goal

abbrev pub invariant-loop-end : goal.invariant-loop-end
invariant-loop-end l = MatchLoop l.table l.end l.begin l.row.file.now l.row.kinds.now l.row.places.now l.tree l.nodes l.item l.at

abbrev pub decreases-loop-end : goal.decreases-loop-end
decreases-loop-end l = l.end - l.item
