-- `find_winner` meets its contract. The loop's invariant: the rules from this place on decide. Assumes nothing.
use native.Mathlib.Omega.{arith}
use Rattle.rules.specs.Laws.Winners.{winner_begins, winner_here, winner_again, winner_ends}
use Rattle.rules.proofs.table.RuleTable.find_winner.Goals as goal

pub loop-place-init : goal.loop-place-init
loop-place-init c = winner_begins _ _ _ _ _ _

pub place_matches-requires : goal.place_matches-requires
place_matches-requires c = (omega arith, c.requires)

pub returns-then-place_matches : goal.returns-then-place_matches
returns-then-place_matches c = winner_here _ _ _ _ _ _ c.loop-place.invariant (omega arith) c.place_matches.ensures c.if-place_matches.true

pub loop-place-preserved : goal.loop-place-preserved
loop-place-preserved c = winner_again _ _ _ _ _ _ c.loop-place.invariant (omega arith) c.place_matches.ensures c.if-place_matches.false

pub returns : goal.returns
returns c = winner_ends _ _ _ _ _ _ c.loop-place.invariant (omega arith)
