-- `first_later` meets its contract. The loop's invariant: no place so far overlaps. Assumes nothing.
use native.Mathlib.Omega.{arith}
use Rattle.rules.specs.Laws.Pairs.{later_begins, later_found, later_again, later_ends}
use Rattle.rules.proofs.table.RuleTable.first_later.Goals as goal

pub loop-later-init : goal.loop-later-init
loop-later-init c = later_begins _ c.args.self.now.read _ _

pub returns-then-places_meet : goal.returns-then-places_meet
returns-then-places_meet c = later_found _ c.args.self.now.read _ _ c.loop-later.invariant (omega arith) c.places_meet.ensures c.if-places_meet.true

pub loop-later-preserved : goal.loop-later-preserved
loop-later-preserved c = later_again _ c.args.self.now.read _ _ c.loop-later.invariant c.places_meet.ensures c.if-places_meet.false

pub returns : goal.returns
returns c = later_ends _ c.args.self.now.read _ _ c.loop-later.invariant (omega arith)
