-- `places_meet` meets its contract. Assumes nothing.
use native.Mathlib.Omega.{arith}
use Rattle.rules.specs.Laws.Pairs.{stands_at, some_at, meet_at}
use Rattle.rules.proofs.table.RuleTable.places_meet.Goals as goal

pub bounds-self-earlier : goal.bounds-self-earlier
bounds-self-earlier c = omega (arith, c.args.self.now.read.room, c.requires.0)

pub bounds-self-later : goal.bounds-self-later
bounds-self-later c = omega (arith, c.args.self.now.read.room, c.requires.1)

pub overflow_add-first : goal.overflow_add-first
overflow_add-first c = let s = stands_at _ c.args.self.now.read _ c.requires.0 in omega (arith, s.within, s.inside)

pub overflow_add-second : goal.overflow_add-second
overflow_add-second c = let s = stands_at _ c.args.self.now.read _ c.requires.1 in omega (arith, s.within, s.inside)

pub rules_meet-requires : goal.rules_meet-requires
rules_meet-requires c = (some_at _ c.args.self.now.read _ c.requires.0, some_at _ c.args.self.now.read _ c.requires.1)

pub returns : goal.returns
returns c = meet_at _ c.args.self.now.read _ _ c.requires.0 c.requires.1 c.rules_meet.ensures
