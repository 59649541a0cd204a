-- `place_matches` meets its contract. Assumes nothing.
use native.Mathlib.Omega.{arith}
use Rattle.rules.specs.Laws.Pairs.{stands_at, some_at}
use Rattle.rules.specs.Laws.Winners.{place_told}
use Rattle.rules.proofs.table.RuleTable.place_matches.Goals as goal

pub bounds-self-place : goal.bounds-self-place
bounds-self-place c = omega (arith, c.args.self.now.read.room, c.requires.0)

pub overflow_add-begin : goal.overflow_add-begin
overflow_add-begin c = let s = stands_at _ c.args.self.now.read _ c.requires.0 in omega (arith, s.within, s.inside)

pub rule_matches-requires : goal.rule_matches-requires
rule_matches-requires c = (some_at _ c.args.self.now.read _ c.requires.0, c.requires.1)

pub returns : goal.returns
returns c = place_told c.args.self.now.read _ _ _ _ _ _ c.requires.0 c.rule_matches.ensures
