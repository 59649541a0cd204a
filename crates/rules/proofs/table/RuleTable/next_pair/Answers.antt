-- `next_pair` meets its contract. The loop's invariant: what comes after the pair handed in is not before the place reached. Assumes nothing.
use native.Mathlib.Omega.{arith}
use Rattle.rules.specs.Laws.Pairs.{pairs_begin, pairs_behind, pair_found, pairs_again, pairs_end}
use Rattle.rules.proofs.table.RuleTable.next_pair.Goals as goal

pub loop-i-init : goal.loop-i-init
loop-i-init c = pairs_begin _ c.args.self.now.read _ _

pub returns-in-Some : goal.returns-in-Some
returns-in-Some c = pair_found _ c.args.self.now.read _ _ (pairs_behind _ c.args.self.now.read _ _ c.loop-i.invariant c.max-begin.ensures) (omega (arith, c.max-begin.ensures)) c.first_later-found.ensures c.in-Some.is

pub loop-i-preserved : goal.loop-i-preserved
loop-i-preserved c = pairs_again _ c.args.self.now.read _ _ (pairs_behind _ c.args.self.now.read _ _ c.loop-i.invariant c.max-begin.ensures) (omega (arith, c.max-begin.ensures)) c.first_later-found.ensures c.in_default.is

pub returns : goal.returns
returns c = pairs_end _ c.args.self.now.read _ _ c.loop-i.invariant (omega arith)
