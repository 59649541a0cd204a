-- `first_difference` meets its contract. Assumes nothing.
use mathlib.Core.Path.{◌≡◌, ◌∙◌}
use native.Mathlib.Omega.{arith}
use lib.ListN.{length}
use Rattle.replay.specs.Laws.Comparing.{comparing_start, comparing_on, comparing_found, comparing_end}
use Rattle.replay.proofs.compare.first_difference.Goals as goal

pub loop-at-init : goal.loop-at-init
loop-at-init c = comparing_start _ _

pub returns-then-expected-at : goal.returns-then-expected-at
returns-then-expected-at c = record { value = comparing_found _ _ c.loop-at.invariant (omega arith) (omega arith) c.if-expected-at.true; within = omega arith }

pub loop-at-preserved : goal.loop-at-preserved
loop-at-preserved c = comparing_on _ _ c.loop-at.invariant (omega arith) (omega arith) c.if-expected-at.false

pub returns : goal.returns
returns c = let whole : length c.args.expected.now ≡ c.loop-at.at = omega (arith, c.loop-at.invariant.within) in record { value = whole ∙ comparing_end _ _ c.loop-at.invariant (omega arith); within = omega arith }
