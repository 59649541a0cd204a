-- `has_word_between` meets its contract. The loop's invariant: what is found before this place. Assumes nothing.
use mathlib.Core.Path.{refl}
use native.Mathlib.Omega.{arith}
use lib.ListN.{length}
use Rattle.profile.specs.Profile.{some_below}
use Rattle.profile.specs.Laws.Between.{between, one_more, no_more}
use Rattle.profile.proofs.features.ComparedRow.has_word_between.Goals as goal

pub loop-number-init : goal.loop-number-init
unfolding some_below
loop-number-init c = (omega arith, refl)

pub loop-number-preserved : goal.loop-number-preserved
loop-number-preserved c = (omega arith, rw c.compared-word.ensures (one_more (between c.args.self.now.ignoring c.args.self.now.words.now c.args.least c.args.most) c.loop-number.number-index c.loop-number.found c.loop-number.invariant.1))

pub returns : goal.returns
returns c = no_more (between c.args.self.now.ignoring c.args.self.now.words.now c.args.least c.args.most) c.loop-number.number-index (length c.args.self.now.words.now) c.loop-number.found c.loop-number.invariant.0 (omega arith) c.loop-number.invariant.1
