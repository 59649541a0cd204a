-- `kind_is` meets its contract. Assumes nothing.
use mathlib.Core.Path.{ap}
use native.Mathlib.Omega.{arith}
use lib.Dec.{eqb}
use Rattle.rows.specs.Kinds.{NoToken}
use Rattle.rows.specs.Laws.Lookups.{any_default, past_default}
use Rattle.profile.specs.Profile.{kind_is}
use Rattle.profile.proofs.features.ComparedRow.kind_is.Goals as goal

pub returns-then-at-self : goal.returns-then-at-self
unfolding kind_is
returns-then-at-self c = ap (λ k. eqb k c.args.kind) (any_default c.args.self.now.kinds.now c.args.at 0 NoToken (omega arith))

pub returns : goal.returns
unfolding kind_is
returns c = ap (λ k. eqb k c.args.kind) (past_default c.args.self.now.kinds.now c.args.at NoToken (omega arith))
