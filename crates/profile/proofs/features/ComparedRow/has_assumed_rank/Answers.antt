-- `has_assumed_rank` meets its contract. Assumes nothing.
use Rattle.std.proofs.Common.{rules}
use Rattle.profile.specs.Profile.{has_assumed_rank}
use Rattle.profile.proofs.features.ComparedRow.has_assumed_rank.Goals as goal

pub returns : goal.returns
unfolding has_assumed_rank
returns c = c.some_token.ensures.says _ (λ at inside b tested. search rules)
