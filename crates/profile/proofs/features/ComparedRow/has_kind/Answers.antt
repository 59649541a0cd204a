-- `has_kind` meets its contract. Assumes nothing.
use Rattle.std.proofs.Common.{rules}
use Rattle.profile.specs.Profile.{has_kind}
use Rattle.profile.proofs.features.ComparedRow.has_kind.Goals as goal

pub returns : goal.returns
unfolding has_kind
returns c = c.some_token.ensures.says _ (λ at inside b tested. search rules)
