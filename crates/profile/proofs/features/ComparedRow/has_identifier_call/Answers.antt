-- `has_identifier_call` meets its contract. Assumes nothing.
use Rattle.std.proofs.Common.{rules}
use Rattle.profile.specs.Profile.{has_identifier_call}
use Rattle.profile.proofs.features.ComparedRow.has_identifier_call.Goals as goal

pub returns : goal.returns
unfolding has_identifier_call
returns c = c.some_token.ensures.says _ (λ at inside b tested. search rules)
