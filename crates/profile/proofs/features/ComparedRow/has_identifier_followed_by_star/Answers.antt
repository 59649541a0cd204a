-- `has_identifier_followed_by_star` meets its contract. Assumes nothing.
use Rattle.std.proofs.Common.{rules}
use Rattle.profile.specs.Profile.{has_identifier_followed_by_star}
use Rattle.profile.proofs.features.ComparedRow.has_identifier_followed_by_star.Goals as goal

pub returns : goal.returns
unfolding has_identifier_followed_by_star
returns c = c.some_token.ensures.says _ (λ at inside b tested. search rules)
