-- `has_adjacent_identifiers` meets its contract. Assumes nothing.
use Rattle.std.proofs.Common.{rules}
use Rattle.profile.specs.Profile.{has_adjacent_identifiers}
use Rattle.profile.proofs.features.ComparedRow.has_adjacent_identifiers.Goals as goal

pub returns : goal.returns
unfolding has_adjacent_identifiers
returns c = c.some_token.ensures.says _ (λ at inside b tested. search rules)
