-- `listed_nodes` meets its contract. Assumes nothing.
use native.Mathlib.Omega.{arith}
use Rattle.listing.specs.Listing.{listed}
use Rattle.listing.proofs.lines.listed_nodes.Goals as goal

pub returns : goal.returns
unfolding listed
returns c = omega arith
