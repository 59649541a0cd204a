-- `is_argument` meets its contract. Assumes nothing.
use mathlib.Core.Path.{refl}
use Rattle.reader.specs.Nodes.{number}
use Rattle.outer.specs.ByExtents.{is_argument}
use Rattle.outer.proofs.arguments.is_argument.Goals as goal

pub returns : goal.returns
unfolding is_argument number
returns c = rw (c.node_kind.ensures, c.node_extent-extent.ensures.value) refl
