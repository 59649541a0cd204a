-- `list_at_1` meets its contract. Assumes nothing.
use mathlib.Core.Path.{refl}
use Rattle.reader.specs.Nodes.{number}
use Rattle.outer.specs.ByExtents.{list_at_1}
use Rattle.outer.proofs.entry.list_at_1.Goals as goal

pub returns : goal.returns
unfolding list_at_1 number
returns c = rw (c.node_kind.ensures, c.node_extent-extent.ensures.value) refl
