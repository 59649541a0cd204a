-- `word_at_0` meets its contract. Assumes nothing.
use mathlib.Core.Path.{refl}
use Rattle.reader.specs.Nodes.{number}
use Rattle.outer.specs.ByExtents.{word_at_0}
use Rattle.outer.proofs.entry.word_at_0.Goals as goal

pub returns : goal.returns
unfolding word_at_0 number
returns c = rw (c.node_kind.ensures, c.node_extent.ensures.value) refl
