-- `close_group` meets its contract. Assumes nothing.
use native.Mathlib.Omega.{arith}
use mathlib.Core.Path.{refl}
use Rattle.named_reader.specs.Laws.Places.{group_placed, group_shut}
use Rattle.named_reader.proofs.frames.close_group.Goals as goal

pub overflow_sub-group : goal.overflow_sub-group
overflow_sub-group c = omega (arith, group_placed c.requires.0)

pub node_extent-outer-requires : goal.node_extent-outer-requires
node_extent-outer-requires c = omega (arith, group_placed c.requires.0)

pub overflow_sub-nodes : goal.overflow_sub-nodes
overflow_sub-nodes c = omega (arith, group_placed c.requires.0)

pub put_extent-requires : goal.put_extent-requires
put_extent-requires c = (omega (arith, group_placed c.requires.0), omega (arith, c.requires.1))

pub returns : goal.returns
returns c = group_shut c.requires.0 _ _ _ _ refl c.node_extent-outer.ensures.value refl refl c.put_extent.ensures
