-- `close_list` meets its contract. Assumes nothing.
use native.Mathlib.Omega.{arith}
use mathlib.Core.Path.{refl}
use Rattle.named_reader.specs.Laws.Places.{list_placed, list_closed}
use Rattle.named_reader.proofs.frames.close_list.Goals as goal

pub overflow_sub-argument : goal.overflow_sub-argument
overflow_sub-argument c = omega (arith, list_placed c.requires.0)

pub node_extent-list-requires : goal.node_extent-list-requires
node_extent-list-requires c = omega (arith, list_placed c.requires.0)

pub node_extent-outer-requires : goal.node_extent-outer-requires
node_extent-outer-requires c = omega (arith, list_placed c.requires.0, c.node_extent-list.ensures.value)

pub overflow_sub-nodes : goal.overflow_sub-nodes
overflow_sub-nodes c = omega (arith, list_placed c.requires.0)

pub put_extent-requires : goal.put_extent-requires
put_extent-requires c = (omega (arith, list_placed c.requires.0), omega (arith, c.requires.1))

pub overflow_sub-nodes-2 : goal.overflow_sub-nodes-2
overflow_sub-nodes-2 c = omega (arith, list_placed c.requires.0, c.node_extent-list.ensures.value)

pub put_extent-requires-2 : goal.put_extent-requires-2
put_extent-requires-2 c = (omega (arith, list_placed c.requires.0, c.node_extent-list.ensures.value, c.put_extent.auto.tree), omega (arith, c.requires.1))

pub returns : goal.returns
returns c = list_closed c.requires.0 _ _ _ refl c.node_extent-list.ensures.value _ _ _ refl refl refl c.node_extent-outer.ensures.value c.put_extent.ensures c.put_extent-2.ensures
