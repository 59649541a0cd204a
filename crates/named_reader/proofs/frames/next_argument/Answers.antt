-- `next_argument` meets its contract. Assumes nothing.
use native.Mathlib.Omega.{arith}
use mathlib.Core.Path.{refl}
use Rattle.reader.specs.Nodes.{number}
use Rattle.named_reader.specs.Laws.Places.{list_placed, argument_closed}
use Rattle.named_reader.proofs.frames.next_argument.Goals as goal

pub overflow_sub-argument : goal.overflow_sub-argument
overflow_sub-argument c = omega (arith, list_placed c.requires.0)

pub node_extent-list-requires : goal.node_extent-list-requires
node_extent-list-requires c = omega (arith, list_placed c.requires.0)

pub overflow_sub-nodes : goal.overflow_sub-nodes
overflow_sub-nodes c = omega (arith, list_placed c.requires.0)

pub put_extent-requires : goal.put_extent-requires
put_extent-requires c = (omega (arith, list_placed c.requires.0), omega (arith, c.requires.1.small))

pub append_node-requires : goal.append_node-requires
append_node-requires c = (record { room = omega (arith, c.requires.1.room, c.put_extent.auto.tree); small = c.requires.1.small }, c.requires.2, omega (arith, list_placed c.requires.0, c.node_extent-list.ensures.value, c.requires.1.small))

pub returns : goal.returns
unfolding number
returns c = argument_closed c.requires.0 _ _ 0 refl c.node_extent-list.ensures.value c.args.at _ _ refl refl (rw (← c.put_extent.ensures) c.append_node.ensures.front)
