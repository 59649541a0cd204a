-- `put_nodes` meets its contract. Assumes nothing.
use native.Mathlib.Omega.{arith}
use Rattle.listing.specs.Laws.Lines.{listing_start, listing_room, listing_on, listing_end}
use Rattle.listing.proofs.lines.put_nodes.Goals as goal

pub loop-node-init : goal.loop-node-init
loop-node-init c = listing_start

pub put_node-requires : goal.put_node-requires
put_node-requires c = (listing_room c.loop-node.invariant (omega arith) c.requires.0, omega arith)

pub loop-node-preserved : goal.loop-node-preserved
loop-node-preserved c = listing_on c.loop-node.invariant (omega arith) c.put_node.ensures

pub returns : goal.returns
returns c = listing_end c.loop-node.invariant (omega arith)
