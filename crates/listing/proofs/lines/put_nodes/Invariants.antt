-- `put_nodes` meets its contract. Assumes nothing.
use Rattle.listing.specs.Laws.Lines.{Listing}
use Rattle.listing.proofs.lines.put_nodes.Given as goal

abbrev pub invariant-loop-node : goal.invariant-loop-node
invariant-loop-node l = Listing l.initial.text l.tree l.nodes l.text l.node
