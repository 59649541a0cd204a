-- `put_answer` meets its contract. Assumes nothing.
use Rattle.listing.specs.Laws.Lines.{listing_refused, listing_accepted, nodes_fit}
use Rattle.listing.proofs.lines.put_answer.Goals as goal

pub put_nodes-requires : goal.put_nodes-requires
put_nodes-requires c = nodes_fit _ _ _ _ c.requires c.listed_nodes.ensures c.put_accepted.ensures

pub returns-in-Err-clause-put : goal.returns-in-Err-clause-put
returns-in-Err-clause-put c = rw c.in-Err.is ((listing_refused _ _ _ _ c.requires c.refusal_of.ensures c.put_refused.ensures).0)

pub returns-in-Err-clause-within : goal.returns-in-Err-clause-within
returns-in-Err-clause-within c = (listing_refused _ _ _ _ c.requires c.refusal_of.ensures c.put_refused.ensures).1

pub returns-in-Ok-clause-put : goal.returns-in-Ok-clause-put
returns-in-Ok-clause-put c = rw c.in-Ok.is ((listing_accepted _ _ _ _ c.requires c.listed_nodes.ensures c.put_accepted.ensures c.put_nodes.ensures).0)

pub returns-in-Ok-clause-within : goal.returns-in-Ok-clause-within
returns-in-Ok-clause-within c = (listing_accepted _ _ _ _ c.requires c.listed_nodes.ensures c.put_accepted.ensures c.put_nodes.ensures).1
