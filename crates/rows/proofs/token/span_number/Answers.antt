-- `span_number` meets its contract. Assumes nothing.
use Rattle.rows.proofs.token.span_number.Goals as goal

pub four_bytes-requires : goal.four_bytes-requires
four_bytes-requires c = rw c.in-Four.is at c.requires

pub eight_bytes-requires : goal.eight_bytes-requires
eight_bytes-requires c = rw c.in-Eight.is at c.requires

pub returns-in-Four : goal.returns-in-Four
returns-in-Four c = rw c.in-Four.is c.four_bytes.ensures.value

pub returns-in-Eight : goal.returns-in-Eight
returns-in-Eight c = rw c.in-Eight.is c.eight_bytes.ensures
