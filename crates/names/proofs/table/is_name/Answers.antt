-- `is_name` meets its contract. Assumes nothing.
use Rattle.names.specs.Laws.Tables.{some_chain, looks}
use Rattle.names.proofs.table.is_name.Goals as goal

pub in_chain-requires : goal.in_chain-requires
in_chain-requires c = some_chain _ c.bucket_of-bucket.ensures.value c.bucket_of-bucket.ensures.small c.from-first.ensures c.requires

pub returns : goal.returns
returns c = looks _ c.bucket_of-bucket.ensures.value c.bucket_of-bucket.ensures.small c.from-first.ensures c.in_chain.ensures
