-- `is_name` of a table meets its contract. Assumes nothing.
use Rattle.names.specs.Laws.Tables.{table_there}
use Rattle.names.proofs.table.NameTable.is_name.Goals as goal

pub is_name-requires : goal.is_name-requires
is_name-requires c = table_there c.args.self.now.held
