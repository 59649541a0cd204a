-- `mark_names` of a table meets its contract. Assumes nothing.
use Rattle.names.specs.Laws.Tables.{table_there}
use Rattle.names.proofs.table.NameTable.mark_names.Goals as goal

pub mark_names-requires : goal.mark_names-requires
mark_names-requires c = (table_there c.args.self.now.held, c.requires)
