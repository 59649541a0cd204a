-- `read_row` meets its contract. Assumes nothing.
use native.Mathlib.Omega.{arith}
use Rattle.rows.specs.Laws.RowFacts.{malformed_inside}
use Rattle.rows.specs.Laws.RowEnd.{taken_there, malformed_there, row_ends, row_too_long, row_malformed}
use Rattle.rows.proofs.row.read_row.Goals as goal

pub overflow_cast-result : goal.overflow_cast-result
overflow_cast-result c = omega (arith, malformed_inside c.args.format _ _ _ _ (malformed_there c.in-Err.is c.read_records-read.ensures), c.requires.offsets_fit)

pub returns-then-next-file : goal.returns-then-next-file
returns-then-next-file c = record { answered = row_too_long (taken_there c.in-Ok.is c.read_records-read.ensures) c.if-next-file.true }

pub returns-in-Err : goal.returns-in-Err
returns-in-Err c = record { answered = row_malformed c.args.format _ _ _ (malformed_there c.in-Err.is c.read_records-read.ensures) }

pub returns-else-next-file : goal.returns-else-next-file
returns-else-next-file c = record { answered = row_ends (taken_there c.in-Ok.is c.read_records-read.ensures) c.if-next-file.false }
