-- `read_file` meets its contract. Assumes nothing.
use Rattle.std.proofs.lemmas.Result.{err_from_is_err_and}
use mathlib.Core.Path.{sym, ◌∙◌}
use Rattle.type_name.specs.Laws.FileRow.{head_refused}
use Rattle.type_name.proofs.file_row.read_file.Goals as goal

pub returns-in_err-head : goal.returns-in_err-head
returns-in_err-head c = let p = err_from_is_err_and c.from_residual.result c.from_residual.ensures.1 in rw (p.1, p.2) (record { answered = head_refused c.args.file.now c.args.room (sym (rw c.current.ensures at c.read_head.ensures) ∙ c.in_err-head.was) })

pub read_records-requires : goal.read_records-requires
read_records-requires c = (record { is = sym (rw c.current.ensures at c.read_head.ensures) ∙ c.in_ok-head.was }, c.requires)

pub returns : goal.returns
returns c = c.read_records.ensures
