-- `parse_type_list` meets its contract. Assumes nothing.
use native.Mathlib.Omega.{arith}
use mathlib.Core.Path.{refl}
use lib.ListN.{length-take}
use Rattle.std.proofs.lemmas.Result.{err_from_is_err_and}
use Rattle.type_name.specs.Laws.EntryFile.{file_refused, file_taken, counted, row_ready}
use Rattle.type_list.specs.Laws.ListEntry.{untouched_answer, of_row, row_told}
use Rattle.type_list.proofs.entry.parse_type_list.Goals as goal

pub read_file-requires : goal.read_file-requires
read_file-requires c = record { for_kinds = omega arith; for_words = omega arith }

pub slice_bounds-kinds-end : goal.slice_bounds-kinds-end
slice_bounds-kinds-end c = let k = counted (file_taken c.in_ok-head.was c.read_file.ensures) in omega arith

pub slice_bounds-answer_list-end : goal.slice_bounds-answer_list-end
slice_bounds-answer_list-end c = let k = counted (file_taken c.in_ok-head.was c.read_file.ensures) in simp length-take (omega arith)

pub slice_bounds-words-end : goal.slice_bounds-words-end
slice_bounds-words-end c = let k = counted (file_taken c.in_ok-head.was c.read_file.ensures) in omega arith

pub slice_bounds-answer_list-end-2 : goal.slice_bounds-answer_list-end-2
slice_bounds-answer_list-end-2 c = let k = counted (file_taken c.in_ok-head.was c.read_file.ensures) in simp length-take (omega arith)

pub answer_list-requires : goal.answer_list-requires
answer_list-requires c = (row_ready (file_taken c.in_ok-head.was c.read_file.ensures) refl, record { tokens = (file_taken c.in_ok-head.was c.read_file.ensures).taken; are = of_row c.args.file.now c.args.tree.now (file_taken c.in_ok-head.was c.read_file.ensures) })

pub returns-in_err-head-clause-answered : goal.returns-in_err-head-clause-answered
returns-in_err-head-clause-answered c = let p = err_from_is_err_and c.from_residual.result c.from_residual.ensures.1 in rw (p.1, p.2) ((untouched_answer c.args.file.now c.args.tree.now (file_refused c.in_err-head.was c.read_file.ensures)).0)

pub returns-in_err-head-clause-buffered : goal.returns-in_err-head-clause-buffered
returns-in_err-head-clause-buffered c = (untouched_answer c.args.file.now c.args.tree.now (file_refused c.in_err-head.was c.read_file.ensures)).1

pub returns-clause-answered : goal.returns-clause-answered
returns-clause-answered c = (row_told c.args.file.now c.args.tree.now (file_taken c.in_ok-head.was c.read_file.ensures) c.answer_list.ensures).0

pub returns-clause-buffered : goal.returns-clause-buffered
returns-clause-buffered c = (row_told c.args.file.now c.args.tree.now (file_taken c.in_ok-head.was c.read_file.ensures) c.answer_list.ensures).1
