-- `parse_type_name` meets its contract: the three demands. Assumes nothing.
use Rattle.std.proofs.lemmas.Result.{err_from_is_err_and}
use native.Mathlib.Omega.{arith}
use mathlib.Core.Path.{refl}
use lib.ListN.{length-take}
use Rattle.type_name.specs.Laws.EntryFile.{file_refused, file_taken, counted, row_ready, untouched_told, row_told}
use Rattle.type_name.proofs.entry.parse_type_name.Goals as goal

pub read_file-requires : goal.read_file-requires
read_file-requires c = record { for_kinds = omega arith; for_words = omega arith }

pub slice_bounds-kinds-end : goal.slice_bounds-kinds-end
slice_bounds-kinds-end c = let k = counted (file_taken c.in_ok-head.was c.read_file.ensures) in omega arith

pub slice_bounds-answer_row-end : goal.slice_bounds-answer_row-end
slice_bounds-answer_row-end c = let k = counted (file_taken c.in_ok-head.was c.read_file.ensures) in simp length-take (omega arith)

pub slice_bounds-words-end : goal.slice_bounds-words-end
slice_bounds-words-end c = let k = counted (file_taken c.in_ok-head.was c.read_file.ensures) in omega arith

pub slice_bounds-answer_row-end-2 : goal.slice_bounds-answer_row-end-2
slice_bounds-answer_row-end-2 c = let k = counted (file_taken c.in_ok-head.was c.read_file.ensures) in simp length-take (omega arith)

pub answer_row-requires : goal.answer_row-requires
answer_row-requires c = row_ready (file_taken c.in_ok-head.was c.read_file.ensures) refl

pub returns-in_err-head : goal.returns-in_err-head
returns-in_err-head c = let p = err_from_is_err_and c.from_residual.result c.from_residual.ensures.1 in rw (p.1, p.2) (let q = untouched_told c.args.file.now c.args.tree.now (file_refused c.in_err-head.was c.read_file.ensures) in record { answered = q.answered; numbered = q.numbered; buffered = q.buffered; tree_defined = q.tree_defined; nested = q.nested; brackets_paired = q.brackets_paired; written_out = q.written_out; stable = q.stable })

pub returns : goal.returns
returns c = let p = row_told c.args.file.now c.args.tree.now (file_taken c.in_ok-head.was c.read_file.ensures) c.answer_row.ensures.answered c.answer_row.ensures.buffered in
    record { answered = p.answered; numbered = p.numbered; buffered = p.buffered; tree_defined = p.tree_defined; nested = p.nested; brackets_paired = p.brackets_paired; written_out = p.written_out; stable = p.stable }
