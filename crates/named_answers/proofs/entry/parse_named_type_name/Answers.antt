-- `parse_named_type_name` meets its contract. Assumes nothing.
use native.Mathlib.Omega.{arith}
use lib.ListN.{length-take}
use Rattle.std.proofs.lemmas.Result.{err_from_is_err_and}
use Rattle.type_name.specs.Laws.EntryFile.{counted, file_refused, file_taken}
use Rattle.named_answers.specs.Laws.Entry.{untouched_answer, untouched_buffer, taken_held, taken_answer, taken_buffer}
use Rattle.named_answers.specs.Laws.NamedPromised.{named_promised}
use Rattle.named_answers.proofs.entry.parse_named_type_name.Goals as goal

pub read_file-requires : goal.read_file-requires
read_file-requires c = record { for_kinds = omega arith; for_words = omega arith }

pub slice_bounds-kinds-end : goal.slice_bounds-kinds-end
slice_bounds-kinds-end c = let k = counted (file_taken c.in_ok-head.was c.read_file.ensures) in omega arith

pub slice_bounds-answer_named-end : goal.slice_bounds-answer_named-end
slice_bounds-answer_named-end c = let k = counted (file_taken c.in_ok-head.was c.read_file.ensures) in simp length-take (omega arith)

pub slice_bounds-words-end : goal.slice_bounds-words-end
slice_bounds-words-end c = let k = counted (file_taken c.in_ok-head.was c.read_file.ensures) in omega arith

pub slice_bounds-answer_named-end-2 : goal.slice_bounds-answer_named-end-2
slice_bounds-answer_named-end-2 c = let k = counted (file_taken c.in_ok-head.was c.read_file.ensures) in simp length-take (omega arith)

pub answer_named-requires : goal.answer_named-requires
answer_named-requires c = taken_held c.args.file.now c.args.names.now c.args.tree.now (file_taken c.in_ok-head.was c.read_file.ensures)

pub returns-in_err-head : goal.returns-in_err-head
returns-in_err-head c =
    let p = err_from_is_err_and c.from_residual.result c.from_residual.ensures.1 in
    rw (p.1, p.2) (let answered = untouched_answer c.args.file.now c.args.names.now c.args.tree.now (file_refused c.in_err-head.was c.read_file.ensures) in
    let buffered = untouched_buffer c.args.file.now c.args.names.now c.args.tree.now (file_refused c.in_err-head.was c.read_file.ensures) in record { answered = answered; buffered = buffered; promised = named_promised _ _ _ _ _ answered buffered })

pub returns : goal.returns
returns c = let answered = taken_answer c.args.file.now c.args.names.now c.args.tree.now (file_taken c.in_ok-head.was c.read_file.ensures) c.answer_named.ensures in
    let buffered = taken_buffer c.args.file.now c.args.names.now c.args.tree.now (file_taken c.in_ok-head.was c.read_file.ensures) c.answer_named.ensures in record { answered = answered; buffered = buffered; promised = named_promised _ _ _ _ _ answered buffered }
