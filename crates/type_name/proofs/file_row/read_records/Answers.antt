-- `read_records` meets its contract. Assumes nothing.
use Rattle.std.proofs.lemmas.Result.{err_from_is_err_and}
use native.Mathlib.Omega.{arith}
use Rattle.type_name.specs.Laws.FileRow.{head_short, row_refused, row_short, row_fits}
use Rattle.type_name.specs.Laws.EntryFile.{kinds_front, records_refused, records_taken, taken_few, words_front}
use Rattle.type_name.proofs.file_row.read_records.Goals as goal

pub read_row-requires : goal.read_row-requires
read_row-requires c = record { offsets_fit = omega (arith, head_short c.requires.0); for_kinds = c.requires.1.for_kinds; for_words = c.requires.1.for_words; for_places = omega arith }

pub overflow_mul-count : goal.overflow_mul-count
overflow_mul-count c = omega (arith, taken_few (records_taken c.in_ok-count.was (rw c.current.ensures at c.read_row.ensures)))

pub returns-then-room-count : goal.returns-then-room-count
returns-then-room-count c = record { answered = row_short c.args.file.now c.args.room c.args.head c.requires.0.is (records_taken c.in_ok-count.was (rw c.current.ensures at c.read_row.ensures)).is (records_taken c.in_ok-count.was (rw c.current.ensures at c.read_row.ensures)).in_arrays.is_count c.if-room-count.true }

pub returns-in_err-count : goal.returns-in_err-count
returns-in_err-count c = let p = err_from_is_err_and c.from_residual.result c.from_residual.ensures.1 in rw (p.1, p.2) (record { answered = row_refused c.args.file.now c.args.room c.args.head c.requires.0.is (records_refused c.in_err-count.was (rw c.current.ensures at c.read_row.ensures)) })

pub returns : goal.returns
returns c = record { answered = record { taken = (records_taken c.in_ok-count.was (rw c.current.ensures at c.read_row.ensures)).taken; is = row_fits c.args.file.now c.args.room c.args.head c.requires.0.is (records_taken c.in_ok-count.was (rw c.current.ensures at c.read_row.ensures)).is (records_taken c.in_ok-count.was (rw c.current.ensures at c.read_row.ensures)).in_arrays.is_count c.if-room-count.false; is_count = (records_taken c.in_ok-count.was (rw c.current.ensures at c.read_row.ensures)).in_arrays.is_count; kinds_in = kinds_front (records_taken c.in_ok-count.was (rw c.current.ensures at c.read_row.ensures)).in_arrays; words_in = words_front (records_taken c.in_ok-count.was (rw c.current.ensures at c.read_row.ensures)).in_arrays } }
