-- `narrow` meets its contract. Assumes nothing.
use mathlib.Core.Path.{sym, ap, ◌∙◌}
use Rattle.std.proofs.lemmas.Result.{err_from_is_err_and}
use native.Mathlib.Omega.{arith}
use lib.ListN.{length}
use Rattle.rows.specs.Format.{format}
use Rattle.convert.specs.Conversions.{convert_answer, output_in}
use Rattle.convert.specs.Laws.Entries.{told_few, told_head, told_long, refused_answer, refused_output, narrow_refused, narrow_over, narrow_long, narrow_counted, narrow_sound}
use Rattle.convert.proofs.entry.narrow.Goals as goal

pub check_file-requires : goal.check_file-requires
check_file-requires c = rw c.current-from.ensures (omega arith)

pub bounds-file-4 : goal.bounds-file-4
bounds-file-4 c = omega (arith, told_head format _ (sym c.in_ok-count.was ∙ (rw c.current-from.ensures at c.check_file.ensures)))

pub bounds-file-5 : goal.bounds-file-5
bounds-file-5 c = omega (arith, told_head format _ (sym c.in_ok-count.was ∙ (rw c.current-from.ensures at c.check_file.ensures)))

pub overflow_sub-less : goal.overflow_sub-less
overflow_sub-less c = omega (arith, rw c.old-to.ensures at c.token_length-2.ensures.value, rw c.current-from.ensures at c.token_length.ensures.value)

pub overflow_mul-bytes : goal.overflow_mul-bytes
overflow_mul-bytes c = rw (rw c.current-from.ensures at c.token_length.ensures.value, rw c.old-to.ensures at c.token_length-2.ensures.value) (omega (arith, told_few format _ (sym c.in_ok-count.was ∙ (rw c.current-from.ensures at c.check_file.ensures))))

pub overflow_sub-bytes : goal.overflow_sub-bytes
overflow_sub-bytes c = rw (rw c.current-from.ensures at c.token_length.ensures.value, rw c.old-to.ensures at c.token_length-2.ensures.value) (omega (arith, told_long format _ (sym c.in_ok-count.was ∙ (rw c.current-from.ensures at c.check_file.ensures))))

pub returns-then-not-narrow : goal.returns-then-not-narrow
returns-then-not-narrow c = let q = narrow_over c.args.file.now (sym c.in_ok-count.was ∙ (rw c.current-from.ensures at c.check_file.ensures)) (length c.args.output.now) c.if-not-narrow.true in record { answered = refused_answer c.args.output.now q; written = refused_output c.args.output.now q }

pub returns-then-limit-bytes : goal.returns-then-limit-bytes
returns-then-limit-bytes c = let q = narrow_long c.args.file.now (sym c.in_ok-count.was ∙ (rw c.current-from.ensures at c.check_file.ensures)) (rw (rw c.current-from.ensures at c.token_length.ensures.value, rw c.old-to.ensures at c.token_length-2.ensures.value) (omega arith)) c.if-not-narrow.false (length c.args.output.now) (rw c.old-to.ensures at c.if-limit-bytes.true) in record { answered = refused_answer c.args.output.now q; written = refused_output c.args.output.now q }

pub hand_over-requires : goal.hand_over-requires
hand_over-requires c = rw (c.old-to.ensures, c.current-from.ensures) (narrow_counted _ (sym c.in_ok-count.was ∙ (rw c.current-from.ensures at c.check_file.ensures)) (rw (rw c.current-from.ensures at c.token_length.ensures.value, rw c.old-to.ensures at c.token_length-2.ensures.value) (omega arith)) c.if-not-narrow.false (rw c.old-to.ensures at c.if-limit-bytes.false))

pub returns-in_err-count : goal.returns-in_err-count
returns-in_err-count c = let q = narrow_refused c.args.file.now (length c.args.output.now) (sym c.in_err-count.was ∙ (rw c.current-from.ensures at c.check_file.ensures)) in let p = err_from_is_err_and c.from_residual.result c.from_residual.ensures.1 in rw (p.1, p.2) (record { answered = refused_answer c.args.output.now q; written = refused_output c.args.output.now q })

pub returns : goal.returns
returns c = let q = narrow_sound c.args.file.now (sym c.in_ok-count.was ∙ (rw c.current-from.ensures at c.check_file.ensures)) (rw (rw c.current-from.ensures at c.token_length.ensures.value, rw c.old-to.ensures at c.token_length-2.ensures.value) (omega arith)) c.if-not-narrow.false (length c.args.output.now) (rw c.old-to.ensures at c.if-limit-bytes.false) in record { answered = (rw (c.old-to.ensures, c.current-from.ensures, c.narrowed_standard-standard.ensures) at c.hand_over.ensures.answered) ∙ ap convert_answer q; written = (rw (c.old-to.ensures, c.current-from.ensures, c.narrowed_standard-standard.ensures) at c.hand_over.ensures.written) ∙ ap (output_in c.args.output.now) q }
