-- `widen` meets its contract. Assumes nothing.
use mathlib.Core.Path.{sym, ap, ◌∙◌}
use Rattle.std.proofs.lemmas.Result.{err_from_is_err_and}
use native.Mathlib.Omega.{arith}
use lib.ListN.{length}
use Rattle.rows.specs.Format.{old_format}
use Rattle.convert.specs.Conversions.{convert_answer, output_in}
use Rattle.convert.specs.Laws.Entries.{told_few, told_short, told_head, refused_answer, refused_output, widen_refused, widen_counted, widen_sound}
use Rattle.convert.proofs.entry.widen.Goals as goal

pub check_file-requires : goal.check_file-requires
check_file-requires c = rw c.old-from.ensures (omega arith)

pub bounds-file-5 : goal.bounds-file-5
bounds-file-5 c = omega (arith, told_head old_format _ (sym c.in_ok-count.was ∙ (rw c.old-from.ensures at c.check_file.ensures)))

pub overflow_sub-more : goal.overflow_sub-more
overflow_sub-more c = omega (arith, rw c.current-to.ensures at c.token_length.ensures.value, rw c.old-from.ensures at c.token_length-2.ensures.value)

pub overflow_mul-more : goal.overflow_mul-more
overflow_mul-more c = rw (rw c.current-to.ensures at c.token_length.ensures.value, rw c.old-from.ensures at c.token_length-2.ensures.value) (omega (arith, told_few old_format _ (sym c.in_ok-count.was ∙ (rw c.old-from.ensures at c.check_file.ensures))))

pub overflow_add-file : goal.overflow_add-file
overflow_add-file c = rw (rw c.current-to.ensures at c.token_length.ensures.value, rw c.old-from.ensures at c.token_length-2.ensures.value) (omega (arith, told_few old_format _ (sym c.in_ok-count.was ∙ (rw c.old-from.ensures at c.check_file.ensures)), told_short old_format _ (sym c.in_ok-count.was ∙ (rw c.old-from.ensures at c.check_file.ensures))))

pub hand_over-requires : goal.hand_over-requires
hand_over-requires c = rw (c.old-from.ensures, c.current-to.ensures) (widen_counted _ (sym c.in_ok-count.was ∙ (rw c.old-from.ensures at c.check_file.ensures)) (rw (rw c.current-to.ensures at c.token_length.ensures.value, rw c.old-from.ensures at c.token_length-2.ensures.value) (omega arith)))

pub returns-in_err-count : goal.returns-in_err-count
returns-in_err-count c = let q = widen_refused c.args.file.now (length c.args.output.now) (sym c.in_err-count.was ∙ (rw c.old-from.ensures at c.check_file.ensures)) in let p = err_from_is_err_and c.from_residual.result c.from_residual.ensures.1 in rw (p.1, p.2) (record { answered = refused_answer c.args.output.now q; written = refused_output c.args.output.now q })

pub returns : goal.returns
returns c = let q = widen_sound c.args.file.now (sym c.in_ok-count.was ∙ (rw c.old-from.ensures at c.check_file.ensures)) (length c.args.output.now) in record { answered = (rw (c.old-from.ensures, c.current-to.ensures, c.widened_standard-standard.ensures) at c.hand_over.ensures.answered) ∙ ap convert_answer q; written = (rw (c.old-from.ensures, c.current-to.ensures, c.widened_standard-standard.ensures) at c.hand_over.ensures.written) ∙ ap (output_in c.args.output.now) q }
