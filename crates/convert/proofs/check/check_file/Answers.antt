-- `check_file` meets its contract. Assumes nothing.
use mathlib.Core.Path.{sym, ap, ◌∙◌}
use Rattle.std.proofs.lemmas.Result.{err_from_is_err_and}
use native.Mathlib.Omega.{arith}
use Rattle.convert.specs.ConvertSays.{checked_in}
use Rattle.convert.specs.Laws.Back.{head_is}
use Rattle.convert.specs.Laws.CheckLoop.{head_refused, head_formed}
use Rattle.convert.proofs.check.check_file.Goals as goal

pub check_records-requires : goal.check_records-requires
check_records-requires c = omega (arith, c.requires, (head_is c.args.format _ _ (sym c.read_head.ensures ∙ c.in_ok-read_head.was)).short)

pub returns-in_err-read_head : goal.returns-in_err-read_head
returns-in_err-read_head c = let p = err_from_is_err_and c.from_residual.result c.from_residual.ensures.1 in rw (p.1, p.2) (head_refused c.args.format _ (sym c.read_head.ensures ∙ c.in_err-read_head.was))

pub returns : goal.returns
returns c = c.check_records.ensures ∙ ap checked_in (sym (head_formed c.args.format _ (sym c.read_head.ensures ∙ c.in_ok-read_head.was)))
