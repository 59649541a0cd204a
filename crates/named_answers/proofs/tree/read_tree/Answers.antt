-- `read_tree` meets its contract. Assumes nothing.
use native.Mathlib.Omega.{arith}
use Rattle.std.proofs.lemmas.Result.{err_from_is_err_and}
use Rattle.type_name.specs.Laws.Entry.{scan_refused, scan_passed}
use Rattle.named_answers.specs.Laws.Entry.{named_refused, named_parsed}
use Rattle.named_answers.proofs.tree.read_tree.Goals as goal

pub prescan_row-requires : goal.prescan_row-requires
prescan_row-requires c = (omega (arith, c.requires.few), omega (arith, c.requires.few, c.requires.room))

pub returns-in_err-prescan_row : goal.returns-in_err-prescan_row
returns-in_err-prescan_row c = let p = err_from_is_err_and c.from_residual.result c.from_residual.ensures.1 in rw (p.1, p.2) (named_refused c.args.named.now c.args.allowance c.args.kinds.now (scan_refused c.in_err-prescan_row.was c.prescan_row.ensures))

pub parse_named-requires : goal.parse_named-requires
parse_named-requires c = (c.requires.few, omega (arith, c.requires.room))

pub returns : goal.returns
returns c = named_parsed c.args.named.now c.args.allowance c.args.kinds.now c.requires.known (scan_passed c.in_ok-prescan_row.was c.prescan_row.ensures) c.parse_named.ensures
