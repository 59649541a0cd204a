-- `read_tree` meets its contract. Assumes nothing.
use Rattle.std.proofs.lemmas.Result.{err_from_is_err_and}
use native.Mathlib.Omega.{arith}
use Rattle.type_name.specs.Laws.Entry.{scan_refused, scan_passed, row_tree_refused, row_tree_parsed}
use Rattle.type_name.proofs.tree.read_tree.Goals as goal

pub prescan_row-requires : goal.prescan_row-requires
prescan_row-requires c = (omega (arith, c.requires), omega (arith, c.requires))

pub returns-in_err-prescan_row : goal.returns-in_err-prescan_row
returns-in_err-prescan_row c = let p = err_from_is_err_and c.from_residual.result c.from_residual.ensures.1 in rw (p.1, p.2) (row_tree_refused c.args.language c.args.allowance c.args.kinds.now (scan_refused c.in_err-prescan_row.was c.prescan_row.ensures))

pub parse-requires : goal.parse-requires
parse-requires c = (c.requires.0, omega (arith, c.requires))

pub returns : goal.returns
returns c = row_tree_parsed c.args.language c.args.allowance c.args.kinds.now (scan_passed c.in_ok-prescan_row.was c.prescan_row.ensures) c.parse.ensures
