-- `end_row` meets its contract. Assumes nothing.
use mathlib.Core.Path.{refl}
use Rattle.named_reader.specs.Laws.RowLoop.{ends_read, ends_list, ends_group}
use Rattle.named_reader.proofs.parse.end_row.Goals as goal

pub returns-then-reader-eq0 : goal.returns-then-reader-eq0
returns-then-reader-eq0 c = ends_read c.args.allowance _ refl c.if-reader-eq0.true

pub returns-then-in_list : goal.returns-then-in_list
returns-then-in_list c = ends_list c.args.allowance _ refl c.if-in_list.true c.in_list.ensures

pub returns : goal.returns
returns c = ends_group c.args.allowance _ refl c.if-reader-eq0.false c.if-in_list.false c.in_list.ensures
