-- `parse_named` meets its contract. The loop's invariant: code and buffer are the definition's state before token `at`. Assumes nothing.
use native.Mathlib.Omega.{arith}
use mathlib.Core.Path.{refl, ◌∙◌, ap}
use Rattle.std.specs.Prelude.{Err}
use Rattle.named_reader.specs.Laws.RowLoop.{loop_starts, loop_on, loop_refused, loop_spent, loop_ends}
use Rattle.named_reader.proofs.parse.parse_named.Goals as goal

pub loop-at-init : goal.loop-at-init
loop-at-init c = loop_starts c.args.kinds.now c.args.named.now c.args.allowance _

pub returns : goal.returns
returns c = loop_ends c.loop-at.invariant (omega arith) c.end_row.ensures

pub loop-at-preserved : goal.loop-at-preserved
loop-at-preserved c = loop_on c.loop-at.invariant (omega arith) c.take_token.ensures c.in-Ok.is c.take_token.auto.tree

pub returns-in-Err-Refused : goal.returns-in-Err-Refused
returns-in-Err-Refused c = rw c.in-Err-Refused.field-0-is (loop_refused c.loop-at.invariant (omega arith) c.take_token.ensures _ (c.in-Err-Refused.is ∙ ap Err c.in-Err-Refused.field-0-is) refl)

pub returns-in-Err-Spent : goal.returns-in-Err-Spent
returns-in-Err-Spent c = loop_spent c.loop-at.invariant (omega arith) c.take_token.ensures (c.in-Err-Spent.is ∙ ap Err c.in-Err-Spent.field-0-is)
