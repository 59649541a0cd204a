-- `parse` meets its contract. Assumes nothing.
use mathlib.Core.Logic.{inl, inr}
use Rattle.reader.specs.Laws.GroupWays.{stopped_refused, stopped_spent}
use Rattle.reader.specs.Laws.RowWays.{whole_due, left_some, row_read, row_over, left_denied, row_refused, row_passed}
use Rattle.reader.proofs.parser.parse.Goals as goal
use Rattle.reader.proofs.parser.parse.Goals.{then-next-kinds-via-then-next-kinds, then-next-kinds-via-else-next-kinds+then-next}

pub overflow_sub-steps : goal.overflow_sub-steps
overflow_sub-steps c = left_some _ _ (whole_due _ _ c.new.ensures.0 c.new.ensures.1 c.new.ensures.2) c.in-Ok.ensures.says

pub returns-then-next-kinds : goal.returns-then-next-kinds
returns-then-next-kinds c = record { says = row_over _ _ (whole_due _ _ c.new.ensures.0 c.new.ensures.1 c.new.ensures.2) c.in-Ok.ensures.says (elim c.then-next-kinds.branch [ then-next-kinds-via-then-next-kinds w ↦ inl w.if-next-kinds.true | then-next-kinds-via-else-next-kinds+then-next w ↦ inr w.if-next.true ]) }

pub overflow_sub-result : goal.overflow_sub-result
overflow_sub-result c = left_denied _ _ (whole_due _ _ c.new.ensures.0 c.new.ensures.1 c.new.ensures.2) (stopped_refused c.in-Err-Refused.is c.parse_group-read.ensures (rw c.in-Err-Refused.is at c.in-Err-Refused.field-0-is))

pub returns-else-next : goal.returns-else-next
returns-else-next c = record { says = row_read _ _ (whole_due _ _ c.new.ensures.0 c.new.ensures.1 c.new.ensures.2) c.in-Ok.ensures.says c.if-next-kinds.false c.if-next.false }

pub returns-in-Err-Refused : goal.returns-in-Err-Refused
returns-in-Err-Refused c = record { says = row_refused _ _ (whole_due _ _ c.new.ensures.0 c.new.ensures.1 c.new.ensures.2) (stopped_refused c.in-Err-Refused.is c.parse_group-read.ensures (rw c.in-Err-Refused.is at c.in-Err-Refused.field-0-is)) }

pub returns-in-Err-Spent : goal.returns-in-Err-Spent
returns-in-Err-Spent c = record { says = row_passed _ _ (whole_due _ _ c.new.ensures.0 c.new.ensures.1 c.new.ensures.2) (stopped_spent c.in-Err-Spent.is c.parse_group-read.ensures (rw c.in-Err-Spent.is at c.in-Err-Spent.field-0-is)) }
