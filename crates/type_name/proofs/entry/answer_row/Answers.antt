-- `answer_row` meets its contract. Assumes nothing.
use native.Mathlib.Omega.{arith}
use Rattle.type_name.specs.Laws.FinalBuffer.{told_fits, told_settled}
use Rattle.type_name.proofs.entry.answer_row.Goals as goal

pub settle-requires : goal.settle-requires
settle-requires c = told_fits c.read_checked-answer.ensures

pub returns : goal.returns
returns c = record { answered = c.read_checked-answer.ensures.answered; buffered = told_settled c.read_checked-answer.ensures c.args.tree.now (omega arith) c.settle.ensures }
