-- `answer_named` meets its contract. Assumes nothing.
use native.Mathlib.Omega.{arith}
use Rattle.named_answers.specs.Laws.Entry.{named_fits, named_settles}
use Rattle.named_answers.proofs.entry.answer_named.Goals as goal

pub settle-requires : goal.settle-requires
settle-requires c = named_fits c.requires c.read_checked-answer.ensures

pub returns : goal.returns
returns c = named_settles c.requires c.read_checked-answer.ensures (omega arith) c.settle.ensures
