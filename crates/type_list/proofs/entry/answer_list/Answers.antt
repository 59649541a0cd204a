-- `answer_list` meets its contract. Assumes nothing.
use native.Mathlib.Omega.{arith}
use Rattle.type_list.specs.Laws.ListEntry.{list_fits, list_settled}
use Rattle.type_list.proofs.entry.answer_list.Goals as goal

pub read_parts-answer-requires : goal.read_parts-answer-requires
read_parts-answer-requires c = c.requires.0

pub settle_list-requires : goal.settle_list-requires
settle_list-requires c = list_fits (c.read_parts-answer.ensures.says c.requires.1.tokens c.requires.1.are)

pub returns : goal.returns
returns c = record { answered = λ ts of. (c.read_parts-answer.ensures.says ts of).answered; buffered = λ ts of. list_settled (c.read_parts-answer.ensures.says ts of) c.args.tree.now (omega arith) c.settle_list.ensures }
