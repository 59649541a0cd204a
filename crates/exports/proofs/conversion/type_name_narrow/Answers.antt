-- `type_name_narrow` meets its contract. Assumes nothing.
use Rattle.exports.proofs.conversion.type_name_narrow.Goals as goal

pub returns : goal.returns
returns c = record { returned = rw (← c.narrow-answer.ensures.answered) c.put_conversion.ensures.returned; numbered = rw (← c.narrow-answer.ensures.answered) c.put_conversion.ensures.written; written = c.narrow-answer.ensures.written }
