-- `type_name_widen` meets its contract. Assumes nothing.
use Rattle.exports.proofs.conversion.type_name_widen.Goals as goal

pub returns : goal.returns
returns c = record { returned = rw (← c.widen-answer.ensures.answered) c.put_conversion.ensures.returned; numbered = rw (← c.widen-answer.ensures.answered) c.put_conversion.ensures.written; written = c.widen-answer.ensures.written }
