-- `type_name_read` meets its contract. Assumes nothing.
use mathlib.Core.Path.{refl}
use Rattle.type_name.specs.Laws.Promised.{promised}
use Rattle.exports.proofs.read.type_name_read.Goals as goal

pub returns : goal.returns
returns c = record { returned = rw (← c.parse_type_name-read.ensures.answered) c.put_answer.ensures.returned; written = rw (← c.parse_type_name-read.ensures.answered) c.put_answer.ensures.written; promised = promised c.args.file.now c.args.tree.now _ _ refl c.parse_type_name-read.ensures.buffered }
