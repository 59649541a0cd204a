-- `type_name_read_named` meets its contract. Assumes nothing.
use mathlib.Core.Path.{refl}
use Rattle.named_answers.specs.Laws.NamedPromised.{named_promised}
use Rattle.exports.proofs.named.type_name_read_named.Goals as goal

pub returns : goal.returns
returns c = record { returned = rw (← c.parse_named_type_name-read.ensures.answered) c.put_answer.ensures.returned; written = rw (← c.parse_named_type_name-read.ensures.answered) c.put_answer.ensures.written; promised = named_promised c.args.file.now c.args.names.now c.args.tree.now _ _ refl c.parse_named_type_name-read.ensures.buffered }
