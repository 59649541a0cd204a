-- `type_name_read_list` meets its contract. Assumes nothing.
use mathlib.Core.Path.{refl}
use Rattle.type_list.specs.Laws.Promised.{list_promised}
use Rattle.exports.proofs.list.type_name_read_list.Goals as goal

pub returns : goal.returns
returns c = record { returned = rw (← c.parse_type_list-read.ensures.answered) c.put_list.ensures.returned; written = rw (← c.parse_type_list-read.ensures.answered) c.put_list.ensures.written; promised = list_promised c.args.file.now c.args.tree.now _ _ refl c.parse_type_list-read.ensures.buffered }
