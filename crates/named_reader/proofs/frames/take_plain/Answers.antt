-- `take_plain` meets its contract. Assumes nothing.
use mathlib.Core.Path.{refl}
use Rattle.reader.specs.Nodes.{number}
use Rattle.named_reader.specs.Laws.Begun.{plain_spent, plain_done}
use Rattle.named_reader.proofs.frames.take_plain.Goals as goal

pub returns-then-reader-eq0 : goal.returns-then-reader-eq0
returns-then-reader-eq0 c = plain_spent c.args.at c.if-reader-eq0.true

pub returns : goal.returns
unfolding number
returns c = plain_done c.args.at _ c.if-reader-eq0.false refl c.append_node.ensures.front
