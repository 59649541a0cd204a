-- `take_angle_close` meets its contract. Assumes nothing.
use Rattle.std.proofs.Common.{add-one}
use Rattle.reader.specs.ReaderSays.{closed_at, closed_half}
use Rattle.reader.proofs.parser.ParsedRow.take_angle_close.Goals as goal

pub returns-then-parser : goal.returns-then-parser
unfolding closed_at closed_half
returns-then-parser c = rw c.if-parser.true

pub returns : goal.returns
unfolding closed_at closed_half
returns c = rw (c.if-parser.false, c.kind_at.ensures, add-one)
