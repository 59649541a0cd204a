-- `parse_token` meets its contract. Assumes nothing.
use Rattle.reader.specs.Laws.NodeWays.{token_read_so}
use Rattle.reader.proofs.parser.parse_token.Goals as goal

pub returns : goal.returns
returns c = token_read_so c.put_above.ensures.read c.if-parser-eq0.false c.past-next.ensures c.put_above.ensures.tree
