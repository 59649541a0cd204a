-- `at_comma` meets its contract. Assumes nothing.
use Rattle.named_reader.specs.Laws.AtToken.{held_list, in_list_is, comma_none, comma_empty, comma_ends}
use Rattle.named_reader.proofs.tokens.at_comma.Goals as goal

pub returns-then-not-in_list : goal.returns-then-not-in_list
returns-then-not-in_list c = comma_none c.args.at c.if-not-in_list.true c.in_list.ensures c.take_plain.ensures

pub returns-then-reader : goal.returns-then-reader
returns-then-reader c = comma_empty c.args.at c.if-not-in_list.false c.in_list.ensures c.if-reader.true

pub next_argument-requires : goal.next_argument-requires
next_argument-requires c = (held_list c.requires.0 (in_list_is c.if-not-in_list.false c.in_list.ensures), c.requires.1, c.requires.2)

pub returns : goal.returns
returns c = comma_ends c.args.at c.if-not-in_list.false c.in_list.ensures c.if-reader.false c.next_argument.ensures
