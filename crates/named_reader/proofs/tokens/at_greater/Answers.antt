-- `at_greater` meets its contract. Assumes nothing.
use native.Mathlib.Omega.{arith}
use Rattle.named_reader.specs.Laws.AtToken.{held_list, in_list_is, greater_none, greater_empty, greater_closes}
use Rattle.named_reader.proofs.tokens.at_greater.Goals as goal

pub returns-then-not-in_list : goal.returns-then-not-in_list
returns-then-not-in_list c = greater_none c.args.at c.if-not-in_list.true c.in_list.ensures c.take_plain.ensures

pub returns-then-reader : goal.returns-then-reader
returns-then-reader c = greater_empty c.args.at c.if-not-in_list.false c.in_list.ensures c.if-reader.true

pub close_list-requires : goal.close_list-requires
close_list-requires c = (held_list c.requires.0 (in_list_is c.if-not-in_list.false c.in_list.ensures), omega (arith, c.requires.1.small))

pub returns : goal.returns
returns c = greater_closes c.args.at c.if-not-in_list.false c.in_list.ensures c.if-reader.false c.close_list.ensures
