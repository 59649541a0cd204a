-- `at_shift` meets its contract. Assumes nothing.
use native.Mathlib.Omega.{arith}
use Rattle.named_reader.specs.Laws.AtToken.{held_list, in_list_is, moves_held, shift_none, shift_empty, shift_alone, shift_closes}
use Rattle.named_reader.proofs.tokens.at_shift.Goals as goal

pub returns-then-not-in_list : goal.returns-then-not-in_list
returns-then-not-in_list c = shift_none c.args.at c.if-not-in_list.true c.in_list.ensures c.take_plain.ensures

pub returns-then-reader : goal.returns-then-reader
returns-then-reader c = shift_empty c.args.at c.if-not-in_list.false c.in_list.ensures c.if-reader.true

pub close_list-outer-requires : goal.close_list-outer-requires
close_list-outer-requires c = (held_list c.requires.0 (in_list_is c.if-not-in_list.false c.in_list.ensures), omega (arith, c.requires.1.small))

pub returns-then-not-in_list-2 : goal.returns-then-not-in_list-2
returns-then-not-in_list-2 c = shift_alone c.args.at c.if-not-in_list.false c.in_list.ensures c.if-reader.false c.close_list-outer.ensures c.if-not-in_list-2.true c.in_list-2.ensures

pub close_list-requires : goal.close_list-requires
close_list-requires c = (held_list (moves_held c.requires.0 c.close_list-outer.ensures) (in_list_is c.if-not-in_list-2.false c.in_list-2.ensures), omega (arith, c.requires.1.small, c.close_list-outer.ensures.grown))

pub returns : goal.returns
returns c = shift_closes c.args.at c.if-not-in_list.false c.in_list.ensures c.if-reader.false c.close_list-outer.ensures c.if-not-in_list-2.false c.in_list-2.ensures c.close_list.ensures
