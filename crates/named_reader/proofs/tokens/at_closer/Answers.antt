-- `at_closer` meets its contract. Assumes nothing.
use native.Mathlib.Omega.{arith}
use Rattle.reader.specs.Nodes.{number}
use Rattle.named_reader.specs.Laws.Moves.{all_held, inner_begun}
use Rattle.named_reader.specs.Laws.AtToken.{held_group, closer_none, closer_list, closer_group, closer_other}
use Rattle.named_reader.proofs.tokens.at_closer.Goals as goal

pub returns-then-reader-eq0 : goal.returns-then-reader-eq0
returns-then-reader-eq0 c = closer_none c.args.delimiter c.if-reader-eq0.true

pub node_kind-kind-requires : goal.node_kind-kind-requires
node_kind-kind-requires c = omega (arith, all_held c.requires.0.stands, inner_begun c.requires.0.stands, c.if-reader-eq0.false)

pub returns-then-kind-eq-ARGUMENT_NODE : goal.returns-then-kind-eq-ARGUMENT_NODE
unfolding number
returns-then-kind-eq-ARGUMENT_NODE c = closer_list c.args.delimiter c.if-reader-eq0.false c.node_kind-kind.ensures c.if-kind-eq-ARGUMENT_NODE.true

pub close_group-requires : goal.close_group-requires
unfolding number
close_group-requires c = (held_group c.requires.0 _ c.node_kind-kind.ensures c.if-reader-eq0.false c.if-kind-eq-ARGUMENT_NODE.false, omega (arith, c.requires.1.small))

pub returns-then-kind-group_kind : goal.returns-then-kind-group_kind
unfolding number
returns-then-kind-group_kind c = closer_group c.args.delimiter c.if-reader-eq0.false c.node_kind-kind.ensures c.if-kind-eq-ARGUMENT_NODE.false c.if-kind-group_kind.true c.group_kind.ensures c.close_group.ensures

pub returns : goal.returns
unfolding number
returns c = closer_other c.args.delimiter c.if-reader-eq0.false c.node_kind-kind.ensures c.if-kind-eq-ARGUMENT_NODE.false c.if-kind-group_kind.false c.group_kind.ensures
