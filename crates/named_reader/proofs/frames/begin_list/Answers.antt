-- `begin_list` meets its contract. Assumes nothing.
use native.Mathlib.Omega.{arith}
use mathlib.Core.Path.{refl}
use Rattle.reader.specs.Nodes.{number}
use Rattle.named_reader.specs.Laws.Moves.{inner_begun}
use Rattle.named_reader.specs.Laws.Begun.{list_spent, list_deep, list_done}
use Rattle.named_reader.proofs.frames.begin_list.Goals as goal

pub returns-then-reader-eq0 : goal.returns-then-reader-eq0
returns-then-reader-eq0 c = list_spent c.args.at c.if-reader-eq0.true

pub returns-then-reader-ge-MAX_NESTING_DEPTH : goal.returns-then-reader-ge-MAX_NESTING_DEPTH
returns-then-reader-ge-MAX_NESTING_DEPTH c = list_deep c.args.at _ c.if-reader-eq0.false refl (omega arith)

pub append_node-requires : goal.append_node-requires
append_node-requires c = (record { room = omega (arith, c.requires.1.room); small = omega (arith, c.requires.1.small) }, omega (arith, c.requires.2), omega (arith, inner_begun c.requires.0.stands, c.requires.1.small))

pub returns : goal.returns
unfolding number
returns c = list_done _ c.args.at _ _ _ c.if-reader-eq0.false refl (omega arith) refl refl c.append_node.ensures.front c.append_node-2.ensures.front
