-- `begin_group` meets its contract. Assumes nothing.
use native.Mathlib.Omega.{arith}
use mathlib.Core.Path.{refl}
use Rattle.named_reader.specs.Laws.Moves.{inner_begun}
use Rattle.named_reader.specs.Laws.Begun.{group_spent, group_deep, group_done}
use Rattle.named_reader.proofs.frames.begin_group.Goals as goal

pub returns-then-reader-eq0 : goal.returns-then-reader-eq0
returns-then-reader-eq0 c = group_spent c.args.delimiter c.args.at c.if-reader-eq0.true

pub returns-then-reader-ge-MAX_NESTING_DEPTH : goal.returns-then-reader-ge-MAX_NESTING_DEPTH
returns-then-reader-ge-MAX_NESTING_DEPTH c = group_deep c.args.delimiter c.args.at _ c.if-reader-eq0.false refl (omega arith)

pub append_node-requires : goal.append_node-requires
append_node-requires c = (c.requires.1, c.requires.2, omega (arith, inner_begun c.requires.0.stands, c.requires.1.small))

pub returns : goal.returns
returns c = group_done c.args.delimiter c.args.at _ _ _ c.if-reader-eq0.false refl (omega arith) c.group_kind.ensures refl c.append_node.ensures.front
