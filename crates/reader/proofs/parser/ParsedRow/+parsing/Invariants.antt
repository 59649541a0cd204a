-- The proof of the cycle of `parse_group`, `parse_node` and `parse_template_arguments`. The measure is two for each token left, and one for a level.
-- Assumes nothing.
use Prim.Native.Nat.{◌+◌, ◌*◌, ◌-◌}
use lib.ListN.{length}
use Rattle.reader.specs.Tables.{region_of}
use Rattle.reader.specs.Laws.GroupWays.{GroupLoop}
use Rattle.reader.specs.Laws.ListWays.{ArgumentsLoop, NodesLoop}
use Rattle.reader.proofs.parser.ParsedRow.+parsing.Given as goal

abbrev pub decreases-parse_group : goal.decreases-parse_group
decreases-parse_group l = 2 * (length l.self.now.kinds.now - l.parser.cursor) + 1

abbrev pub decreases-parse_node : goal.decreases-parse_node
decreases-parse_node l = 2 * (length l.self.now.kinds.now - l.parser.cursor)

abbrev pub decreases-parse_template_arguments : goal.decreases-parse_template_arguments
decreases-parse_template_arguments l = 2 * (length l.self.now.kinds.now - l.parser.cursor) + 1

abbrev pub invariant-parse_group-loop-tree : goal.invariant-parse_group-loop-tree
invariant-parse_group-loop-tree l = GroupLoop l.self.cpp l.kinds l.initial.tree (region_of l.end) l.lists l.nesting l.initial.now l.tree l.now l.after_identifier l.nodes

abbrev pub decreases-parse_group-loop-tree : goal.decreases-parse_group-loop-tree
decreases-parse_group-loop-tree l = length l.kinds - l.now.cursor

abbrev pub invariant-parse_template_arguments-nodes : goal.invariant-parse_template_arguments-nodes
invariant-parse_template_arguments-nodes l = NodesLoop l.self.cpp l.kinds l.lists l.nesting l.head l.initial.tree l.initial.now l.tree l.now l.after_identifier l.inner

abbrev pub decreases-parse_template_arguments-nodes : goal.decreases-parse_template_arguments-nodes
decreases-parse_template_arguments-nodes l = length l.kinds - l.now.cursor

abbrev pub invariant-parse_template_arguments-arguments : goal.invariant-parse_template_arguments-arguments
invariant-parse_template_arguments-arguments l = ArgumentsLoop l.self.cpp l.kinds l.initial.tree l.lists l.nesting l.initial.now l.tree l.now l.nodes

abbrev pub decreases-parse_template_arguments-arguments : goal.decreases-parse_template_arguments-arguments
decreases-parse_template_arguments-arguments l = length l.kinds - l.now.cursor
