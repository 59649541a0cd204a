-- `read_parts` meets its contract. The loop's invariant: the trees of the parts so far stand in front of the buffer, and the parts left decide.
-- Assumes nothing.
use Prim.Native.Nat.{◌+◌, ◌-◌}
use mathlib.Core.Path.{◌≡◌}
use lib.ListN.{length}
use Rattle.type_list.specs.Laws.Loop.{PartsLoop}
use Rattle.type_list.proofs.parts.read_parts.Given as goal

abbrev pub invariant-loop-taken : goal.invariant-loop-taken
invariant-loop-taken l = PartsLoop l.head l.kinds l.words l.tree l.taken × (length l.tree ≡ length l.initial.tree)

abbrev pub decreases-loop-taken : goal.decreases-loop-taken
decreases-loop-taken l = length l.kinds + 1 - l.taken.from
