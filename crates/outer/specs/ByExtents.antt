-- The same by extents, of any numbers: document 02, C-15. A node that is cut off is past the buffer; token numbers are not looked at.
-- Assumes nothing.
use Prim.Native.Nat.{ℕ, zero, suc, ◌+◌, ◌*◌, ◌-◌}
use Rattle.std.specs.Prelude.{Bool, ◌&&◌, List, length, if◌then◌else◌}
use Rattle.std.proofs.Math.Dec.{eqb, leb}
use Rattle.reader.specs.Nodes.{t_node, l_node, a_node, number, node_width, kind_of, extent_of}

module _ (numbers : List ℕ) where
  -- Not "a word's extent over 1" or 0, nor "a kind other than T .. in its place".
  unfoldable pub word_at_0 : Bool
  unfolding number
  word_at_0 = eqb (kind_of numbers 0) (number t_node) && eqb (extent_of numbers 0) 1

  -- Not "a list of extent 1" or 0, nor an extent "past .. the buffer", nor "a kind other than .. L .. in its place". Of fewer than two whole nodes
  -- no list stands within the buffer.
  unfoldable pub list_at_1 : Bool
  unfolding number
  list_at_1 = eqb (kind_of numbers 1) (number l_node) && leb 2 (extent_of numbers 1) && leb (node_width * (1 + extent_of numbers 1)) (length numbers)

  -- Node number `at`, where `left` nodes of the list are left: not "an extent of 0, or one past its list", nor "a kind other than .. A in its place".
  unfoldable pub is_argument : (at left : ℕ) → Bool
  unfolding number
  is_argument at left = eqb (kind_of numbers at) (number a_node) && leb 1 (extent_of numbers at) && leb (extent_of numbers at) left

  -- The last `left` nodes of the list, from node number `at` on, with `found` arguments before them. The first `inside` of them stand below the last
  -- argument found and are passed over; at the next one an argument must begin.
  unfoldable pub arguments_from : (left inside at found : ℕ) → ℕ
  unfolding is_argument
  arguments_from zero inside at found = found
  arguments_from (suc left) (suc inside) at found = arguments_from left inside (suc at) found
  arguments_from (suc left) zero at found =
      if is_argument at (suc left) then arguments_from left (extent_of numbers at - 1) (suc at) (suc found) else 0

  -- How many arguments the list has that a tree begins with; 0 "means no list".
  unfoldable pub outer_by_extents : ℕ
  unfolding word_at_0 list_at_1 arguments_from
  outer_by_extents = if word_at_0 && list_at_1 then arguments_from (extent_of numbers 1 - 1) 0 2 0 else 0
