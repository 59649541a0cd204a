-- The template that a tree begins with, counted from the full tree: document 02, C-15.
-- Assumes nothing.
use Rattle.std.specs.Prelude.{ℕ, suc, ◌+◌, Bool, ◌&&◌, if◌then◌else◌}
use Rattle.std.proofs.Math.Bool.{false}
use mathlib.Core.List.{List, [], ◌∷◌}
use Rattle.std.proofs.Math.ListN.{length}
use Rattle.std.proofs.Math.Dec.{eqb}
use Rattle.rows.specs.Kinds.{Identifier}
use Rattle.reader.specs.Nodes.{NodeKind, t_node, l_node, number, Nodes, none, node, count}
use Rattle.reader.specs.Reading.{kind_at}
use Rattle.type_nodes.specs.Nodes.{next, arguments_of}
use Rattle.type_nodes.specs.Stands.{below}

-- The node numbers of a level whose first node has number `from`: a node's subtree stands before the node after it.
unfoldable pub node_numbers : (from : ℕ) → Nodes → List ℕ
unfolding count
node_numbers from none = []
node_numbers from (node k i b x) = from ∷ node_numbers (from + suc (count b)) x

-- The first node is a list.
unfoldable pub list_first : Nodes → Bool
unfolding number
list_first none = false
list_first (node k i b x) = eqb (number k) (number l_node)

-- Of a row with these token kinds:
module _ (kinds : List ℕ) where
  -- A node is a word: a T of an identifier.
  unfoldable pub is_word : NodeKind → (token : ℕ) → Bool
  unfolding number kind_at
  is_word k i = eqb (number k) (number t_node) && eqb (kind_at kinds i) Identifier

  -- The first node is a word.
  unfoldable pub word_first : Nodes → Bool
  unfolding is_word
  word_first none = false
  word_first (node k i b x) = is_word k i

  -- "Does an accepted tree begin with a word followed by a list,
  unfoldable pub begins_with_list : Nodes → Bool
  unfolding word_first list_first next
  begins_with_list x = word_first x && list_first (next x)

  -- and how many arguments has it?" None where it does not begin so.
  unfoldable pub outer_arguments : Nodes → ℕ
  unfolding begins_with_list arguments_of below
  outer_arguments x = if begins_with_list x then length (arguments_of (below (next x))) else 0

  -- "The list's argument nodes": behind "the first two nodes", which have numbers 0 and 1.
  unfoldable pub argument_nodes : Nodes → List ℕ
  unfolding begins_with_list node_numbers below
  argument_nodes x = if begins_with_list x then node_numbers 2 (below (next x)) else []
