-- What an accepted tree is like around its lists, level by level: document 01, "Node record".
-- Assumes nothing.
use Rattle.std.specs.Prelude.{ℕ, ◌<◌, ◌≡◌, Bool, false, List, T}
use Rattle.reader.specs.Nodes.{NodeKind, t_node, g_node, b_node, l_node, a_node, Nodes, none, node, count}
use Rattle.outer.specs.OuterTemplate.{is_word}

-- All nodes of the level are arguments.
abbrev pub Arguments : Nodes → Type 0
Arguments none = Unit {0}
Arguments (node k i b x) = (k ≡ a_node) × Arguments x

-- The same, and there is one.
abbrev pub SomeArguments : Nodes → Type 0
SomeArguments none = ⊥
SomeArguments (node k i b x) = (k ≡ a_node) × Arguments x

-- A node of this kind has these nodes below it: a T none, an L arguments, an A some, since "an empty argument" makes a try fail; and an L stands
-- behind a word: "a `<` whose left neighbour node is an identifier token is tried as a list".
abbrev pub NodeFormed : NodeKind → (behind_word : Bool) (below : Nodes) → Type 0
NodeFormed t_node behind_word b = b ≡ none
NodeFormed g_node behind_word b = Unit {0}
NodeFormed b_node behind_word b = Unit {0}
NodeFormed l_node behind_word b = T behind_word × SomeArguments b
NodeFormed a_node behind_word b = 0 < count b

-- Of a row with these token kinds:
module _ (kinds : List ℕ) where
  -- All nodes are so, at this level and below; `behind_word`: a word stands before the level's first node.
  abbrev pub Formed : (behind_word : Bool) → Nodes → Type 0
  Formed behind_word none = Unit {0}
  Formed behind_word (node k i b x) = NodeFormed k behind_word b × Formed false b × Formed (is_word kinds k i) x

  -- A tree is so, and has a node.
  pub record TreeFormed (x : Nodes) : Type 0 where
    pub some : 0 < count x
    pub formed : Formed false x
