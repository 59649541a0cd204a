-- Where nodes stand in the node records of a tree: what contracts say of a range of nodes. Document 01, "Node record".
-- Assumes nothing.
use Rattle.std.specs.Prelude.{ℕ, suc, ◌+◌, ◌*◌, ◌≤◌, ◌<◌, ◌≡◌, false, List, length, eqb, if◌then◌else◌, Option, Some, None}
use Rattle.rows.specs.Kinds.{Comma}
use Rattle.reader.specs.Nodes.{NodeKind, number, Nodes, none, node, count, node_width, kind_of, token_of, extent_of, numbers_bound}
use Rattle.type_nodes.specs.Nodes.{empty, shape}
use Rattle.type_nodes.specs.declared.nodes.Node.{Node}

-- The nodes stand in the records from node `from` up to node `to`, and their tokens in the row.
pub data Stands (tree kinds : List ℕ) : (from to : ℕ) → Nodes → Type 0 where
  ends : {a e : ℕ} → a ≡ e → Stands tree kinds a e none
  here : {a e : ℕ} {k : NodeKind} {i : ℕ} {b x : Nodes} → kind_of tree a ≡ number k → token_of tree a ≡ i → extent_of tree a ≡ suc (count b)
      → i < length kinds → Stands tree kinds (suc a) (suc (a + count b)) b → Stands tree kinds (suc (a + count b)) e x → Stands tree kinds a e (node k i b x)

-- Some nodes stand there, inside the tree: what a function requires of a range.
pub record NodesStand (tree kinds : List ℕ) (from to : ℕ) : Type 0 where
  pub nodes : Nodes
  pub stands : Stands tree kinds from to nodes
  pub room : node_width * to ≤ length tree
  pub few : to ≤ numbers_bound

-- What a function says of the nodes that stand there.
abbrev pub Of : (tree kinds : List ℕ) (from to : ℕ) → (Nodes → Type 0) → Type 0
Of tree kinds from to P = (x : Nodes) → Stands tree kinds from to x → P x

-- What stands below the first node.
unfoldable pub below : Nodes → Nodes
below none = none
below (node k i b x) = b

-- The token of the first node.
unfoldable pub token_of_first : Nodes → ℕ
token_of_first none = 0
token_of_first (node k i b x) = i

module _ (kinds : List ℕ) where
  -- The first element between commas, as the code finds it: the nodes before the first comma.
  unfoldable pub first_element : Nodes → Nodes
  first_element none = none
  first_element (node k i b x) = if eqb (shape kinds (node k i b x)) Comma then none else node k i b (first_element x)

  -- The nodes from the first comma on.
  unfoldable pub from_comma : Nodes → Nodes
  from_comma none = none
  from_comma (node k i b x) = if eqb (shape kinds (node k i b x)) Comma then node k i b x else from_comma x

-- The words of the row too.
pub record WordedNodes (tree kinds words : List ℕ) (from to : ℕ) : Type 0 where
  pub nodes_stand : NodesStand tree kinds from to
  pub worded : length words ≡ length kinds

-- What a lookup at a node number finds of the nodes that stand there.
abbrev pub Finds : (kinds : List ℕ) (at : ℕ) → Option Node → Nodes → Type 0
Finds kinds at (Some d) x = (empty x ≡ false) × (d.shape ≡ shape kinds x) × (d.token ≡ token_of_first x) × (d.next ≡ suc (at + count (below x)))
Finds kinds at None x = x ≡ none
