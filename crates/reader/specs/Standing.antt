-- How deep a tree nests, and where its nodes stand: document 01, "Node record", its last sentences, and demand 3.
-- Assumes nothing.
use Rattle.std.specs.Prelude.{ℕ, suc, ◌+◌, ◌<◌, max, ◌≡◌, ◌⊎◌, List, [], ◌∷◌, ◌++◌, eqb, if◌then◌else◌}
use Rattle.reader.specs.Nodes.{NodeKind, t_node, g_node, b_node, l_node, a_node, Nodes, none, node, number, kind_of, extent_of}

-- "Level and nesting count G, B and L, not A."
unfoldable pub deeper : NodeKind → ℕ → ℕ
deeper t_node d = d
deeper g_node d = suc d
deeper b_node d = suc d
deeper l_node d = suc d
deeper a_node d = d

-- "A tree nests as deep as the most G, B and L on one path from the top level down, the last one included."
unfoldable pub depth : Nodes → ℕ
unfolding deeper
depth none = 0
depth (node k i b x) = max (deeper k (depth b)) (depth x)

-- The tokens of a tree's nodes of one kind, parents first: demand 3's "every `(` has exactly one G".
unfoldable pub tokens_of : NodeKind → Nodes → List ℕ
unfolding number
tokens_of k none = []
tokens_of k (node k' i b x) =
    let rest = tokens_of k b ++ tokens_of k x in
    if eqb (number k) (number k') then i ∷ rest else rest

-- The numbers of a row's tokens of one kind, counted from `at`.
unfoldable pub tokens_of_kind : (kind at : ℕ) → (kinds : List ℕ) → List ℕ
tokens_of_kind k at [] = []
tokens_of_kind k at (k' ∷ ks) =
    let rest = tokens_of_kind k (suc at) ks in
    if eqb k k' then at ∷ rest else rest

-- ---- of node number n in a list of node records

-- Node m stands **below** node n: "Below a node stands its subtree without the node itself."
abbrev pub Below : (records : List ℕ) (n m : ℕ) → Type 0
Below records n m = (n < m) × (m < n + extent_of records n)

-- Node n is a G or a B: demand 3's "no other G or B".
abbrev pub IsGroup : (records : List ℕ) (n : ℕ) → Type 0
IsGroup records n = (kind_of records n ≡ number g_node) ⊎ (kind_of records n ≡ number b_node)
