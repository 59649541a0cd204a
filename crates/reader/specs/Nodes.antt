-- Trees and their node records: document 01, "Node record".
-- Assumes nothing.
use Rattle.std.specs.Prelude.{ℕ, suc, ◌+◌, ◌*◌, ◌≤◌, List, [], ◌∷◌, ◌++◌, length, get_or}

-- The kinds of node, by document 01's letters: token T, parentheses G, brackets B, list L, argument A.
pub data NodeKind : Type 0 where
  t_node g_node b_node l_node a_node : NodeKind

-- "Kind (0 token T, 1 parentheses G, 2 brackets B, 3 list L, 4 argument A)".
unfoldable pub number : NodeKind → ℕ
number t_node = 0
number g_node = 1
number b_node = 2
number l_node = 3
number a_node = 4

-- `TypeSyntax`: the nodes of one level, in order. Each has its kind, its token number, the nodes one level below it, and the nodes after it.
pub data Nodes : Type 0 where
  none : Nodes
  node : NodeKind → (token : ℕ) → (below next : Nodes) → Nodes

-- How many nodes there are, those below counted: the "node count" of an answer.
unfoldable pub count : Nodes → ℕ
count none = 0
count (node k i b x) = suc (count b + count x)

-- "Three 32-bit numbers".
abbrev pub node_width : ℕ
node_width = 3

-- Refusal 6: "fewer than 6 numbers per token".
abbrev pub numbers_per_token : ℕ
numbers_per_token = 6

-- The node records, "parents first": kind, token number, extent ("nodes in its subtree, itself included").
unfoldable pub records : Nodes → List ℕ
unfolding count number
records none = []
records (node k i b x) = number k ∷ i ∷ suc (count b) ∷ records b ++ records x

-- ---- the numbers of node number n in a list of node records

-- "Three 32-bit numbers: kind .."
abbrev pub kind_of : (records : List ℕ) (n : ℕ) → ℕ
kind_of records n = get_or records (node_width * n) 0

-- ".. token number .."
abbrev pub token_of : (records : List ℕ) (n : ℕ) → ℕ
token_of records n = get_or records (node_width * n + 1) 0

-- ".. **extent** (nodes in its subtree, itself included)."
abbrev pub extent_of : (records : List ℕ) (n : ℕ) → ℕ
extent_of records n = get_or records (node_width * n + 2) 0

-- A bound of token and node numbers that leaves room for sums of them: a row has at most 1,024 tokens, and a tree two nodes a token.
abbrev pub numbers_bound : ℕ
numbers_bound = 65536

-- Its record is within the list.
abbrev pub Recorded : (records : List ℕ) (n : ℕ) → Type 0
Recorded records n = node_width * suc n ≤ length records
