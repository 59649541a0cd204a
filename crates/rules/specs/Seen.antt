-- The top-level nodes of a tree as rules see them: document 02, C-11.
-- Assumes nothing.
use Rattle.std.specs.Prelude.{List, [], ◌∷◌, get_or, eqb, if◌then◌else◌}
use Rattle.rows.specs.Kinds.{Identifier, NoToken}
use Rattle.rows.specs.Records.{RowToken}
use Rattle.reader.specs.Nodes.{NodeKind, t_node, g_node, b_node, l_node, a_node, Nodes, none, node}
use Rattle.rules.specs.Rules.{Node, word_node, kind_node, group_node, list_node}

-- "a T of a given word, a T of a given kind other than 0".
unfoldable pub token_seen : RowToken → Node
token_seen t = if eqb t.kind Identifier then word_node t.word else kind_node t.kind

-- "a group (parentheses or brackets), a list". An A stands below an L alone, never among the top-level nodes: it is seen as its list.
unfoldable pub node_seen : NodeKind → RowToken → Node
unfolding token_seen
node_seen t_node t = token_seen t
node_seen g_node t = group_node
node_seen b_node t = group_node
node_seen l_node t = list_node
node_seen a_node t = list_node

-- Stands where a row has no token; no node of its tree names one.
abbrev pub no_row_token : RowToken
no_row_token = record { place = 0; kind = NoToken; word = [] }

-- "the top-level nodes".
unfoldable pub seen : (row : List RowToken) → Nodes → List Node
unfolding node_seen
seen row none = []
seen row (node k i b x) = node_seen k (get_or row i no_row_token) ∷ seen row x
