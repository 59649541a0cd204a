-- What the code is lent of a row to see its tree's nodes as rules do. Document 02, C-11.
-- Assumes nothing.
use Rattle.std.specs.Prelude.{ℕ, ◌≤◌, ◌<◌, ◌≡◌, List, length, get_or, eqb, leb, ltb, if◌then◌else◌}
use Rattle.rows.specs.Kinds.{Identifier, End}
use Rattle.rows.specs.Format.{format}
use Rattle.rows.specs.Records.{RowToken, found, kinds_of, places_of, word_in}
use Rattle.reader.specs.Nodes.{Nodes, none, node}
use Rattle.type_nodes.specs.Shapes.{TemplateArguments}
use Rattle.type_nodes.specs.Stands.{Stands}
use Rattle.rules.specs.Rules.{Node, word_node, kind_node, group_node, list_node}
use Rattle.rules.specs.Seen.{no_row_token, node_seen}

-- A row's kinds and places stand in two arrays, and its words in the file.
pub record RowSeen (file kinds places : List ℕ) (row : List RowToken) : Type 0 where
  pub kinds_are : kinds ≡ kinds_of row
  pub places_are : places ≡ places_of row
  pub known : (i : ℕ) → i < length row → (get_or row i no_row_token).kind ≤ End
  pub words : (i : ℕ) → i < length row → word_in format file (get_or row i no_row_token).place (found format file (get_or row i no_row_token).place) ≡ (get_or row i no_row_token).word

-- Some row's do.
pub record SomeRow (file kinds places : List ℕ) : Type 0 where
  pub row : List RowToken
  pub seen : RowSeen file kinds places row

-- A node by its shape and, at an identifier, its word.
unfoldable pub shape_seen : (s : ℕ) (w : List ℕ) → Node
shape_seen s w =
    if eqb s Identifier then word_node w
    else if leb s End then kind_node s
    else if ltb s TemplateArguments then group_node
    else list_node

-- The first of some nodes as rules see it; where there is none, a group.
unfoldable pub first_seen : (row : List RowToken) → Nodes → Node
unfolding node_seen
first_seen row none = group_node
first_seen row (node k i b x) = node_seen k (get_or row i no_row_token)

-- What a function says of the nodes that stand there and of the row they are of.
pub record OfNodes (file kinds places tree : List ℕ) (from to : ℕ) (P : List RowToken → Nodes → Type 0) : Type 0 where
  pub says : (row : List RowToken) → RowSeen file kinds places row → (x : Nodes) → Stands tree kinds from to x → P row x
