-- The nodes of a level as the structure check sees them: a node's shape, and of an identifier its word number besides. Document 01, "Node record".
-- Assumes nothing.
use Rattle.std.specs.Prelude.{ℕ, Bool, true, false, ◌&&◌, List, [], ◌∷◌, if◌then◌else◌}
use Rattle.std.proofs.Math.ListN.{get_or}
use Rattle.std.proofs.Math.Dec.{eqb}
use Rattle.rows.specs.Kinds.{Identifier, Dot}
use Rattle.rows.specs.Words.{no_word, exactly, ignoring_case}
use Rattle.reader.specs.Nodes.{Nodes, none, node}
use Rattle.type_nodes.specs.Shapes.{NoNode, shape_of}

-- `is_empty`
unfoldable pub empty : Nodes → Bool
empty none = true
empty (node k i b x) = false

-- The nodes after the first: `&nodes[1..]`.
unfoldable pub next : Nodes → Nodes
next none = none
next (node k i b x) = x

-- The arguments of a `TypeSyntax::TemplateArguments`, each as its nodes: those that stand below an L.
unfoldable pub arguments_of : Nodes → List Nodes
arguments_of none = []
arguments_of (node k i b x) = b ∷ arguments_of x

module _ (kinds : List ℕ) where
  -- The shape of the first node: `TypeSyntax`, and of a token its `TokenKind`.
  unfoldable pub shape : Nodes → ℕ
  unfolding shape_of
  shape none = NoNode
  shape (node k i b x) = shape_of k (get_or kinds i NoNode)

  -- `node_identifier`: the word number of the first node if it is an identifier. An identifier that is no known word has `no-word` too, so only the
  -- shape tells whether a node is an identifier.
  unfoldable pub node_identifier : (words : List ℕ) → Nodes → ℕ
  unfolding shape
  node_identifier words none = no_word
  node_identifier words (node k i b x) = if eqb (shape (node k i b x)) Identifier then get_or words i no_word else no_word

  -- Which known word the first node is, exactly: `==` of `node_identifier`.
  abbrev pub exact_word : (words : List ℕ) → Nodes → ℕ
  exact_word words x = exactly (node_identifier words x)

  -- Which known word the first node is with case ignored: `eq_ignore_ascii_case` of `node_identifier`.
  abbrev pub caseless_word : (words : List ℕ) → Nodes → ℕ
  caseless_word words x = ignoring_case (node_identifier words x)

  -- `is_single_token`: one token alone, of kind s.
  unfoldable pub is_single_token : (s : ℕ) → Nodes → Bool
  unfolding shape next empty
  is_single_token s x = eqb (shape x) s && empty (next x)

  -- `is_ellipsis`
  unfoldable pub is_ellipsis : Nodes → Bool
  unfolding shape next empty
  is_ellipsis x = eqb (shape x) Dot && eqb (shape (next x)) Dot && eqb (shape (next (next x))) Dot && empty (next (next (next x)))
