-- Shapes: what a node is to the structure check is one number, the shape of a T the kind of its token; the others have the names of `TypeSyntax`.
-- Document 01, "Node record".
-- Assumes nothing.
use Rattle.std.specs.Prelude.{ℕ}
use Rattle.rows.specs.Kinds.{NoToken}
use Rattle.reader.specs.Nodes.{NodeKind, t_node, g_node, b_node, l_node, a_node}

-- Stands for the shape where there is no node, past the last of a level or before its first: `None` of `nodes.get`.
abbrev pub NoNode : ℕ
NoNode = NoToken

-- `TypeSyntax::Parenthesized`: a G.
abbrev pub Parenthesized : ℕ
Parenthesized = 59

-- `TypeSyntax::Bracketed`: a B.
abbrev pub Bracketed : ℕ
Bracketed = 60

-- `TypeSyntax::TemplateArguments`: an L.
abbrev pub TemplateArguments : ℕ
TemplateArguments = 61

-- One argument of a `TypeSyntax::TemplateArguments`: an A.
abbrev pub TemplateArgument : ℕ
TemplateArgument = 62

-- `kind`: the kind of the node's token.
unfoldable pub shape_of : NodeKind → (kind : ℕ) → ℕ
shape_of t_node kind = kind
shape_of g_node kind = Parenthesized
shape_of b_node kind = Bracketed
shape_of l_node kind = TemplateArguments
shape_of a_node kind = TemplateArgument
