-- A tree **written out**: document 01, "Node record": "A tree is written out with every G, B and L between its brackets or angles, ..".
-- Assumes nothing.
use Rattle.std.specs.Prelude.{ℕ, suc, List, [], ◌∷◌, ◌++◌, get_or, eqb, if◌then◌else◌}
use Rattle.rows.specs.Kinds.{LeftParen, RightParen, LeftBracket, RightBracket, Comma, Less, Greater, ShiftRight, NoToken}
use Rattle.reader.specs.Nodes.{t_node, g_node, b_node, l_node, a_node, Nodes, none, node}

-- "What is written, and the row it is compared with, are lists of kinds, with the word at kind 0; spans are left aside."
pub record Token : Type 0 where
  pub kind : ℕ
  pub word : List ℕ

-- The token of a kind that has no word: "with the word at kind 0".
abbrev pub sign : ℕ → Token
sign k = record { kind = k; word = [] }

-- A comma, "between two arguments": where nodes follow.
unfoldable pub comma_before : Nodes → List Token → List Token
comma_before none after = after
comma_before (node k i b x) after = sign Comma ∷ after

-- The tokens that a tree of this row writes: "A T gives its token, an A what its nodes give, and the top-level nodes follow one another."
unfoldable pub written : (row : List Token) → Nodes → List Token
unfolding comma_before
written row none = []
written row (node t_node i b x) = get_or row i (sign NoToken) ∷ written row x
written row (node g_node i b x) = sign LeftParen ∷ written row b ++ sign RightParen ∷ written row x
written row (node b_node i b x) = sign LeftBracket ∷ written row b ++ sign RightBracket ∷ written row x
written row (node l_node i b x) = sign Less ∷ written row b ++ sign Greater ∷ written row x
written row (node a_node i b x) = written row b ++ comma_before x (written row x)

-- Demand 3: "each `>>` in both taken as two `>`".
unfoldable pub halved : List Token → List Token
halved [] = []
halved (t ∷ ts) =
    let rest = halved ts in
    if eqb t.kind ShiftRight then sign Greater ∷ sign Greater ∷ rest else t ∷ rest

-- How often `>` stands in a list of tokens.
unfoldable pub closing_angles : List Token → ℕ
closing_angles [] = 0
closing_angles (t ∷ ts) =
    let rest = closing_angles ts in
    if eqb t.kind Greater then suc rest else rest

-- The list "once every `>` is left out".
unfoldable pub without_closing_angles : List Token → List Token
without_closing_angles [] = []
without_closing_angles (t ∷ ts) =
    let rest = without_closing_angles ts in
    if eqb t.kind Greater then rest else t ∷ rest
