-- What the program `listing` prints: document 01, end of "Rows worked out".
-- Assumes nothing.
use Rattle.rows.specs.Answer.{Answer}
use Rattle.std.specs.Prelude.{ℕ, zero, suc, ◌+◌, ◌*◌, ◌/◌, min, Bool, ◌&&◌, List, [], ◌∷◌, ◌++◌, length, get_or, ltb, if◌then◌else◌, Err, Ok}
use Rattle.rows.specs.Notation.{◌is_one_of◌}
use Rattle.rows.specs.Words.{bytes}
use Rattle.rows.specs.Refusals.{refusal_of}
use Rattle.rows.specs.declared.answer.Refusal.{Refusal}
use Rattle.reader.specs.Nodes.{number, g_node, b_node, l_node, node_width, kind_of, token_of, extent_of}
use Rattle.text.specs.Text.{ended, longest_ended}

-- Between the numbers of a line.
abbrev pub space : ℕ
space = 32

-- At the end of a line.
abbrev pub newline : ℕ
newline = 10

-- The letters of the node kinds 0 to 4; no node has another kind.
unfoldable pub letter : ℕ → ℕ
unfolding bytes
letter kind = get_or (bytes "TGBLA") kind 63

-- "Level and nesting count G, B and L, not A."
unfoldable pub makes_level : ℕ → Bool
unfolding number ◌is_one_of◌
makes_level kind = kind is_one_of (number g_node ∷ number b_node ∷ number l_node ∷ [])

-- A node stands below the earlier node number `above`, which is a G, B or L: the extent counts the nodes of a subtree, itself included.
unfoldable pub stands_below : List ℕ → ℕ → ℕ → Bool
unfolding makes_level
stands_below tree above node = makes_level (kind_of tree above) && ltb node (above + extent_of tree above)

-- How many of the first n nodes a node stands below.
unfoldable pub levels_of : List ℕ → ℕ → ℕ → ℕ
levels_of tree node zero = 0
levels_of tree node (suc n) = levels_of tree node n + (if stands_below tree n node then 1 else 0)

-- "Level (groups and lists above)".
unfoldable pub level : List ℕ → ℕ → ℕ
level tree node = levels_of tree node node

-- "Level, letter, token, extent".
unfoldable pub node_line : List ℕ → ℕ → List ℕ
node_line tree i = ended (level tree i) space ++ (letter (kind_of tree i) ∷ []) ++ (space ∷ []) ++ ended (token_of tree i) space ++ ended (extent_of tree i) newline

-- The lines of the first n nodes.
unfoldable pub node_lines : List ℕ → ℕ → List ℕ
node_lines tree zero = []
node_lines tree (suc n) = node_lines tree n ++ node_line tree n

-- "First line nodes and steps".
unfoldable pub accepted_line : (nodes steps : ℕ) → List ℕ
unfolding bytes
accepted_line nodes steps = bytes "ok " ++ ended nodes space ++ ended steps newline

-- "(Number, token, detail, steps)".
unfoldable pub refused_line : Refusal → (steps : ℕ) → List ℕ
unfolding bytes
refused_line refusal steps =
    bytes "no " ++ ended refusal.number space ++ ended refusal.token space ++ ended refusal.detail space ++ ended steps newline

-- How many nodes are listed: as many as the answer counts, and there are no more than the tree buffer has room for.
unfoldable pub listed : ℕ → List ℕ → ℕ
listed nodes tree = min nodes (length tree / node_width)

-- An answer and the tree buffer, as text.
unfoldable pub listing : Answer → (tree : List ℕ) → List ℕ
listing (Ok a) tree = accepted_line a.nodes a.steps ++ node_lines tree (listed a.nodes tree)
listing (Err r) tree = refused_line (refusal_of r.error) r.steps

-- ---- how long lines get

-- `ok` or `no`, and a space.
abbrev pub opening_length : ℕ
opening_length = 3

-- Nodes and steps.
abbrev pub accepted_line_length : ℕ
accepted_line_length = opening_length + longest_ended + longest_ended

-- Number, token, detail and steps.
abbrev pub refused_line_length : ℕ
refused_line_length = opening_length + longest_ended + longest_ended + longest_ended + longest_ended

-- Level, letter, space, token and extent.
abbrev pub node_line_length : ℕ
node_line_length = longest_ended + 1 + 1 + longest_ended + longest_ended

-- The longest first line, and a line for each node that a tree buffer of `room` numbers holds.
abbrev pub listing_length : (room : ℕ) → ℕ
listing_length room = refused_line_length + node_line_length * (room / node_width)
