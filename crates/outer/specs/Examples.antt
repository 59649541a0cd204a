-- Computed examples of this crate's definitions, worked out from document 02 by hand, so that a wrong edit of one is refused here.
-- Assumes nothing.
use Rattle.std.specs.Prelude.{ℕ, ◌≡◌, refl, List, [], ◌∷◌, ◌++◌, map, take}
use Rattle.rows.specs.Kinds.{Identifier, Integer, Scope, Comma, Less, Greater, ShiftRight}
use Rattle.reader.specs.Nodes.{t_node, l_node, a_node, Nodes, none, node, records}
use Rattle.outer.specs.OuterTemplate.{outer_arguments, argument_nodes}
use Rattle.outer.specs.ByExtents.{outer_by_extents}

-- ---- by extents

-- Nodes of these kinds and extents; their token numbers stand in no row.
nodes : List (ℕ × ℕ) → List ℕ
nodes [] = []
nodes (n ∷ ns) = n.0 ∷ 65535 ∷ n.1 ∷ nodes ns

says : List (List (ℕ × ℕ)) → List ℕ
unfolding nodes outer_by_extents
says = map (λ (ns : List (ℕ × ℕ)). outer_by_extents (nodes ns))

-- A list of one argument, whatever stands below it and behind it; of two; arguments of extent 1; an argument that has a list of its own.
lists : says (((0, 1) ∷ (3, 4) ∷ (4, 3) ∷ (9, 9) ∷ (9, 9) ∷ []) ∷ ((0, 1) ∷ (3, 3) ∷ (4, 2) ∷ (0, 1) ∷ (3, 0) ∷ []) ∷ ((0, 1) ∷ (3, 5) ∷ (4, 2) ∷ (0, 1) ∷ (4, 2) ∷ (0, 1) ∷ [])
    ∷ ((0, 1) ∷ (3, 2) ∷ (4, 1) ∷ []) ∷ ((0, 1) ∷ (3, 4) ∷ (4, 1) ∷ (4, 1) ∷ (4, 1) ∷ []) ∷ ((0, 1) ∷ (3, 6) ∷ (4, 5) ∷ (0, 1) ∷ (3, 3) ∷ (4, 2) ∷ (0, 1) ∷ []) ∷ [])
    ≡ 1 ∷ 1 ∷ 2 ∷ 1 ∷ 3 ∷ 1 ∷ []
unfolding says
lists = refl

-- The word: another kind, an extent over 1, an extent of 0.
words : says (((1, 1) ∷ (3, 2) ∷ (4, 1) ∷ []) ∷ ((0, 2) ∷ (3, 2) ∷ (4, 1) ∷ []) ∷ ((0, 0) ∷ (3, 2) ∷ (4, 1) ∷ []) ∷ []) ≡ 0 ∷ 0 ∷ 0 ∷ []
unfolding says
words = refl

-- The list: another kind, an extent of 1, of 0, one past the buffer by a node, and by far.
second : says (((0, 1) ∷ (4, 2) ∷ (4, 1) ∷ []) ∷ ((0, 1) ∷ (3, 1) ∷ (4, 1) ∷ []) ∷ ((0, 1) ∷ (3, 0) ∷ (4, 1) ∷ []) ∷ ((0, 1) ∷ (3, 3) ∷ (4, 2) ∷ []) ∷ ((0, 1) ∷ (3, 4294967295) ∷ (0, 1) ∷ []) ∷ [])
    ≡ 0 ∷ 0 ∷ 0 ∷ 0 ∷ 0 ∷ []
unfolding says
second = refl

-- An argument: another kind, first or later; an extent of 0; one past its list by a node, and by far.
arguments : says (((0, 1) ∷ (3, 2) ∷ (0, 1) ∷ []) ∷ ((0, 1) ∷ (3, 3) ∷ (4, 1) ∷ (3, 1) ∷ []) ∷ ((0, 1) ∷ (3, 2) ∷ (4, 0) ∷ []) ∷ ((0, 1) ∷ (3, 2) ∷ (4, 2) ∷ (0, 1) ∷ [])
    ∷ ((0, 1) ∷ (3, 3) ∷ (4, 1) ∷ (4, 4294967295) ∷ []) ∷ [])
    ≡ 0 ∷ 0 ∷ 0 ∷ 0 ∷ 0 ∷ []
unfolding says
arguments = refl

-- No node, and one; two lists, the last node of which is cut off by two numbers or by one, whole, or has numbers behind it that are no node.
cut : says ([] ∷ ((0, 1) ∷ []) ∷ []) ++ map (λ (n : ℕ). outer_by_extents (take n (nodes ((0, 1) ∷ (3, 2) ∷ (4, 1) ∷ (3, 9) ∷ [])))) (5 ∷ 7 ∷ 8 ∷ 9 ∷ 10 ∷ 11 ∷ [])
    ++ map (λ (n : ℕ). outer_by_extents (take n (nodes ((0, 1) ∷ (3, 3) ∷ (4, 2) ∷ (0, 1) ∷ (3, 9) ∷ [])))) (10 ∷ 11 ∷ 12 ∷ 13 ∷ 14 ∷ [])
    ≡ 0 ∷ 0 ∷ 0 ∷ 0 ∷ 0 ∷ 1 ∷ 1 ∷ 1 ∷ 0 ∷ 0 ∷ 1 ∷ 1 ∷ 1 ∷ []
unfolding says
cut = refl

-- ---- from the full tree

-- A T, and an argument that is one T.
word : ℕ → Nodes → Nodes
word i x = node t_node i none x

argument : ℕ → Nodes → Nodes
unfolding word
argument i x = node a_node i (word i none) x

-- How many arguments by the tree, how many by its records, and the numbers of the argument nodes.
counts : (kinds : List ℕ) → Nodes → List ℕ
unfolding outer_arguments argument_nodes outer_by_extents records
counts kinds x = outer_arguments kinds x ∷ outer_by_extents (records x) ∷ argument_nodes kinds x

-- `A<b,c>`: T0, and L1 above A2 and A4.
two : counts (Identifier ∷ Less ∷ Identifier ∷ Comma ∷ Identifier ∷ Greater ∷ []) (word 0 (node l_node 1 (argument 2 (argument 4 none)) none)) ≡ 2 ∷ 2 ∷ 2 ∷ 4 ∷ []
unfolding counts argument
two = refl

-- `A<B<c>>`: the list of `B` stands below the argument.
inner : counts (Identifier ∷ Less ∷ Identifier ∷ Less ∷ Identifier ∷ ShiftRight ∷ []) (word 0 (node l_node 1 (node a_node 2 (word 2 (node l_node 3 (argument 4 none) none)) none) none))
    ≡ 1 ∷ 1 ∷ 2 ∷ []
unfolding counts argument
inner = refl

-- `::A<b>` begins with `::`, and `A` has no list.
others : counts (Scope ∷ Identifier ∷ Less ∷ Identifier ∷ Greater ∷ []) (word 0 (word 1 (node l_node 2 (argument 3 none) none))) ∷ counts (Identifier ∷ []) (word 0 none) ∷ []
    ≡ (0 ∷ 0 ∷ []) ∷ (0 ∷ 0 ∷ []) ∷ []
unfolding counts argument
others = refl

-- `8<b>`, as no row is read: what is no word begins no template, though by extents it looks like one.
no_word : counts (Integer ∷ Less ∷ Identifier ∷ Greater ∷ []) (word 0 (node l_node 1 (argument 2 none) none)) ≡ 0 ∷ 1 ∷ []
unfolding counts argument
no_word = refl
