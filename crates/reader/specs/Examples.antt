-- Computed rows of this crate's definitions, so that a wrong edit of one is refused here. The rows are document 01's; the answers are its or the original's.
-- Assumes nothing.
use Rattle.std.specs.Prelude.{ℕ, zero, suc, ◌≡◌, refl, true, false, List, [], ◌∷◌, ◌++◌, map, replicate}
use Rattle.rows.specs.Kinds.{Identifier, Integer, LeftParen, RightParen, LeftBracket, RightBracket, Comma, Less, Greater, ShiftRight}
use Rattle.rows.specs.Refusals.{refusal_of}
use Rattle.reader.specs.Nodes.{Nodes, none, node, t_node, g_node, l_node, a_node, count, records}
use Rattle.reader.specs.Reading.{Got, got, bad, Fault, refusal, no_list, reading, kind_at}
use Rattle.reader.specs.Written.{Token, sign, written, halved, closing_angles, without_closing_angles}
use Rattle.reader.specs.Standing.{depth}

-- The refusal's number; 0 where the try of a list fails.
fault_number : Fault → ℕ
fault_number (refusal e) = (refusal_of e).number
fault_number no_list = 0

-- 0, the nodes and the steps; or the refusal's number and the steps.
brief : Got → List ℕ
unfolding count fault_number
brief (got x at half m) = 0 ∷ count x ∷ m ∷ []
brief (bad e m) = fault_number e ∷ m ∷ []

tree_of : Got → Nodes
tree_of (got x at half m) = x
tree_of (bad e m) = none

in_cpp : List ℕ → List ℕ
unfolding brief reading kind_at
in_cpp kinds = brief (reading true kinds)

-- `A<B<c>>`: 7 nodes after 5 steps
split : in_cpp (Identifier ∷ Less ∷ Identifier ∷ Less ∷ Identifier ∷ ShiftRight ∷ []) ≡ 0 ∷ 7 ∷ 5 ∷ []
unfolding in_cpp
split = refl

-- `Lane<(Key<8>>2)>`: document 01's listing. The `>>` closes `Key`'s list and leaves a `>` for `Lane`'s, past the bracket.
lane : List ℕ
lane = Identifier ∷ Less ∷ LeftParen ∷ Identifier ∷ Less ∷ Integer ∷ ShiftRight ∷ Integer ∷ RightParen ∷ Greater ∷ []

lane_tree : reading true lane
    ≡ got
    (node t_node 0 none (node l_node 1 (node a_node 2 (node g_node 2
    (node t_node 3 none (node l_node 4 (node a_node 5 (node t_node 5 none none) none) (node t_node 7 none none))) none) none)
    (node t_node 9 none none)))
    10 false 8
unfolding reading kind_at lane
lane_tree = refl

lane_records : records (tree_of (reading true lane))
    ≡ 0 ∷ 0 ∷ 1 ∷ 3 ∷ 1 ∷ 8 ∷ 4 ∷ 2 ∷ 7 ∷ 1 ∷ 2 ∷ 6 ∷ 0 ∷ 3 ∷ 1 ∷ 3 ∷ 4 ∷ 3 ∷ 4 ∷ 5 ∷ 2 ∷ 0 ∷ 5 ∷ 1 ∷ 0 ∷ 7 ∷ 1 ∷ 0 ∷ 9 ∷ 1 ∷ []
unfolding tree_of reading kind_at lane records
lane_records = refl

-- `Slots<(Lanes<8)>`: 21 after 12 steps: no bracket ends a try.
slots : in_cpp (Identifier ∷ Less ∷ LeftParen ∷ Identifier ∷ Less ∷ Integer ∷ RightParen ∷ Greater ∷ []) ≡ 21 ∷ 12 ∷ []
unfolding in_cpp
slots = refl

-- `X<([A<b]>c)>`: 22 after 16 steps
wrong_closer : in_cpp (Identifier ∷ Less ∷ LeftParen ∷ LeftBracket ∷ Identifier ∷ Less ∷ Identifier ∷ RightBracket ∷ Greater ∷ Identifier ∷ RightParen ∷ Greater ∷ [])
    ≡ 22 ∷ 16 ∷ []
unfolding in_cpp
wrong_closer = refl

-- `A<(B<c>>),d>`: 21 after 13 steps: a comma met with a half left makes the list fail.
comma_with_half : in_cpp (Identifier ∷ Less ∷ LeftParen ∷ Identifier ∷ Less ∷ Identifier ∷ ShiftRight ∷ RightParen ∷ Comma ∷ Identifier ∷ Greater ∷ [])
    ≡ 21 ∷ 13 ∷ []
unfolding in_cpp
comma_with_half = refl

-- `A[B<c>>d>]`: 8 nodes after 7 steps: at template depth 1 `>>` is a T.
one_list : in_cpp (Identifier ∷ LeftBracket ∷ Identifier ∷ Less ∷ Identifier ∷ ShiftRight ∷ Identifier ∷ Greater ∷ RightBracket ∷ []) ≡ 0 ∷ 8 ∷ 7 ∷ []
unfolding in_cpp
one_list = refl

-- `A<(B<c>>D<e>)>`: 13 nodes after 11 steps: a list that begins with a half left fails, and its `<` is a T.
list_with_half : in_cpp (Identifier ∷ Less ∷ LeftParen ∷ Identifier ∷ Less ∷ Identifier ∷ ShiftRight ∷ Identifier ∷ Less ∷ Identifier ∷ Greater ∷ RightParen ∷ Greater ∷ [])
    ≡ 0 ∷ 13 ∷ 11 ∷ []
unfolding in_cpp
list_with_half = refl

-- `A<)>`: directly in an argument a `)` is a T (the prescan refuses this row).
stray : in_cpp (Identifier ∷ Less ∷ RightParen ∷ Greater ∷ []) ≡ 0 ∷ 4 ∷ 3 ∷ []
unfolding in_cpp
stray = refl

-- An identifier and n nested `()`: 64 are read, 65 are 20.
groups : ℕ → List ℕ
groups n = Identifier ∷ replicate n LeftParen ++ replicate n RightParen

sixty_four : in_cpp (groups 64) ≡ 0 ∷ 65 ∷ 65 ∷ []
unfolding in_cpp groups
sixty_four = refl

sixty_five : in_cpp (groups 65) ≡ 20 ∷ 66 ∷ []
unfolding in_cpp groups
sixty_five = refl

-- n nested lists, each opened by `A<`, one word inside, with n single `>`: of 65, the innermost `<` is a T: 20 does not leave a try.
lists : ℕ → List ℕ
lists zero = Identifier ∷ []
lists (suc n) = Identifier ∷ Less ∷ lists n ++ Greater ∷ []

sixty_five_lists : in_cpp (lists 65) ≡ 0 ∷ 196 ∷ 132 ∷ []
unfolding in_cpp lists
sixty_five_lists = refl

sixty_four_deep : depth (tree_of (reading true (lists 65))) ≡ 64
unfolding tree_of reading kind_at lists depth
sixty_four_deep = refl

-- `A<(A<A>>)>` is written out as `A<(A<A>)>>`: the `>` are as many, and the rest is the same.
tokens : List Token
tokens = map sign (Identifier ∷ Less ∷ LeftParen ∷ Identifier ∷ Less ∷ Identifier ∷ ShiftRight ∷ RightParen ∷ Greater ∷ [])

out : List Token
unfolding written tree_of reading kind_at
out = written tokens (tree_of (reading true (map (λ (t : Token). t.kind) tokens)))

moved : map (λ (t : Token). t.kind) out ≡ Identifier ∷ Less ∷ LeftParen ∷ Identifier ∷ Less ∷ Identifier ∷ Greater ∷ RightParen ∷ Greater ∷ Greater ∷ []
unfolding out tokens
moved = refl

as_often : closing_angles (halved tokens) ≡ closing_angles (halved out)
unfolding out tokens halved closing_angles
as_often = refl

else_same : without_closing_angles (halved tokens) ≡ without_closing_angles (halved out)
unfolding out tokens halved without_closing_angles
else_same = refl
