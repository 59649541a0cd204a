-- The reading of a row whose template names are given: document 02, C-17. It is given the token kinds and one Bool a token, "this word is a name"; neither
-- names nor words occur in it. It goes through the tokens once, with a stack of what is open, and knows no allowance: refusal 25 is a comparison of its
-- step count.
-- Assumes nothing.
--
-- Letters: k the kind of a token, d a delimiter, i an opener's token, x the nodes before it at its own level, y the arguments of a list so far, j the
-- first token of its argument, b the nodes below a node, s the state, m steps, e a refusal.
--
-- A row token by token: `A<b<c>>` where A and b are names. What is open stands innermost first; behind it the nodes so far of that level.
--   0 `A`   nothing open, T 0                                   one step
--   1 `<`   A is a name: list 1, behind T 0; nothing            one step
--   2 `b`   list 1; T 2                                         one step
--   3 `<`   b is a name: list 3, behind T 2, in list 1; nothing one step
--   4 `c`   list 3 in list 1; T 4                               one step
--   5 `>>`  closes list 3, and list 1 by its second half        no step
-- So `named_reading` is got (T 0, L 1 above A 2 above (T 2, L 3 above A 4 above T 4)) at 6, no half, 5 steps.
use Rattle.std.specs.Prelude.{ℕ, zero, suc, Bool, false, ◌&&◌, List, [], ◌∷◌, length, get_or, ltb, eqb, if◌then◌else◌}
use Rattle.rows.specs.Kinds.{Comma, Less, Greater, ShiftRight}
use Rattle.rows.specs.declared.answer.Delimiter.{Delimiter}
use Rattle.rows.specs.declared.answer.TypeNameError.{TypeNameError}
use Rattle.rows.specs.declared.answer.TypeNameError.TheVariants.{NestingLimitExceeded, UnterminatedGroup, MismatchedClosingDelimiter, ShiftWithoutList, EmptyOrUnclosedList}
use Rattle.prescan.specs.Matcher.{Role, opens, closes, neither, role, same}
use Rattle.reader.specs.Nodes.{NodeKind, t_node, l_node, a_node, Nodes, none, node}
use Rattle.reader.specs.Reading.{refusal, Got, got, bad, MAX_NESTING_DEPTH}
use Rattle.reader.specs.Tables.{node_of}

-- ---- what is open

-- A group or a list that is open, with the nodes before it at its own level; of a list also the arguments that have ended, and the first token of the
-- one that is being read.
pub data Frame : Type 0 where
  group : Delimiter → (token : ℕ) (before : Nodes) → Frame
  list : (token : ℕ) (before arguments : Nodes) (first : ℕ) → Frame

-- What is known after some tokens: the groups and lists open, the innermost first; the nodes so far of the innermost, of its argument if it is a list,
-- of the row if nothing is open; and the steps.
pub record State : Type 0 where
  pub frames : List Frame
  pub nodes : Nodes
  pub steps : ℕ

-- What comes of a token: the reading goes on, or it is refused, and the steps up to there.
pub data Step : Type 0 where
  on : State → Step
  stops : TypeNameError → (steps : ℕ) → Step

-- These nodes, and one more after them: `nodes.push`.
unfoldable pub push : NodeKind → (token : ℕ) (below : Nodes) → Nodes → Nodes
push k i b none = node k i b none
push k i b (node k' i' b' x) = node k' i' b' (push k i b x)

-- ---- what begins: "a step in reading is one T, G, B or L begun"

-- A token by itself.
unfoldable pub plain : (at : ℕ) → State → Step
unfolding push
plain at s = on (record { frames = s.frames; nodes = push t_node at none s.nodes; steps = suc s.steps })

-- A group or a list, "counted before its 20": "Nesting over 64 is 20".
unfoldable pub begin : Frame → State → Step
begin f s =
    if ltb (length s.frames) MAX_NESTING_DEPTH then on (record { frames = f ∷ s.frames; nodes = none; steps = suc s.steps })
    else stops NestingLimitExceeded (suc s.steps)

-- ---- what ends, without a step

-- "27 list empty, with an empty argument"; else what is to be done.
unfoldable pub unless_empty : Nodes → (steps : ℕ) → Step → Step
unless_empty none m next = stops EmptyOrUnclosedList m
unless_empty (node k i b x) m next = next

-- A list is closed: its last argument has ended, and it stands after the nodes before it, in what is open around it.
unfoldable pub closed : (token : ℕ) (before arguments : Nodes) (first : ℕ) → List Frame → State → State
unfolding push
closed i x y j outer s = record { frames = outer; nodes = push l_node i (push a_node j s.nodes y) x; steps = s.steps }

-- "A list closes only at its own bracket depth": `>` closes the innermost list where that is what is open innermost; "none to close at its depth, is a
-- plain token".
unfoldable pub at_greater : (at : ℕ) → List Frame → State → Step
unfolding plain unless_empty closed
at_greater at [] s = plain at s
at_greater at (group d i x ∷ outer) s = plain at s
at_greater at (list i x y j ∷ outer) s = unless_empty s.nodes s.steps (on (closed i x y j outer s))

-- "26 second half of a `>>` without a list at that depth": its first half has closed a list.
unfoldable pub second_half : List Frame → State → Step
unfolding closed
second_half [] s = stops ShiftWithoutList s.steps
second_half (group d i x ∷ outer) s = stops ShiftWithoutList s.steps
second_half (list i x y j ∷ outer) s = on (closed i x y j outer s)

-- "`>>` closes two lists if both stand at that depth; with one there it is 26." "At one token 27 comes before 26."
unfoldable pub at_shift : (at : ℕ) → List Frame → State → Step
unfolding plain unless_empty closed second_half
at_shift at [] s = plain at s
at_shift at (group d i x ∷ outer) s = plain at s
at_shift at (list i x y j ∷ outer) s = unless_empty s.nodes s.steps (second_half outer (closed i x y j outer s))

-- A comma ends the argument of the list that is open innermost, and the next begins; else it is "a plain token".
unfoldable pub at_comma : (at : ℕ) → List Frame → State → Step
unfolding plain unless_empty push
at_comma at [] s = plain at s
at_comma at (group d i x ∷ outer) s = plain at s
at_comma at (list i x y j ∷ outer) s =
    unless_empty s.nodes s.steps (on (record { frames = list i x (push a_node j s.nodes y) (suc at) ∷ outer; nodes = none; steps = s.steps }))

-- A bracket closes its group; "a bracket that closes over an open list is 27".
unfoldable pub at_closer : Delimiter → List Frame → State → Step
unfolding push same
at_closer d [] s = stops MismatchedClosingDelimiter s.steps
at_closer d (group d' i x ∷ outer) s =
    if same d' d then on (record { frames = outer; nodes = push (node_of d') i s.nodes x; steps = s.steps })
    else stops MismatchedClosingDelimiter s.steps
at_closer d (list i x y j ∷ outer) s = stops EmptyOrUnclosedList s.steps

-- ---- the reading

-- "Its left neighbour is one of those names".
unfoldable pub after_name : (named : List Bool) (at : ℕ) → Bool
after_name named zero = false
after_name named (suc i) = get_or named i false

-- "`<` opens a list exactly if its left neighbour is one of those names." "An angle with no list to open .. is a plain token."
unfoldable pub no_bracket : (named : List Bool) (k at : ℕ) → State → Step
unfolding after_name begin at_greater at_shift at_comma plain
no_bracket named k at s =
    if eqb k Less && after_name named at then begin (list at s.nodes none (suc at)) s
    else if eqb k Greater then at_greater at s.frames s
    else if eqb k ShiftRight then at_shift at s.frames s
    else if eqb k Comma then at_comma at s.frames s
    else plain at s

-- What comes of a token by its part among brackets.
unfoldable pub in_role : (named : List Bool) → Role → (k at : ℕ) → State → Step
unfolding begin at_closer no_bracket
in_role named (opens d) k at s = begin (group d at s.nodes) s
in_role named (closes d) k at s = at_closer d s.frames s
in_role named neither k at s = no_bracket named k at s

-- What comes of token number `at`, of kind k.
unfoldable pub take_token : (named : List Bool) (k at : ℕ) → State → Step
unfolding in_role role
take_token named k at s = in_role named (role k) k at s

-- At the row's end: the tree; "27 .. not closed"; or a group is open.
unfoldable pub at_end : (at : ℕ) → List Frame → State → Got
at_end at [] s = got s.nodes at false s.steps
at_end at (group d i x ∷ outer) s = bad (refusal UnterminatedGroup) s.steps
at_end at (list i x y j ∷ outer) s = bad (refusal EmptyOrUnclosedList) s.steps

-- The rest of the reading, unless it has stopped.
unfoldable pub go_on : Step → (State → Got) → Got
go_on (on s) rest = rest s
go_on (stops e m) rest = bad (refusal e) m

-- The tokens from number `at` on, in order.
unfoldable pub read_on : (named : List Bool) (at : ℕ) → List ℕ → State → Got
unfolding at_end take_token go_on
read_on named at [] s = at_end at s.frames s
read_on named at (k ∷ ks) s = go_on (take_token named k at s) (λ s'. read_on named (suc at) ks s')

-- Before the first token.
unfoldable pub start : State
start = record { frames = []; nodes = none; steps = 0 }

-- The reading of a row, given of each token whether it is "one of those names".
unfoldable pub named_reading : (named : List Bool) (kinds : List ℕ) → Got
unfolding read_on start
named_reading named kinds = read_on named 0 kinds start
