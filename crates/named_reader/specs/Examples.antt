-- Computed examples of this crate's definitions, worked out by hand from document 02's C-17. A row is given by its kinds, and by which of its tokens are names.
-- Assumes nothing.
use Rattle.std.specs.Prelude.{ℕ, zero, suc, ◌≡◌, refl, Bool, true, false, List, [], ◌∷◌}
use Rattle.rows.specs.Kinds.{Identifier, Integer, LeftParen, RightParen, Comma, Less, Greater, ShiftRight}
use Rattle.rows.specs.declared.answer.TypeNameError.{TypeNameError}
use Rattle.rows.specs.declared.answer.TypeNameError.TheVariants.{NestingLimitExceeded, ShiftWithoutList, EmptyOrUnclosedList}
use Rattle.prescan.specs.Matcher.{role, same}
use Rattle.reader.specs.Nodes.{t_node, g_node, l_node, a_node, Nodes, none, node}
use Rattle.reader.specs.Reading.{Got, got, bad, refusal}
use Rattle.reader.specs.Standing.{tokens_of}
use Rattle.reader.specs.Written.{Token, sign}
use Rattle.reader.specs.Nodes as Nodes
use Rattle.rows.specs.Notation.{◌is_one_of◌}
use Rattle.named_reader.specs.NamedReading.{named_reading, read_on, start, take_token, in_role, no_bracket, after_name, begin, plain, push, unless_empty, closed, at_greater, second_half, at_shift, at_comma, at_closer, at_end, go_on}
use Rattle.named_reader.specs.InOrder.{in_order, closes_two}

-- ---- short forms

refused : TypeNameError → (steps : ℕ) → Got
refused e m = bad (refusal e) m

-- A T, and what stands after it.
t : ℕ → Nodes → Nodes
t i x = node t_node i none x

-- Names at these tokens.
first : List Bool
first = true ∷ []

third : List Bool
third = false ∷ false ∷ true ∷ []

fourth : List Bool
fourth = false ∷ false ∷ false ∷ true ∷ []

first_and_third : List Bool
first_and_third = true ∷ false ∷ true ∷ []

first_and_fourth : List Bool
first_and_fourth = true ∷ false ∷ false ∷ true ∷ []

-- ---- the rows of the paper and of the demands

-- `Slots<(Lanes<8)>`.
slots : List ℕ
slots = Identifier ∷ Less ∷ LeftParen ∷ Identifier ∷ Less ∷ Integer ∷ RightParen ∷ Greater ∷ []

-- Slots is a name: 7 nodes, 6 steps in reading. Slots and Lanes, or Lanes alone: the bracket closes over an open list, after 6 steps.
slots_read : named_reading first slots ∷ named_reading first_and_fourth slots ∷ named_reading fourth slots ∷ []
    ≡ got (t 0 (node l_node 1 (node a_node 2 (node g_node 2 (t 3 (t 4 (t 5 none))) none) none) none)) 8 false 6 ∷ refused EmptyOrUnclosedList 6 ∷ refused EmptyOrUnclosedList 6 ∷ []
unfolding named_reading read_on start take_token in_role no_bracket after_name begin plain push unless_empty closed at_greater second_half at_shift at_comma at_closer at_end go_on role same refused t first first_and_fourth fourth slots
slots_read = refl

-- `Lane<(Key<8>>2)>`.
lane : List ℕ
lane = Identifier ∷ Less ∷ LeftParen ∷ Identifier ∷ Less ∷ Integer ∷ ShiftRight ∷ Integer ∷ RightParen ∷ Greater ∷ []

-- Lane is a name: `>>` has no list at its depth, 9 nodes, 8 steps. Lane and Key: there is one, and the list outside the bracket does not count: 26 after 6.
lane_read : named_reading first lane ∷ named_reading first_and_fourth lane ∷ []
    ≡ got (t 0 (node l_node 1 (node a_node 2 (node g_node 2 (t 3 (t 4 (t 5 (t 6 (t 7 none))))) none) none) none)) 10 false 8 ∷ refused ShiftWithoutList 6 ∷ []
unfolding named_reading read_on start take_token in_role no_bracket after_name begin plain push unless_empty closed at_greater second_half at_shift at_comma at_closer at_end go_on role same refused t first first_and_fourth lane
lane_read = refl

-- `A<b<c>>`.
two_lists : List ℕ
two_lists = Identifier ∷ Less ∷ Identifier ∷ Less ∷ Identifier ∷ ShiftRight ∷ []

-- A is a name: 26 after 5. A and b: `>>` closes both.
two_lists_read : named_reading first two_lists ∷ named_reading first_and_third two_lists ∷ []
    ≡ refused ShiftWithoutList 5 ∷ got (t 0 (node l_node 1 (node a_node 2 (t 2 (node l_node 3 (node a_node 4 (t 4 none) none) none)) none) none)) 6 false 5 ∷ []
unfolding named_reading read_on start take_token in_role no_bracket after_name begin plain push unless_empty closed at_greater second_half at_shift at_comma at_closer at_end go_on role same refused t first first_and_third two_lists
two_lists_read = refl

-- `A<>`: 27 after 2. `x<A<b,>>` with A a name: the argument before `>>` is empty, and 27 comes before 26.
empty_arguments : named_reading first (Identifier ∷ Less ∷ Greater ∷ []) ∷ named_reading third (Identifier ∷ Less ∷ Identifier ∷ Less ∷ Identifier ∷ Comma ∷ ShiftRight ∷ []) ∷ []
    ≡ refused EmptyOrUnclosedList 2 ∷ refused EmptyOrUnclosedList 5 ∷ []
unfolding named_reading read_on start take_token in_role no_bracket after_name begin plain push unless_empty closed at_greater second_half at_shift at_comma at_closer at_end go_on role same refused first third
empty_arguments = refl

-- `A<,b>`: an argument is empty at a comma. `A<b` with the row cut there: the list is not closed.
not_closed : named_reading first (Identifier ∷ Less ∷ Comma ∷ Identifier ∷ Greater ∷ []) ∷ named_reading first (Identifier ∷ Less ∷ Identifier ∷ []) ∷ []
    ≡ refused EmptyOrUnclosedList 2 ∷ refused EmptyOrUnclosedList 3 ∷ []
unfolding named_reading read_on start take_token in_role no_bracket after_name begin plain push unless_empty closed at_greater second_half at_shift at_comma at_closer at_end go_on role same refused first
not_closed = refl

-- `A<(b>c),(d,e)>`: inside brackets `>` and a comma are plain, at the list's depth a comma ends an argument; 10 steps.
plain_inside : named_reading first (Identifier ∷ Less ∷ LeftParen ∷ Identifier ∷ Greater ∷ Identifier ∷ RightParen ∷ Comma ∷ LeftParen ∷ Identifier ∷ Comma ∷ Identifier ∷ RightParen ∷ Greater ∷ [])
    ≡ got (t 0 (node l_node 1 (node a_node 2 (node g_node 2 (t 3 (t 4 (t 5 none))) none) (node a_node 8 (node g_node 8 (t 9 (t 10 (t 11 none))) none) none)) none)) 14 false 10
unfolding named_reading read_on start take_token in_role no_bracket after_name begin plain push unless_empty closed at_greater second_half at_shift at_comma at_closer at_end go_on role same t first
plain_inside = refl

-- `A<x<y>z>` with A a name closes at the first `>`: plain angles are not paired.
first_closes : named_reading first (Identifier ∷ Less ∷ Identifier ∷ Less ∷ Identifier ∷ Greater ∷ Identifier ∷ Greater ∷ [])
    ≡ got (t 0 (node l_node 1 (node a_node 2 (t 2 (t 3 (t 4 none))) none) (t 6 (t 7 none)))) 8 false 7
unfolding named_reading read_on start take_token in_role no_bracket after_name begin plain push unless_empty closed at_greater second_half at_shift at_comma at_closer at_end go_on role same t first
first_closes = refl

-- ---- nesting

-- `A<A<..`, so many times, each A a name.
nest : ℕ → List ℕ → List ℕ
nest zero row = row
nest (suc n) row = Identifier ∷ Less ∷ nest n row

names : ℕ → List Bool
names zero = []
names (suc n) = true ∷ false ∷ names n

-- 65 lists are too deep: 20 after 130 steps, that of the 65th `<` counted. 64 are not: the row is refused where it is cut, with 27.
too_deep : named_reading (names 65) (nest 65 (Identifier ∷ [])) ∷ named_reading (names 64) (nest 64 (Identifier ∷ [])) ∷ []
    ≡ refused NestingLimitExceeded 130 ∷ refused EmptyOrUnclosedList 129 ∷ []
unfolding named_reading read_on start take_token in_role no_bracket after_name begin plain push unless_empty closed at_greater second_half at_shift at_comma at_closer at_end go_on role same refused nest names
too_deep = refl

-- ---- written in the row's own order

word : Token
word = record { kind = Identifier; word = 65 ∷ [] }

-- `A<b<c>>`: token 5 closes two lists. `Lane<(Key<8>>2)>`: token 6 is a T and stays.
own_order : in_order (closes_two (t 0 (node l_node 1 (node a_node 2 (t 2 (node l_node 3 (node a_node 4 (t 4 none) none) none)) none) none))) 0
    (word ∷ sign Less ∷ word ∷ sign Less ∷ word ∷ sign ShiftRight ∷ [])
    ≡ word ∷ sign Less ∷ word ∷ sign Less ∷ word ∷ sign Greater ∷ sign Greater ∷ []
unfolding in_order closes_two tokens_of ◌is_one_of◌ Nodes.number t word
own_order = refl

plain_stays : in_order (closes_two (t 0 (node g_node 1 (t 2 (t 3 (t 4 none))) none))) 0 (word ∷ sign LeftParen ∷ word ∷ sign ShiftRight ∷ word ∷ sign RightParen ∷ [])
    ≡ word ∷ sign LeftParen ∷ word ∷ sign ShiftRight ∷ word ∷ sign RightParen ∷ []
unfolding in_order closes_two tokens_of ◌is_one_of◌ Nodes.number t word
plain_stays = refl
