-- What the contracts of this reader's code say: how the definition's state stands in the tree buffer.
-- The nodes so far stand in front of it in the order of their openers. The extent of a node that is open is not known yet: in its place stands the link to
-- what is open around it, so that the buffer holds the stack as well. When the node is closed, its extent takes the link's place.
-- Assumes nothing.
use Rattle.std.specs.Prelude.{ℕ, suc, ◌+◌, ◌*◌, ◌≤◌, ◌<◌, ◌≡◌, Bool, true, false, List, [], ◌∷◌, ◌++◌, length, take, Result, Ok, Err}
use Rattle.rows.specs.declared.answer.Delimiter.{Delimiter}
use Rattle.reader.specs.Nodes.{l_node, a_node, number, Nodes, none, count, node_width, numbers_bound, records}
use Rattle.reader.specs.Tables.{node_of}
use Rattle.reader.specs.Reading.{Got, got, bad, refusal}
use Rattle.reader.specs.declared.parser.Tree.{Tree}
use Rattle.reader.specs.declared.parser.ParseError.{ParseError}
use Rattle.named_reader.specs.NamedReading.{Frame, group, list, State, Step, on, stops, push, begin, closed, at_end}
use Rattle.named_reader.specs.declared.frames.NamedReader.{NamedReader}
use Rattle.reader.specs.declared.parser.Stop.{Stop}

-- How many nodes are begun, with these at the innermost level.
unfoldable pub begun : List Frame → Nodes → ℕ
unfolding count
begun [] b = count b
begun (group d i x ∷ outer) b = begun outer x + suc (count b)
begun (list i x y j ∷ outer) b = begun outer x + suc (count y + suc (count b))

-- The link to what is open innermost: 0 if nothing is, else one more than the number of its node, of the argument's node in a list.
unfoldable pub link : List Frame → ℕ
unfolding begun
link [] = 0
link (group d i x ∷ outer) = suc (begun outer x)
link (list i x y j ∷ outer) = suc (begun outer x + suc (count y))

-- The records of all these nodes.
unfoldable pub open_records : List Frame → Nodes → List ℕ
unfolding records number begun link
open_records [] b = records b
open_records (group d i x ∷ outer) b = open_records outer x ++ number (node_of d) ∷ i ∷ link outer ∷ records b
open_records (list i x y j ∷ outer) b =
    open_records outer x ++ number l_node ∷ i ∷ link outer ∷ records y ++ number a_node ∷ j ∷ begun outer x ∷ records b

-- The code's state and buffer are the definition's state.
pub record Stands (tree : List ℕ) (r : NamedReader) (s : State) : Type 0 where
  pub nodes_begun : r.nodes ≡ begun s.frames s.nodes
  pub linked : r.inner ≡ link s.frames
  pub nested : r.nesting ≡ length s.frames
  pub written : take (node_width * r.nodes) tree ≡ open_records s.frames s.nodes

-- They are some state.
pub record Held (tree : List ℕ) (r : NamedReader) : Type 0 where
  pub state : State
  pub stands : Stands tree r state

-- They are a state in which a list is open innermost.
pub record HeldList (tree : List ℕ) (r : NamedReader) : Type 0 where
  pub token : ℕ
  pub before : Nodes
  pub arguments : Nodes
  pub first : ℕ
  pub outer : List Frame
  pub state : State
  pub is : state.frames ≡ list token before arguments first ∷ outer
  pub stands : Stands tree r state

-- They are a state in which a group is open innermost.
pub record HeldGroup (tree : List ℕ) (r : NamedReader) : Type 0 where
  pub delimiter : Delimiter
  pub token : ℕ
  pub before : Nodes
  pub outer : List Frame
  pub state : State
  pub is : state.frames ≡ group delimiter token before ∷ outer
  pub stands : Stands tree r state

-- The buffer has room for so many nodes more, and their numbers are small.
pub record RoomFor (tree : List ℕ) (nodes more : ℕ) : Type 0 where
  pub room : node_width * (nodes + more) ≤ length tree
  pub small : nodes + more < numbers_bound

-- A list is what is open innermost.
unfoldable pub list_innermost : List Frame → Bool
list_innermost [] = false
list_innermost (group d i x ∷ outer) = false
list_innermost (list i x y j ∷ outer) = true

-- `in_list`.
pub record InList (tree : List ℕ) (r : NamedReader) (b : Bool) : Type 0 where
  pub says : (s : State) → Stands tree r s → b ≡ list_innermost s.frames

-- What the code comes to where the definition comes to a step, `total` being the steps so far and those left: the same, or no step is left for it.
abbrev pub Comes : (total : ℕ) (tree : List ℕ) → Step → Result NamedReader Stop → Type 0
Comes total tree (on s) (Ok r) = Stands tree r s × (s.steps + r.left ≡ total)
Comes total tree (stops e m) (Ok r) = ⊥
Comes total tree (on s) (Err (Stop.Refused e left)) = ⊥
Comes total tree (stops e m) (Err (Stop.Refused e' left)) = (e ≡ e') × (m + left ≡ total)
Comes total tree (on s) (Err Stop.Spent) = total < s.steps
Comes total tree (stops e m) (Err Stop.Spent) = total < m

-- It begins at most two nodes.
abbrev pub Grows : (nodes : ℕ) → Result NamedReader Stop → Type 0
Grows nodes (Ok r) = r.nodes ≤ nodes + 2
Grows nodes (Err (Stop.Refused e left)) = Unit {0}
Grows nodes (Err Stop.Spent) = Unit {0}

-- A step of the code does what is due in whichever state the code's state and buffer are. What the buffer holds behind the nodes, and after a refusal, is
-- free.
pub record Does (before : List ℕ) (r : NamedReader) (after : List ℕ) (done : Result NamedReader Stop) (due : State → Step) : Type 0 where
  pub says : (s : State) → Stands before r s → Comes (s.steps + r.left) after (due s) done
  pub grown : Grows r.nodes done

-- What is due where a group or a list begins at a token.
unfoldable pub begin_group : Delimiter → (at : ℕ) → State → Step
unfolding begin
begin_group d at s = begin (group d at s.nodes) s

unfoldable pub begin_list : (at : ℕ) → State → Step
unfolding begin
begin_list at s = begin (list at s.nodes none (suc at)) s

-- The state once the list that is open innermost is closed,
unfoldable pub innermost_closed : List Frame → State → State
unfolding closed
innermost_closed [] s = s
innermost_closed (group d i x ∷ outer) s = s
innermost_closed (list i x y j ∷ outer) s = closed i x y j outer s

-- once its argument has ended and the next begins behind token `at`,
unfoldable pub argument_ended : (at : ℕ) → List Frame → State → State
unfolding push
argument_ended at [] s = s
argument_ended at (group d i x ∷ outer) s = s
argument_ended at (list i x y j ∷ outer) s = record { frames = list i x (push a_node j s.nodes y) (suc at) ∷ outer; nodes = none; steps = s.steps }

-- and once the group that is open innermost is closed.
unfoldable pub group_closed : List Frame → State → State
unfolding push
group_closed [] s = s
group_closed (group d i x ∷ outer) s = record { frames = outer; nodes = push (node_of d) i s.nodes x; steps = s.steps }
group_closed (list i x y j ∷ outer) s = s

-- A move of the code without a step: its nodes are at most `more` more.
pub record Moves (before : List ℕ) (r : NamedReader) (after : List ℕ) (r' : NamedReader) (more : ℕ) (due : State → State) : Type 0 where
  pub says : (s : State) → Stands before r s → Stands after r' (due s)
  pub same_left : r'.left ≡ r.left
  pub grown : r'.nodes ≤ r.nodes + more

-- `end_row`: what the definition comes to at the row's end, from whichever state this is, so many steps being left of the allowance.
abbrev pub EndSays : (allowance : ℕ) (tree : List ℕ) → Got → Result Tree ParseError → Type 0
EndSays allowance tree (got x at half m) (Ok t) = (t.steps ≡ m) × (count x ≡ t.nodes) × (take (node_width * t.nodes) tree ≡ records x)
EndSays allowance tree (got x at half m) (Err (ParseError.Refused e k)) = ⊥
EndSays allowance tree (got x at half m) (Err ParseError.AllowancePassed) = ⊥
EndSays allowance tree (bad f m) (Ok t) = ⊥
EndSays allowance tree (bad f m) (Err (ParseError.Refused e k)) = (f ≡ refusal e) × (k ≡ m)
EndSays allowance tree (bad f m) (Err ParseError.AllowancePassed) = ⊥

pub record Ends (tree : List ℕ) (r : NamedReader) (allowance : ℕ) (p : Result Tree ParseError) : Type 0 where
  pub says : (s : State) → Stands tree r s → s.steps + r.left ≡ allowance → (at : ℕ) → EndSays allowance tree (at_end at s.frames s) p
