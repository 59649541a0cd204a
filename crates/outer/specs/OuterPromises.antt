-- What document 02's C-15 promises, clause by clause.
-- Assumes nothing.
use Rattle.std.specs.Prelude.{ℕ, suc, ◌+◌, ◌*◌, ◌-◌, ◌≤◌, ◌<◌, ◌≡◌, ◌≢◌, length}
use mathlib.Core.List.{List, Memᴰ}
use Rattle.rows.specs.Kinds.{Identifier}
use Rattle.reader.specs.Nodes.{t_node, l_node, a_node, Nodes, number, count, node_width, records, kind_of, token_of, extent_of, Recorded}
use Rattle.reader.specs.Reading.{kind_at}
use Rattle.outer.specs.Formed.{TreeFormed}
use Rattle.outer.specs.OuterTemplate.{outer_arguments, argument_nodes}
use Rattle.outer.specs.ByExtents.{outer_by_extents}

-- ---- an accepted tree

-- Node number n of the numbers has the kind and the extent that it has in the tree.
abbrev pub Agrees : (numbers : List ℕ) → Nodes → (n : ℕ) → Type 0
Agrees numbers x n = (kind_of numbers n ≡ kind_of (records x) n) × (extent_of numbers n ≡ extent_of (records x) n)

-- Numbers at least as long as the tree's, which agree with it at "the first two nodes and the list's argument nodes", "whatever numbers stand
-- outside".
pub record AgreesWith (kinds : List ℕ) (x : Nodes) (numbers : List ℕ) : Type 0 where
  pub long : length (records x) ≤ length numbers
  pub first : Agrees numbers x 0
  pub second : 1 < count x → Agrees numbers x 1
  -- Behind a tree of one node no L follows, as in the zeros behind it.
  pub no_second : count x ≡ 1 → Recorded numbers 1 → kind_of numbers 1 ≢ number l_node
  pub arguments : (n : ℕ) → Memᴰ n (argument_nodes kinds x) → Agrees numbers x n

-- "For an accepted tree the answer is the one counted from the full tree, and it stays whatever numbers stand outside".
abbrev pub Counted : (numbers : List ℕ) (answer : ℕ) → Type 0
Counted numbers answer = (kinds : List ℕ) (x : Nodes) → TreeFormed kinds x → AgreesWith kinds x numbers → answer ≡ outer_arguments kinds x

-- Node number n is a word: a T of an identifier.
pub record WordAt (kinds records : List ℕ) (n : ℕ) : Type 0 where
  pub is_token : kind_of records n ≡ number t_node
  pub is_identifier : kind_at kinds (token_of records n) ≡ Identifier

-- In an accepted tree the node before an L is a word: so the kind of the first token need not be looked at.
abbrev pub WordsBeforeLists : (kinds : List ℕ) → Nodes → Type 0
WordsBeforeLists kinds x = (n : ℕ) → n < count x → kind_of (records x) n ≡ number l_node → (0 < n) × WordAt kinds (records x) (n - 1)

-- ---- any other numbers

-- The `left` nodes from node number `at` on are so many arguments, one behind the other by their extents.
pub data ArgumentsFill (numbers : List ℕ) : (at left many : ℕ) → Type 0 where
  nothing_left : {at : ℕ} → ArgumentsFill numbers at 0 0
  argument : {at left many : ℕ} → kind_of numbers at ≡ number a_node → 1 ≤ extent_of numbers at → extent_of numbers at ≤ left
      → ArgumentsFill numbers (at + extent_of numbers at) (left - extent_of numbers at) many → ArgumentsFill numbers at left (suc many)

-- The numbers begin with a word and a list of so many arguments: not "an extent of 0, or one past its list or the buffer, a word's extent over 1, a
-- kind other than T, L or A in its place, or a list of extent 1".
pub record BeginsWith (numbers : List ℕ) (many : ℕ) : Type 0 where
  pub word : kind_of numbers 0 ≡ number t_node
  pub word_extent : extent_of numbers 0 ≡ 1
  pub list : kind_of numbers 1 ≡ number l_node
  pub list_extent : 2 ≤ extent_of numbers 1
  pub within : node_width * (1 + extent_of numbers 1) ≤ length numbers
  pub filled : ArgumentsFill numbers 2 (extent_of numbers 1 - 1) many

-- ---- the contract

pub record OuterPromised (numbers : List ℕ) (answer : ℕ) : Type 0 where
  pub answered : answer ≡ outer_by_extents numbers
  pub counted : Counted numbers answer
  -- An answer other than 0 is a list's, which has so many arguments;
  pub some_list : 0 < answer → BeginsWith numbers answer
  -- 0 "means no list".
  pub no_list : answer ≡ 0 → (many : ℕ) → BeginsWith numbers many → ⊥
