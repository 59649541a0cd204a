-- What the contracts below the entry say: of a file's row, of a row's tree, of its answer, and of the tree buffer. They are worded with the
-- definitions of FileRow.antt and Answers.antt.
-- Assumes nothing.
use Rattle.rows.specs.declared.answer.TypeNameError.{TypeNameError}
use Rattle.type_name.specs.declared.file_row.FileRow.{FileRow}
use Rattle.rows.specs.Answer.{accepted_with, refused_with, Answer}
use Rattle.rows.specs.declared.answer.Feature.{Feature}
use Rattle.std.specs.Prelude.{ℕ, ◌*◌, ◌-◌, ◌≤◌, ◌<◌, ◌≡◌, List, ◌++◌, length, take, replicate, None, Ok, Option, Some, Err, Result}
use Rattle.rows.specs.Format.{format, most_tokens}
use Rattle.rows.specs.Records.{RowToken, head, kinds_of, words_of}
use Rattle.rows.specs.declared.answer.TypeNameError.TheVariants.{AllowancePassed, NoTypeName, NotAvailableInProfile}
use Rattle.rows.specs.declared.head.Head.{Head}
use Rattle.reader.specs.Nodes.{Nodes, count, node_width, numbers_per_token, records}
use Rattle.reader.specs.declared.parser.Tree.{Tree}
use Rattle.reader.specs.declared.parser.ParseError.{ParseError}
use Rattle.type_nodes.specs.Stands.{Stands}
use Rattle.structure.specs.Allowance.{Verdict}
use Rattle.structure.specs.declared.moves.Fault.TheVariants.{Fails, Spent}
use Rattle.type_name.specs.FileRow.{untouched, passes, file_row}
use Rattle.type_name.specs.Answers.{RowAnswer, accepted, refused, tree_checked, row_steps, answer_within, answer_in}

-- ---- a file's row

-- The file has this head.
pub record HeadRead (file : List ℕ) (h : Head) : Type 0 where
  pub is : head format file ≡ Ok h

-- What is lent to read a row into: arrays with room for the most tokens.
pub record Arrays (kinds words : List ℕ) : Type 0 where
  pub for_kinds : most_tokens ≤ length kinds
  pub for_words : most_tokens ≤ length words

module _ (file : List ℕ) (room : ℕ) where
  -- The file has this head and a row of so many tokens, whose kinds and word numbers stand in front of the arrays.
  pub record FileRowTaken (h : Head) (count : ℕ) (kinds words : List ℕ) : Type 0 where
    pub taken : List RowToken
    pub is : file_row format file room ≡ passes (record { the_head = h; tokens = taken })
    pub is_count : count ≡ length taken
    pub kinds_in : take count kinds ≡ kinds_of taken
    pub words_in : take count words ≡ words_of taken

  -- Head and row, or the definition's refusal.
  abbrev pub FileAnswered : Result FileRow TypeNameError → (kinds words : List ℕ) → Type 0
  FileAnswered (Ok f) kinds words = FileRowTaken f.head f.count kinds words
  FileAnswered (Err e) kinds words = file_row format file room ≡ untouched e

  -- `read_file`. What the arrays hold behind the row, and after a refusal, is free.
  pub record ReadsFile (r : Result FileRow TypeNameError) (kinds words : List ℕ) : Type 0 where
    pub answered : FileAnswered r kinds words

-- A row of at most 1,024 tokens, and a tree buffer that has room for it.
pub record RowReady (kinds words tree : List ℕ) : Type 0 where
  pub few : length kinds ≤ most_tokens
  pub worded : length words ≡ length kinds
  pub room : numbers_per_token * length kinds ≤ length tree

-- ---- a row's tree

-- The tree of n nodes that was read in m steps, within the allowance, stands in front of the buffer, however it was read.
pub record TreeIn (kinds : List ℕ) (allowance : ℕ) (x : Nodes) (n m : ℕ) (tree : List ℕ) : Type 0 where
  pub allowed : m ≤ allowance
  pub counted : count x ≡ n
  pub few : n ≤ 2 * length kinds
  pub written : take (node_width * n) tree ≡ records x
  pub stands : Stands tree kinds 0 n x

-- A reading that comes to `o` where the allowance suffices: its tree, its refusal, or refusal 25.
abbrev pub TreeTold : (kinds : List ℕ) (allowance : ℕ) (o : RowAnswer) → Result Tree ParseError → (tree : List ℕ) → Type 0
TreeTold kinds allowance o (Ok t) tree = (x : Nodes) × (o ≡ accepted x t.steps) × TreeIn kinds allowance x t.nodes t.steps tree
TreeTold kinds allowance o (Err (ParseError.Refused e m)) tree = (m ≤ allowance) × (o ≡ refused e m)
TreeTold kinds allowance o (Err ParseError.AllowancePassed) tree = allowance < row_steps o

-- `read_tree`. What the buffer holds behind the tree, and after a refusal, is free.
pub record TreeSays (kinds : List ℕ) (allowance : ℕ) (o : RowAnswer) (r : Result Tree ParseError) (tree : List ℕ) : Type 0 where
  pub says : TreeTold kinds allowance o r tree

-- ---- its checks

-- A tree of n nodes, read in m steps, stands there.
pub record NodesReady (kinds words : List ℕ) (allowance n m : ℕ) (tree : List ℕ) : Type 0 where
  pub few : length kinds ≤ most_tokens
  pub worded : length words ≡ length kinds
  pub nodes : Nodes
  pub tree_in : TreeIn kinds allowance nodes n m tree

-- This is what some reading of the row comes to.
pub record CheckReady (kinds words : List ℕ) (allowance : ℕ) (r : Result Tree ParseError) (tree : List ℕ) : Type 0 where
  pub few : length kinds ≤ most_tokens
  pub worded : length words ≡ length kinds
  pub reading : RowAnswer
  pub tree_says : TreeSays kinds allowance reading r tree

-- The answer to a tree of so many nodes, after so many steps, by what its standard lacks.
abbrev pub profile_answer : (nodes steps : ℕ) → Option Feature → Answer
profile_answer nodes steps None = accepted_with nodes steps
profile_answer nodes steps (Some f) = refused_with (NotAvailableInProfile f) steps

-- The answer to a tree of so many nodes, by what the structure check left of the allowance and what the standard lacks.
abbrev pub verdict_answer : (nodes allowance : ℕ) → Option Feature → Verdict → Answer
verdict_answer nodes allowance lack (Ok left) = profile_answer nodes (allowance - left) lack
verdict_answer nodes allowance lack (Err (Fails left)) = refused_with NoTypeName (allowance - left)
verdict_answer nodes allowance lack (Err Spent) = refused_with AllowancePassed allowance

-- The tree of an accepted row stands in front of the buffer.
abbrev pub InFront : RowAnswer → (tree : List ℕ) → Type 0
InFront (accepted x m) tree = take (node_width * count x) tree ≡ records x
InFront (refused e m) tree = Unit {0}

-- The answer is the definition's, and its tree stands in front of the buffer. What the buffer holds behind the tree, and after a refusal, is free.
pub record ReadsRow (o : RowAnswer) (r : Answer) (tree : List ℕ) : Type 0 where
  pub answered : r ≡ answer_in (passes o)
  pub in_front : InFront o tree

module _ (h : Head) (kinds words : List ℕ) where
  -- The row's answer under the head's profile, flag and allowance, where its reading comes to `o`.
  abbrev pub row_checked : RowAnswer → RowAnswer
  row_checked o = answer_within h.allowance (tree_checked h.language h.standard h.flag kinds words o)

  -- `check_nodes`: of whatever tree stands there.
  pub record NodesSay (n m : ℕ) (tree : List ℕ) (r : Answer) : Type 0 where
    pub says : (x : Nodes) → TreeIn kinds h.allowance x n m tree → r ≡ answer_in (passes (row_checked (accepted x m)))

  -- `check_tree`: of whatever reading this is the outcome.
  pub record CheckSays (p : Result Tree ParseError) (tree : List ℕ) (r : Answer) : Type 0 where
    pub says : (o : RowAnswer) → TreeSays kinds h.allowance o p tree → ReadsRow (row_checked o) r tree

-- ---- the buffer

-- An accepted answer's nodes are within the buffer.
abbrev pub TreeFits : Answer → (tree : List ℕ) → Type 0
TreeFits (Ok a) tree = node_width * a.nodes ≤ length tree
TreeFits (Err r) tree = Unit {0}

-- The buffer with its tree kept, and zeros behind it.
abbrev pub settled : (tree : List ℕ) → Answer → List ℕ
settled tree (Ok a) = take (node_width * a.nodes) tree ++ replicate (length tree - node_width * a.nodes) 0
settled tree (Err r) = replicate (length tree) 0
