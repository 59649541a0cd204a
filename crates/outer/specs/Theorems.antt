-- What is proved of the definitions, on one page: each theorem with what it means. The proofs are in Laws/.
-- Assumes nothing.
use Rattle.rows.specs.Answer.{Answer}
use Rattle.std.specs.Prelude.{ℕ, ◌≡◌, ◌≢◌, List, ◌∷◌, ◌++◌, length, get_or}
use Rattle.rows.specs.Records.{kinds_of}
use Rattle.reader.specs.Nodes.{l_node, Nodes, number, records}
use Rattle.type_name.specs.Answers.{accepted, answer_of, filled}
use Rattle.type_name.specs.Promises.{TreeOf, HasTree}
use Rattle.type_list.specs.ListPromises.{PartTree, AcceptedList}
use Rattle.named_answers.specs.NamedAnswers.{named_outcome}
use Rattle.outer.specs.Formed.{TreeFormed}
use Rattle.outer.specs.OuterTemplate.{outer_arguments}
use Rattle.outer.specs.ByExtents.{outer_by_extents}
use Rattle.outer.specs.OuterPromises.{AgreesWith, WordsBeforeLists, OuterPromised}
use Rattle.outer.specs.Laws.ReadTrees as ReadTrees
use Rattle.outer.specs.Laws.Words as Words
use Rattle.outer.specs.Laws.Counted as Counted
use Rattle.outer.specs.Laws.Buffers as Buffers
use Rattle.outer.specs.Laws.Promised as Promised

-- Whatever answer is the definition's keeps all promises: of numbers that agree with a formed tree in kind and extent at its first two nodes and its
-- list's argument nodes it is the tree's count; it is a number other than 0 exactly if a word and a list of so many arguments stand in front.
pub promised : (numbers : List ℕ) (answer : ℕ) → answer ≡ outer_by_extents numbers → OuterPromised numbers answer
promised = Promised.promised

-- ---- which trees are formed

-- Every accepted tree: an L stands behind a word and above arguments, one at least, an A above some node, a T above none.
pub accepted_formed : (language standard flag : ℕ) (kinds words : List ℕ) (allowance : ℕ) {x : Nodes} {steps : ℕ} → answer_of language standard flag kinds words allowance ≡ accepted x steps → TreeFormed kinds x
accepted_formed = ReadTrees.accepted_formed

-- So the node before an L is a word, by the node records.
pub words_before_lists : (kinds : List ℕ) (x : Nodes) → TreeFormed kinds x → WordsBeforeLists kinds x
words_before_lists = Words.words_before_lists

-- "For an accepted tree the answer is the one counted from the full tree, and it stays whatever numbers stand outside the first two nodes and the list's
-- argument nodes."
pub stays : (language standard flag : ℕ) (kinds words : List ℕ) (allowance : ℕ) {x : Nodes} {steps : ℕ} → answer_of language standard flag kinds words allowance ≡ accepted x steps
    → (numbers : List ℕ) → AgreesWith kinds x numbers → outer_by_extents numbers ≡ outer_arguments kinds x
stays language standard flag kinds words allowance {x} e numbers a = Counted.counted numbers kinds x (accepted_formed language standard flag kinds words allowance e) a

-- ---- the buffers that entries leave

-- Whatever stands behind a tree, if it does not begin with an L: the tree is counted.
pub in_front : (kinds : List ℕ) (x : Nodes) (rest : List ℕ) → TreeFormed kinds x → get_or rest 0 0 ≢ number l_node → outer_by_extents (records x ++ rest) ≡ outer_arguments kinds x
in_front = Buffers.in_front

-- The buffer that `type_name_read` leaves,
pub read_buffer : {file before after : List ℕ} {a : Answer} {steps : ℕ} (t : HasTree file before a after steps) → outer_by_extents after ≡ outer_arguments (kinds_of t.tokens) t.tree
read_buffer t = Buffers.read_buffer t

-- and that buffer cut to the tree or anywhere behind it.
pub cut_buffer : {file before after : List ℕ} {a : Answer} {steps : ℕ} (t : HasTree file before a after steps) (room : ℕ) → outer_by_extents (filled room (records t.tree)) ≡ outer_arguments (kinds_of t.tokens) t.tree
cut_buffer t room = Buffers.cut_buffer t room

-- The same of what `type_name_read_named` leaves.
pub named_buffer : (names : List ℕ) {file before after : List ℕ} {a : Answer} {steps : ℕ} (t : TreeOf (named_outcome file names (length before)) file before a after steps)
    → outer_by_extents after ≡ outer_arguments (kinds_of t.tokens) t.tree
named_buffer names t = Buffers.named_buffer names t

pub cut_named_buffer : (names : List ℕ) {file before after : List ℕ} {a : Answer} {steps : ℕ} (t : TreeOf (named_outcome file names (length before)) file before a after steps) (room : ℕ)
    → outer_by_extents (filled room (records t.tree)) ≡ outer_arguments (kinds_of t.tokens) t.tree
cut_named_buffer names t room = Buffers.cut_named_buffer names t room

-- The buffer that `type_name_read_list` leaves: the first part's tree is counted.
pub first_part : {file before after : List ℕ} {parts nodes steps : ℕ} (l : AcceptedList file before after parts nodes steps) (p : PartTree) (ps : List PartTree)
    → l.read ≡ p ∷ ps → outer_by_extents after ≡ outer_arguments (kinds_of p.part) p.tree
first_part l = Buffers.first_part l
