-- The three demands, clause by clause. `file` is the file handed in, `before` what the tree buffer held at entry, `a` the answer, `after` what the
-- buffer holds at exit. The entry's contract cites these by name.
-- Assumes nothing.
use Rattle.rows.specs.Answer.{accepted_with, Answer}
use Rattle.std.specs.Prelude.{ℕ, ◌*◌, ◌≤◌, ◌<◌, ◌≡◌, ◌↔◌, length, take, drop, replicate, Ok}
use mathlib.Core.List.{List, [], map, Memᴰ}
use Rattle.rows.specs.Kinds.{LeftParen, LeftBracket, ShiftRight}
use Rattle.rows.specs.Format.{format, head_length, most_tokens, SameOrLater}
use Rattle.rows.specs.Records.{RowToken, row, head, records_from, kinds_of}
use Rattle.rows.specs.Refusals.{refusal_of}
use Rattle.rows.specs.declared.answer.TypeNameError.{TypeNameError}
use Rattle.rows.specs.declared.head.Head.{Head}
use Rattle.prescan.specs.Matcher.{Pair, Paired}
use Rattle.reader.specs.Nodes.{Nodes, g_node, b_node, count, numbers_per_token, records}
use Rattle.reader.specs.Reading.{MAX_NESTING_DEPTH}
use Rattle.reader.specs.Written.{Token, written, halved, closing_angles, without_closing_angles}
use Rattle.reader.specs.Standing.{depth, tokens_of, tokens_of_kind, IsGroup, Below}
use Rattle.reader.specs.Nodes.{token_of}
use Rattle.type_name.specs.FileRow.{Outcome, passes}
use Rattle.type_name.specs.AnswerNumbers.{answer_numbers}
use Rattle.type_name.specs.Answers.{RowAnswer, accepted, outcome, answer, filled, final_buffer}

-- ---- demands 1 and 2

-- "A caller may hand in arbitrary bytes, any profile and any tree buffer, and gets a tree or one numbered refusal", the definition's: "tree or
-- refusal .. is proved equal to a definition written from document 01".
abbrev pub Answered : (file before : List ℕ) → Answer → Type 0
Answered file before a = a ≡ answer file (length before)

-- "A definition states this paper's number and values for each of the enum's cases. The promises use that definition": its numbers are those of the
-- definition's answer.
abbrev pub Numbered : (file before : List ℕ) → Answer → Type 0
Numbered file before a = answer_numbers a ≡ answer_numbers (answer file (length before))

-- "with the buffer's contents fixed in each case".
abbrev pub Buffered : (file before after : List ℕ) → Type 0
Buffered file before after = after ≡ final_buffer file before

-- "Refusals 1 to 6": the last of them.
abbrev pub last_untouched : ℕ
last_untouched = 6

-- "Refusals 1 to 6 don't touch the tree buffer; all others fill it with zeros."
pub record RefusedBuffer (before after : List ℕ) (e : TypeNameError) : Type 0 where
  pub kept : (refusal_of e).number ≤ last_untouched → after ≡ before
  pub zeroed : last_untouched < (refusal_of e).number → after ≡ replicate (length before) 0

-- ---- demand 3: "Whatever row is accepted, under whichever profile, flag and allowance and whatever the tree buffer held before"

-- "Whatever row is accepted": the file was accepted, with this row, this tree in front of the buffer, and these steps.
pub record AcceptedAs (file : List ℕ) (a : Answer) (after : List ℕ) (ts : List RowToken) (x : Nodes) (steps : ℕ) : Type 0 where
  pub answered : a ≡ accepted_with (count x) steps
  pub row_read : records_from format file most_tokens head_length ≡ row ts
  pub tree_held : take (length (records x)) after ≡ records x

-- Such a row and tree, where the definition says `o` of the file: its tree, zeros after it.
pub record TreeOf (o : Outcome RowAnswer) (file before : List ℕ) (a : Answer) (after : List ℕ) (steps : ℕ) : Type 0 where
  pub tokens : List RowToken
  pub tree : Nodes
  pub accepted_as : AcceptedAs file a after tokens tree steps
  pub defined : o ≡ passes (accepted tree steps)
  pub whole : after ≡ filled (length before) (records tree)

-- Every accepted file has a row and a tree, and "its tree is the one that demand 2's definition gives".
abbrev pub HasTree : (file before : List ℕ) (a : Answer) (after : List ℕ) (steps : ℕ) → Type 0
HasTree file before a after steps = TreeOf (outcome file (length before)) file before a after steps

-- "Its tree is the one that demand 2's definition gives".
abbrev pub TreeDefined : (file before : List ℕ) → Answer → (after : List ℕ) → Type 0
TreeDefined file before a after = (nodes steps : ℕ) → a ≡ accepted_with nodes steps → HasTree file before a after steps

-- "and nests at most 64 deep".
abbrev pub Nested : (file : List ℕ) → Answer → (after : List ℕ) → Type 0
Nested file a after = (ts : List RowToken) (x : Nodes) (steps : ℕ) → AcceptedAs file a after ts x steps → depth x ≤ MAX_NESTING_DEPTH

-- "Document 01's plain matcher pairs all its brackets", and the groups stand there.
pub record BracketsOf (kinds : List ℕ) (x : Nodes) : Type 0 where
  -- "document 01's plain matcher pairs all its brackets"
  pub pairs : List Pair
  pub paired : Paired kinds pairs
  -- "every `(` has exactly one G, every `[` exactly one B, no other G or B stands in the tree"
  pub one_g_each : tokens_of g_node x ≡ tokens_of_kind LeftParen 0 kinds
  pub one_b_each : tokens_of b_node x ≡ tokens_of_kind LeftBracket 0 kinds
  -- every G and B has its opener's partner
  pub partner : (n : ℕ) → n < count x → IsGroup (records x) n → (p : Pair) × Memᴰ p pairs × (p.opener ≡ token_of (records x) n)
  -- "and below each stand exactly the nodes whose token lies between its opener and that opener's partner"
  pub below_each : (n m : ℕ) → n < count x → m < count x → IsGroup (records x) n → (p : Pair) → Memᴰ p pairs → p.opener ≡ token_of (records x) n
      → Below (records x) n m ↔ ((p.opener < token_of (records x) m) × (token_of (records x) m < p.closer))

-- "every `(` has exactly one G ..": of the accepted tree.
abbrev pub BracketsPaired : (file : List ℕ) → Answer → (after : List ℕ) → Type 0
BracketsPaired file a after = (ts : List RowToken) (x : Nodes) (steps : ℕ) → AcceptedAs file a after ts x steps → BracketsOf (kinds_of ts) x

-- A row as the write-out sees it: "lists of kinds, with the word at kind 0".
abbrev pub tokens_in : List RowToken → List Token
tokens_in ts = map (λ (t : RowToken). record { kind = t.kind; word = t.word }) ts

-- "The tree written out and the row, each `>>` in both taken as two `>`,
pub record WrittenAs (row : List Token) (kinds : List ℕ) (x : Nodes) : Type 0 where
  -- have `>` equally often,
  pub closing_angles_as_often : closing_angles (halved (written row x)) ≡ closing_angles (halved row)
  -- are the same list once every `>` is left out,
  pub else_same : without_closing_angles (halved (written row x)) ≡ without_closing_angles (halved row)
  -- and are the same list throughout if the row has no `>>`."
  pub same_throughout : tokens_of_kind ShiftRight 0 kinds ≡ [] → written row x ≡ row

-- "The tree written out and the row": of the accepted tree.
abbrev pub WrittenOut : (file : List ℕ) → Answer → (after : List ℕ) → Type 0
WrittenOut file a after = (ts : List RowToken) (x : Nodes) (steps : ℕ) → AcceptedAs file a after ts x steps → WrittenAs (tokens_in ts) (kinds_of ts) x

-- Another file: the same row and "the same flag", "every allowance not below those steps, together with the same or any later standard of that
-- language"; and a buffer that is long enough.
pub record NotBelow (file file' before' : List ℕ) (ts : List RowToken) (steps : ℕ) : Type 0 where
  pub head_of : Head
  pub head_of' : Head
  pub formed : head format file ≡ Ok head_of
  pub formed' : head format file' ≡ Ok head_of'
  pub same_language : head_of'.language ≡ head_of.language
  pub same_or_later : SameOrLater head_of.standard head_of'.standard
  pub same_flag : head_of'.flag ≡ head_of.flag
  pub same_records : drop head_length file' ≡ drop head_length file
  pub enough : steps ≤ head_of'.allowance
  pub room : numbers_per_token * length ts ≤ length before'

-- "With the same flag the same tree, node count and steps come back".
abbrev pub Stable : (file : List ℕ) → Answer → (after : List ℕ) → Type 0
Stable file a after =
    (ts : List RowToken) (x : Nodes) (steps : ℕ) → AcceptedAs file a after ts x steps → (file' before' : List ℕ) → NotBelow file file' before' ts steps
    → (answer file' (length before') ≡ accepted_with (count x) steps) × (final_buffer file' before' ≡ filled (length before') (records x))

-- ---- the contract

-- The three demands of one call; the entry's contract is this.
pub record Promised (file before : List ℕ) (a : Answer) (after : List ℕ) : Type 0 where
  pub answered : Answered file before a
  pub numbered : Numbered file before a
  pub buffered : Buffered file before after
  pub tree_defined : TreeDefined file before a after
  pub nested : Nested file a after
  pub brackets_paired : BracketsPaired file a after
  pub written_out : WrittenOut file a after
  pub stable : Stable file a after
