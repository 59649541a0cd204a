-- The answer to a row and to a file, and the final tree buffer: document 01, "Answer record".
-- Assumes nothing.
use Rattle.rows.specs.Answer.{accepted_with, refused_with, Answer}
use Rattle.rows.specs.declared.answer.Feature.{Feature}
use Rattle.std.specs.Prelude.{ℕ, ◌+◌, ◌-◌, Bool, not, ◌&&◌, List, [], ◌++◌, length, replicate, eqb, if◌then◌else◌, None, Option, Some}
use Rattle.rows.specs.Languages.{Cpp}
use Rattle.rows.specs.Format.{format, asks_structure}
use Rattle.rows.specs.Records.{kinds_of, words_of}
use Rattle.rows.specs.Allowance.{within}
use Rattle.rows.specs.declared.answer.TypeNameError.{TypeNameError}
use Rattle.rows.specs.declared.answer.TypeNameError.TheVariants.{UnexpectedTokenAfterTypeName, AllowancePassed, NoTypeName, NotAvailableInProfile}
use Rattle.prescan.specs.Prescan.{Scanned, passed, prescan}
use Rattle.prescan.specs.Prescan
use Rattle.reader.specs.Nodes.{Nodes, count, records}
use Rattle.reader.specs.Reading.{Got, got, bad, Fault, refusal, no_list, reading}
use Rattle.structure.specs.Said.{Said, holds, fails}
use Rattle.structure.specs.Syntax.{validate_structured_syntax}
use Rattle.profile.specs.Profile.{missing_feature}
use Rattle.type_name.specs.FileRow.{HeadRow, Outcome, untouched, passes, on_pass, file_row, entry_outcome}

-- ---- the answer to a row, place by place

-- What is answered to a row: its tree and the steps taken, or a refusal and the steps up to it.
pub data RowAnswer : Type 0 where
  accepted : Nodes → (steps : ℕ) → RowAnswer
  refused : TypeNameError → (steps : ℕ) → RowAnswer

-- "Places are tested in the table's order": the next place, told the tree and the steps so far, where the places so far let the row pass.
unfoldable pub on_tree : RowAnswer → (Nodes → (steps : ℕ) → RowAnswer) → RowAnswer
on_tree (accepted x m) next = next x m
on_tree (refused e m) next = refused e m

-- A fault of the whole row is always a refusal: a list that fails only fails inside a try.
unfoldable pub refusal_of_fault : Fault → TypeNameError
refusal_of_fault (refusal e) = e
refusal_of_fault no_list = UnexpectedTokenAfterTypeName

-- Not "23 tokens or half a `>>` left over".
unfoldable pub whole_row : (kinds : List ℕ) → (at : ℕ) (half : Bool) → Bool
whole_row kinds at half = eqb at (length kinds) && not half

-- The place "Reading: 20 .., 21 .., 22 .., 23 ..".
unfoldable pub tree_of : (kinds : List ℕ) → Got → RowAnswer
unfolding refusal_of_fault whole_row
tree_of kinds (bad e m) = refused (refusal_of_fault e) m
tree_of kinds (got x at half m) = if whole_row kinds at half then accepted x m else refused UnexpectedTokenAfterTypeName m

-- The places "Prescan" and "Row end", and then what the reading came to. "Steps are 0 up to 18."
unfoldable pub after_prescan : (kinds : List ℕ) → Got → Scanned → RowAnswer
unfolding tree_of
after_prescan kinds g (Prescan.refused e) = refused e 0
after_prescan kinds g (passed s) = tree_of kinds g

-- A row's tree, or why it has none: the places up to "Reading".
unfoldable pub row_tree : (language : ℕ) (kinds : List ℕ) → RowAnswer
unfolding after_prescan
row_tree language kinds = after_prescan kinds (reading (eqb language Cpp) kinds) (prescan language kinds)

-- "Structure, flag 1": with flag 0 it holds without a step.
unfoldable pub structure_of : (language flag : ℕ) (kinds words : List ℕ) → Nodes → Said
unfolding asks_structure
structure_of language flag kinds words x = if asks_structure flag then validate_structured_syntax language kinds words x else holds 0

-- "30 no type name"; its steps are added.
unfoldable pub by_structure : Nodes → (steps : ℕ) → Said → RowAnswer
by_structure x m (holds n) = accepted x (m + n)
by_structure x m (fails n) = refused NoTypeName (m + n)

-- "40 feature".
unfoldable pub by_profile : Nodes → (steps : ℕ) → Option Feature → RowAnswer
by_profile x m None = accepted x m
by_profile x m (Some f) = refused (NotAvailableInProfile f) m

-- The places "Structure" and "Profile", of a tree however it was read.
unfoldable pub tree_checked : (language standard flag : ℕ) (kinds words : List ℕ) → RowAnswer → RowAnswer
unfolding by_structure structure_of by_profile
tree_checked language standard flag kinds words a =
    on_tree (on_tree a λ x m. by_structure x m (structure_of language flag kinds words x)) λ x m.
    by_profile x m (missing_feature language standard kinds words)

-- The answer to a row under one profile and flag, given by its token kinds and word numbers, where the allowance suffices.
unfoldable pub unlimited : (language standard flag : ℕ) (kinds words : List ℕ) → RowAnswer
unfolding tree_checked row_tree
unlimited language standard flag kinds words = tree_checked language standard flag kinds words (row_tree language kinds)

-- The steps of a row's answer.
unfoldable pub row_steps : RowAnswer → ℕ
row_steps (accepted x m) = m
row_steps (refused e m) = m

-- "25 step count would pass the allowance, and only then"; its steps are "the allowance for 25".
unfoldable pub answer_within : (allowance : ℕ) → RowAnswer → RowAnswer
unfolding row_steps
answer_within allowance a = within allowance (row_steps a) a (refused AllowancePassed allowance)

-- The "Answer record" of a row under an allowance.
unfoldable pub answer_of : (language standard flag : ℕ) → (kinds words : List ℕ) → (allowance : ℕ) → RowAnswer
unfolding answer_within unlimited
answer_of language standard flag kinds words allowance = answer_within allowance (unlimited language standard flag kinds words)

-- ---- the answer to a file

-- The answer to its row, under the head's profile, flag and allowance.
unfoldable pub row_answer : HeadRow → RowAnswer
unfolding answer_of kinds_of words_of
row_answer r =
    answer_of r.the_head.language r.the_head.standard r.the_head.flag (kinds_of r.tokens) (words_of r.tokens) r.the_head.allowance

-- What comes of a file with a tree buffer of `room` numbers.
unfoldable pub outcome : (file : List ℕ) (room : ℕ) → Outcome RowAnswer
unfolding on_pass file_row row_answer
outcome file room = entry_outcome format row_answer file room

-- "Accepted: node count, steps. Refused: number, token, detail, steps."
unfoldable pub answer_in : Outcome RowAnswer → Answer
answer_in (untouched e) = refused_with e 0
answer_in (passes (accepted x m)) = accepted_with (count x) m
answer_in (passes (refused e m)) = refused_with e m

-- The "Answer record" of any file with a tree buffer of any length.
unfoldable pub answer : (file : List ℕ) (room : ℕ) → Answer
unfolding answer_in outcome
answer file room = answer_in (outcome file room)

-- ---- the final tree buffer

-- "The tree buffer's numbers after the tree are 0."
unfoldable pub filled : (room : ℕ) → List ℕ → List ℕ
filled room numbers = numbers ++ replicate (room - length numbers) 0

-- "Refusals 1 to 6 don't touch the tree buffer; all others fill it with zeros."
unfoldable pub buffer_in : (before : List ℕ) → Outcome RowAnswer → List ℕ
unfolding filled
buffer_in before (untouched e) = before
buffer_in before (passes (accepted x m)) = filled (length before) (records x)
buffer_in before (passes (refused e m)) = filled (length before) []

-- What the tree buffer holds in the end: demand 1's "the buffer's contents fixed in each case".
unfoldable pub final_buffer : (file before : List ℕ) → List ℕ
unfolding buffer_in outcome
final_buffer file before = buffer_in before (outcome file (length before))
