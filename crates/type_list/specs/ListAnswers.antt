-- The answer to a list of types and the final tree buffer: document 02, C-12.
-- Assumes nothing.
use Rattle.type_list.specs.ListAnswer.{list_accepts, list_refuses, ListAnswer, no_part}
use Rattle.std.specs.Prelude.{ℕ, suc, ◌+◌, ◌-◌, List, [], ◌∷◌, ◌++◌, length}
use Rattle.rows.specs.Format.{format}
use Rattle.rows.specs.Records.{RowToken, kinds_of, words_of}
use Rattle.rows.specs.declared.answer.TypeNameError.{TypeNameError}
use Rattle.reader.specs.Nodes.{Nodes, count, records}
use Rattle.type_name.specs.FileRow.{HeadRow, Outcome, untouched, passes, on_pass, file_row, entry_outcome}
use Rattle.type_name.specs.Answers.{RowAnswer, answer_of, filled}
use Rattle.type_name.specs.Answers
use Rattle.type_list.specs.Parts.{parts}

-- ---- the answer to a row's parts

-- What is answered to parts: their trees and the steps taken, or a refusal, the steps up to it, and its part.
pub data PartsAnswer : Type 0 where
  accepted : (trees : List Nodes) (steps : ℕ) → PartsAnswer
  refused : TypeNameError → (steps part : ℕ) → PartsAnswer

-- A part was accepted before these: "steps are summed over the parts, in refusals 10 to 18 too", and a refusal's part is counted from the first.
unfoldable pub behind : Nodes → (steps : ℕ) → PartsAnswer → PartsAnswer
behind x m (accepted xs n) = accepted (x ∷ xs) (m + n)
behind x m (refused e n part) = refused e (m + n) (suc part)

-- "The first part refused decides the answer": the parts behind one, told its steps, where it is accepted.
unfoldable pub on_part : RowAnswer → ((steps : ℕ) → PartsAnswer) → PartsAnswer
unfolding behind
on_part (Answers.accepted x m) next = behind x m (next m)
on_part (Answers.refused e m) next = refused e m 0

-- "Each part as its own row"; "the allowance is shared, first part first".
unfoldable pub parts_answer : (language standard flag : ℕ) → List (List RowToken) → (allowance : ℕ) → PartsAnswer
unfolding on_part answer_of kinds_of words_of
parts_answer language standard flag [] allowance = accepted [] 0
parts_answer language standard flag (p ∷ ps) allowance =
    on_part (answer_of language standard flag (kinds_of p) (words_of p) allowance) λ m. parts_answer language standard flag ps (allowance - m)

-- ---- the answer to a file

-- The answer to its row's parts, under the head's profile, flag and allowance.
unfoldable pub row_parts_answer : HeadRow → PartsAnswer
unfolding parts_answer parts
row_parts_answer r =
    parts_answer r.the_head.language r.the_head.standard r.the_head.flag (parts r.the_head.language r.tokens) r.the_head.allowance

-- What comes of a file with a tree buffer of `room` numbers: refusals 1 to 6 as ever, then the parts of its row.
unfoldable pub list_outcome : (file : List ℕ) (room : ℕ) → Outcome PartsAnswer
unfolding on_pass file_row row_parts_answer
list_outcome file room = entry_outcome format row_parts_answer file room

-- "Nodes in all".
unfoldable pub nodes_in_all : List Nodes → ℕ
nodes_in_all [] = 0
nodes_in_all (x ∷ xs) = count x + nodes_in_all xs

-- "Accepted: parts, nodes in all, steps; a refusal adds its part, 65,535 before any."
unfoldable pub list_answer_in : Outcome PartsAnswer → ListAnswer
unfolding nodes_in_all
list_answer_in (untouched e) = list_refuses e 0 no_part
list_answer_in (passes (accepted xs m)) = list_accepts (length xs) (nodes_in_all xs) m
list_answer_in (passes (refused e m part)) = list_refuses e m part

-- The answer to any file with a tree buffer of any length.
unfoldable pub list_answer : (file : List ℕ) (room : ℕ) → ListAnswer
unfolding list_answer_in list_outcome
list_answer file room = list_answer_in (list_outcome file room)

-- ---- the final tree buffer

-- "The trees stand in the buffer one after another."
unfoldable pub records_in_all : List Nodes → List ℕ
records_in_all [] = []
records_in_all (x ∷ xs) = records x ++ records_in_all xs

-- Document 01's "Refusals 1 to 6 don't touch the tree buffer; all others fill it with zeros" and "The tree buffer's numbers after the tree are 0".
unfoldable pub list_buffer_in : (before : List ℕ) → Outcome PartsAnswer → List ℕ
unfolding filled records_in_all
list_buffer_in before (untouched e) = before
list_buffer_in before (passes (accepted xs m)) = filled (length before) (records_in_all xs)
list_buffer_in before (passes (refused e m part)) = filled (length before) []

-- What the tree buffer holds in the end.
unfoldable pub list_buffer : (file before : List ℕ) → List ℕ
unfolding list_buffer_in list_outcome
list_buffer file before = list_buffer_in before (list_outcome file (length before))
