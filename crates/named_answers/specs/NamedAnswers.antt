-- The answer to a file whose template names are given, and the final tree buffer: document 02, C-17.
-- Assumes nothing.
use Rattle.rows.specs.Answer.{Answer}
use Rattle.std.specs.Prelude.{ℕ, Bool, List, length, eqb, if◌then◌else◌}
use Rattle.rows.specs.Languages.{Cpp}
use Rattle.rows.specs.Format.{format}
use Rattle.rows.specs.Records.{kinds_of, words_of}
use Rattle.rows.specs.declared.answer.TypeNameError.TheVariants.{InvalidNameList}
use Rattle.names.specs.NameList.{NameList, listed, malformed, name_list, names_marked}
use Rattle.prescan.specs.Prescan.{prescan}
use Rattle.named_reader.specs.NamedReading.{named_reading}
use Rattle.type_name.specs.FileRow.{HeadRow, Outcome, entry_outcome, on_pass, file_row}
use Rattle.type_name.specs.Answers.{RowAnswer, refused, after_prescan, tree_checked, answer_within, answer_in, buffer_in}

-- ---- the answer to a row, given of each token whether it is "one of those names"

-- A row's tree, or why it has none: the prescan, the row's end and, "after prescan", the reading with names.
unfoldable pub named_tree : (named : List Bool) (kinds : List ℕ) → RowAnswer
unfolding after_prescan
named_tree named kinds = after_prescan kinds (named_reading named kinds) (prescan Cpp kinds)

-- "Structure and profile follow as before", within the allowance: the "Answer record" of a row.
unfoldable pub named_row : (standard flag : ℕ) (named : List Bool) (kinds words : List ℕ) (allowance : ℕ) → RowAnswer
unfolding answer_within tree_checked named_tree
named_row standard flag named kinds words allowance = answer_within allowance (tree_checked Cpp standard flag kinds words (named_tree named kinds))

-- ---- the answer to a file and a name list

-- "8 name list malformed"; or the row's answer, with the names marked in it.
unfoldable pub by_names : HeadRow → NameList → RowAnswer
unfolding named_row names_marked kinds_of words_of
by_names r malformed = refused InvalidNameList 0
by_names r (listed names) =
    named_row r.the_head.standard r.the_head.flag (names_marked names r.tokens) (kinds_of r.tokens) (words_of r.tokens) r.the_head.allowance

-- "8 .. or language not C++, checked after 6".
unfoldable pub named_answer : (names : List ℕ) → HeadRow → RowAnswer
unfolding by_names name_list
named_answer names r = if eqb r.the_head.language Cpp then by_names r (name_list names) else refused InvalidNameList 0

-- What comes of a file and a name list, with a tree buffer of `room` numbers.
unfoldable pub named_outcome : (file names : List ℕ) (room : ℕ) → Outcome RowAnswer
unfolding on_pass file_row named_answer
named_outcome file names room = entry_outcome format (named_answer names) file room

-- The "Answer record".
unfoldable pub answer_named : (file names : List ℕ) (room : ℕ) → Answer
unfolding answer_in named_outcome
answer_named file names room = answer_in (named_outcome file names room)

-- What the tree buffer holds in the end: "Refusals 1 to 6 don't touch the tree buffer; all others fill it with zeros", 8 too.
unfoldable pub buffer_named : (file names before : List ℕ) → List ℕ
unfolding buffer_in named_outcome
buffer_named file names before = buffer_in before (named_outcome file names (length before))
