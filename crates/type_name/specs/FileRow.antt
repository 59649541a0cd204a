-- A file's head and row, or a refusal that touches no buffer: the first three places of document 01's table, "File", "Each record in turn", "Buffer".
-- Assumes nothing.
use Rattle.std.specs.Prelude.{ℕ, ◌*◌, List, length, ltb, if◌then◌else◌, Err, Ok, Result}
use Rattle.rows.specs.Format.{head_length, most_tokens}
use Rattle.rows.specs.Records.{RowToken, Row, row, head, records_from}
use Rattle.rows.specs.Records
use Rattle.rows.specs.declared.format.Format.{Format}
use Rattle.rows.specs.declared.answer.TypeNameError.{TypeNameError}
use Rattle.rows.specs.declared.answer.TypeNameError.TheVariants.{ShortBuffer}
use Rattle.rows.specs.declared.head.Head.{Head}
use Rattle.reader.specs.Nodes.{numbers_per_token}

-- What comes of a file: "Refusals 1 to 6 don't touch the tree buffer"; or something is read, and what is answered to it is the parameter.
pub data Outcome (A : Type 0) : Type 0 where
  untouched : TypeNameError → Outcome A
  passes : A → Outcome A

-- "Places are tested in the table's order": the next place, where the places so far let the file pass.
unfoldable pub on_pass : {A B : Type 0} → Outcome A → (A → Outcome B) → Outcome B
on_pass (untouched e) next = untouched e
on_pass (passes a) next = next a

-- A file is "one head record and then token records to its end".
pub record HeadRow : Type 0 where
  pub the_head : Head
  pub tokens : List RowToken

-- The place "File": refusals 1 to 3.
unfoldable pub head_read : Result Head TypeNameError → Outcome Head
head_read (Err e) = untouched e
head_read (Ok h) = passes h

-- The place "Each record in turn": refusals 5 and 4.
unfoldable pub row_read : Row → Outcome (List RowToken)
row_read (Records.refused e) = untouched e
row_read (row ts) = passes ts

-- The place "Buffer: 6 fewer than 6 numbers per token".
unfoldable pub with_room : (room : ℕ) → Head → List RowToken → Outcome HeadRow
with_room room h ts = if ltb room (numbers_per_token * length ts) then untouched ShortBuffer else passes (record { the_head = h; tokens = ts })

-- The head and the row of a file, with a tree buffer of `room` numbers.
unfoldable pub file_row : Format → (file : List ℕ) (room : ℕ) → Outcome HeadRow
unfolding on_pass head_read row_read with_room
file_row f file room =
    on_pass (head_read (head f file)) λ h.
    on_pass (row_read (records_from f file most_tokens head_length)) λ ts.
    with_room room h ts

-- What comes of a file in a format with a tree buffer of `room` numbers, by an entry that answers so to the head and the row that it reads. "Places are
-- tested in the table's order."
abbrev pub entry_outcome : {A : Type 0} → Format → (HeadRow → A) → (file : List ℕ) (room : ℕ) → Outcome A
entry_outcome f answers file room = on_pass (file_row f file room) λ r. passes (answers r)
