-- What is proved of the entry that takes template names, on one page: each theorem with what it means. The proofs are in Laws/ and in the crates below.
-- Assumes nothing.
use Rattle.rows.specs.Answer.{refused_with, Answer}
use Rattle.std.specs.Prelude.{ℕ, ◌≤◌, ◌≡◌, Bool, true, false, List, length}
use Rattle.std.proofs.Math.Path.{ap}
use Rattle.rows.specs.Languages.{Cpp}
use Rattle.rows.specs.Format.{format, head_length, most_tokens}
use Rattle.rows.specs.Records.{RowToken, row, records_from, kinds_of}
use Rattle.rows.specs.Refusals.{refusal_of}
use Rattle.rows.specs.Laws.RowFacts.{GoodTokens}
use Rattle.rows.specs.declared.answer.TypeNameError.{TypeNameError}
use Rattle.names.specs.NameList.{listed, name_list, names_marked}
use Rattle.reader.specs.Nodes.{Nodes}
use Rattle.reader.specs.Reading.{got, reading}
use Rattle.reader.specs.Allowance.{steps}
use Rattle.named_reader.specs.NamedReading.{named_reading}
use Rattle.type_name.specs.FileRow.{HeadRow, passes, file_row}
use Rattle.type_name.specs.Answers.{outcome, answer_in, answer, buffer_in, final_buffer}
use Rattle.named_answers.specs.NamedAnswers.{named_outcome, answer_named, buffer_named}
use Rattle.named_answers.specs.NamedPromises.{NamedAnswered, NamedBuffered, NamedPromised, NoneFollowed, ReadRight, SameNames}
use Rattle.named_answers.specs.Laws.NamedPromised as Laws
use Rattle.named_answers.specs.Laws.Beside as Beside

-- ---- every file, every name list, every buffer

-- Whatever answer and buffer are the definition's keep all the promises: which refusals there are and what the buffer then holds, and of an accepted row
-- that its tree is the definition's, nests at most 64 deep, has its groups where the plain matcher pairs brackets, is written out in its own order, and
-- comes back with the same names.
pub promised : (file names before : List ℕ) (a : Answer) (after : List ℕ) → NamedAnswered file names before a → NamedBuffered file names before after
    → NamedPromised file names before a after
promised = Laws.named_promised

-- "So 21 to 23 don't occur here."
pub never_21_to_23 : (file names : List ℕ) (room : ℕ) (e : TypeNameError) (m : ℕ) → answer_named file names room ≡ refused_with e m → 21 ≤ (refusal_of e).number → (refusal_of e).number ≤ 23 → ⊥
never_21_to_23 = Laws.never_21_to_23

-- "A step in reading is one T, G, B or L begun .. so they are at most the tokens": of the reading, whether it comes to a tree or to a refusal.
pub steps_in_reading : (named : List Bool) (kinds : List ℕ) → steps (named_reading named kinds) ≤ length kinds
steps_in_reading = Laws.steps_in_reading

-- ---- one name list beside another

-- Two lists that pass 8 and hold the same words of the row where a `<` follows get the same answer, and leave the same in the buffer.
module _ (file names names' : List ℕ) (ns ns' : List (List ℕ)) (is_listed : name_list names ≡ listed ns) (is_listed' : name_list names' ≡ listed ns')
    (agree : (ts : List RowToken) → records_from format file most_tokens head_length ≡ row ts → SameNames ns ts ns') where
  pub same_answer : (room : ℕ) → answer_named file names room ≡ answer_named file names' room
  unfolding answer_named
  same_answer room = ap answer_in (Beside.same_outcome file names names' ns ns' is_listed is_listed' agree room)

  pub same_buffer : (before : List ℕ) → buffer_named file names before ≡ buffer_named file names' before
  unfolding buffer_named
  same_buffer before = ap (buffer_in before) (Beside.same_outcome file names names' ns ns' is_listed is_listed' agree (length before))

-- ---- beside the old entry, of a row that passes 1 to 6 and names that pass 8

-- If no `<` follows a name, the reading (tree or 20, and steps) is the old one with no list tried,
pub read_without_lists : (ns : List (List ℕ)) (ts : List RowToken) → GoodTokens ts → NoneFollowed ns ts → named_reading (names_marked ns ts) (kinds_of ts) ≡ reading false (kinds_of ts)
read_without_lists = Beside.read_without_lists

module _ (file names : List ℕ) (room : ℕ) (r : HeadRow) (is_row : file_row format file room ≡ passes r) (ns : List (List ℕ)) (is_listed : name_list names ≡ listed ns) where
  -- and 26 and 27 do not occur.
  pub never_26_or_27 : NoneFollowed ns r.tokens → (e : TypeNameError) (m : ℕ) → answer_named file names room ≡ refused_with e m → Beside.NotNew e
  never_26_or_27 = Beside.never_26_or_27 file names room r is_row ns is_listed

  -- Where the old reading gave a tree, the row has no `>>`, no try failed in it and the word before each of its lists is a name, answer and buffer are the old
  -- entry's: whoever moves to this entry keeps what was right.
  module _ (cpp : r.the_head.language ≡ Cpp) {x : Nodes} {at : ℕ} {half : Bool} {m : ℕ} (e : reading true (kinds_of r.tokens) ≡ got x at half m) (right : ReadRight ns r.tokens x) where
    pub as_the_old : answer_named file names room ≡ answer file room
    unfolding answer_named answer
    as_the_old = ap answer_in (Beside.as_the_old file names room r is_row ns is_listed cpp e right)

    pub buffer_as_the_old : (before : List ℕ) → length before ≡ room → buffer_named file names before ≡ final_buffer file before
    unfolding buffer_named final_buffer
    buffer_as_the_old before q =
        let same : named_outcome file names (length before) ≡ outcome file (length before) =
        rw q (Beside.as_the_old file names room r is_row ns is_listed cpp e right) in
        ap (buffer_in before) same
