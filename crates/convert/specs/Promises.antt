-- What document 02 says of the two conversions in words: C-14 and C-16.
-- Assumes nothing.
use Rattle.rows.specs.declared.answer.TypeNameError.{TypeNameError}
use Rattle.std.specs.Prelude.{ℕ, ◌≤◌, ◌<◌, ◌≡◌, ◌⊎◌, List, [], ◌∷◌, length, Err, Ok, Result}
use Rattle.rows.specs.Format.{format, old_format, meant}
use Rattle.rows.specs.declared.format.Format.{Format}
use Rattle.rows.specs.declared.answer.TypeNameError.TheVariants.{FileTooLong, ShortBuffer, OffsetOver32Bits}
use Rattle.type_name.specs.FileRow.{passes, file_row, entry_outcome}
use Rattle.type_name.specs.Answers.{row_answer, answer_in, answer, buffer_in, final_buffer}
use Rattle.rule_answers.specs.MatchAnswers.{row_match, match_in, match_answer, match_buffer_in, match_buffer}
use Rattle.type_list.specs.ListAnswers.{row_parts_answer, list_answer_in, list_answer, list_buffer_in, list_buffer}
use Rattle.named_answers.specs.NamedAnswers.{named_answer, answer_named, buffer_named}
use Rattle.convert.specs.Standards.{returned_standard}
use Rattle.convert.specs.Fields.{TokenFields, Fields, fields_of, file_bytes}
use Rattle.convert.specs.Conversions.{numbers_32, widened}
use Rattle.convert.specs.SameRow.{Alike}

-- "A converted file gets the answer and tree its old file would get if still read": by every entry, its definition with the old file's format in
-- `format`'s place, whatever the tree buffer's length and contents.
pub record StillRead (f : Format) (old new : List ℕ) : Type 0 where
  -- the same head as meant, the same kinds and words,
  pub same_row : (room : ℕ) → Alike (file_row format new room) (file_row f old room)
  -- so the same answer and tree from `type_name_read`,
  pub read : (room : ℕ) → answer new room ≡ answer_in (entry_outcome f row_answer old room)
  pub read_tree : (before : List ℕ) → final_buffer new before ≡ buffer_in before (entry_outcome f row_answer old (length before))
  -- `type_name_match`,
  pub matched : (rules : List ℕ) (room : ℕ) → match_answer new rules room ≡ match_in (entry_outcome f (row_match rules) old room)
  pub matched_tree : (rules before : List ℕ) → match_buffer new rules before ≡ match_buffer_in before (entry_outcome f (row_match rules) old (length before))
  -- `type_name_read_list`,
  pub listed : (room : ℕ) → list_answer new room ≡ list_answer_in (entry_outcome f row_parts_answer old room)
  pub listed_trees : (before : List ℕ) → list_buffer new before ≡ list_buffer_in before (entry_outcome f row_parts_answer old (length before))
  -- and `type_name_read_named` with the same name list.
  pub named : (names : List ℕ) (room : ℕ) → answer_named new names room ≡ answer_in (entry_outcome f (named_answer names) old room)
  pub named_tree : (names before : List ℕ) → buffer_named new names before ≡ buffer_in before (entry_outcome f (named_answer names) old (length before))

-- "The inverse gives that file back": the fields of a file that was narrowed and is widened again, one by one.
pub record FieldsBack (c back : Fields) : Type 0 where
  pub same_language : back.language ≡ c.language
  -- C-16: "the standard's own number for 255", else the same number;
  pub standard_back : back.standard ≡ returned_standard c.language c.standard
  -- it means the same standard.
  pub same_meaning : meant format back.language back.standard ≡ meant format c.language c.standard
  pub same_flag : back.flag ≡ c.flag
  pub same_allowance : back.allowance ≡ c.allowance
  pub same_tokens : back.tokens ≡ c.tokens

-- A new file that was narrowed and is widened again.
pub record WidenedBack (file old : List ℕ) : Type 0 where
  pub was : Fields
  pub were : fields_of format file ≡ passes was
  pub back : Fields
  pub is : widened old ≡ passes (file_bytes format back)
  pub fields_back : FieldsBack was back

-- "7 offset over 32 bits": some span's end is 2^32 or more.
abbrev pub SomeEndOver : List TokenFields → Type 0
SomeEndOver [] = ⊥
SomeEndOver (t ∷ ts) = (numbers_32 ≤ t.end) ⊎ SomeEndOver ts

-- Each exactly if the other.
abbrev pub ExactlyIf : Type 0 → Type 0 → Type 0
ExactlyIf A B = (A → B) × (B → A)

-- What `narrow` answers to a file that passes 1 to 5 and whose old form has these fields, with an output of `room` bytes: 7, "before that 1", and 6 last.
pub record NarrowSays (c : Fields) (room : ℕ) (a : Result ℕ TypeNameError) : Type 0 where
  pub seven : ExactlyIf (a ≡ Err OffsetOver32Bits) (SomeEndOver c.tokens)
  pub one : (SomeEndOver c.tokens → ⊥) → ExactlyIf (a ≡ Err FileTooLong) (old_format.file_limit < length (file_bytes old_format c))
  pub six : (SomeEndOver c.tokens → ⊥) → length (file_bytes old_format c) ≤ old_format.file_limit → ExactlyIf (a ≡ Err ShortBuffer) (room < length (file_bytes old_format c))
  pub accepted : (SomeEndOver c.tokens → ⊥) → length (file_bytes old_format c) ≤ old_format.file_limit → length (file_bytes old_format c) ≤ room
      → a ≡ Ok (length (file_bytes old_format c))
