-- What the parts of a conversion say, in the words of its definitions.
-- Assumes nothing.
use Rattle.convert.specs.declared.check.Sound.{Sound}
use Rattle.rows.specs.declared.answer.TypeNameError.{TypeNameError}
use Rattle.std.specs.Prelude.{ℕ, ◌+◌, ◌≤◌, ◌<◌, ◌^◌, ◌≡◌, not, List, [], length, Err, Result, Ok, Bool}
use Rattle.rows.specs.Format.{head_length, most_tokens, token_length}
use Rattle.rows.specs.declared.format.Format.{Format}
use Rattle.rows.specs.Records.{found, kind_at, length_at, records_from, span_start_at, span_end_at, word_at, formed}
use Rattle.type_name.specs.FileRow.{Outcome, untouched, passes, on_pass, row_read}
use Rattle.convert.specs.Fields.{TokenFields, Fields, with_standard, fields_with, fields_of, records_bytes, file_bytes}
use Rattle.convert.specs.Conversions.{over_32_bits}

-- A file that passes: how many tokens it has, and whether all spans end below 2^32.
abbrev pub sound : (count : ℕ) (narrow : Bool) → Result Sound TypeNameError
sound count narrow = Ok (record { count = count; narrow = narrow })

-- What a check tells of a file's fields.
unfoldable pub checked_in : Outcome Fields → Result Sound TypeNameError
unfolding over_32_bits
checked_in (untouched e) = Err e
checked_in (passes c) = sound (length c.tokens) (not (over_32_bits c.tokens))

-- The fields of a file whose head is formed.
unfoldable pub row_fields : (f : Format) (file : List ℕ) → Outcome Fields
unfolding on_pass row_read fields_with
row_fields f file = on_pass (row_read (records_from f file most_tokens head_length)) λ ts. passes (fields_with f file ts)

-- The fields of the token record at a byte offset.
abbrev pub fields_there : (f : Format) (file : List ℕ) (at : ℕ) → TokenFields
fields_there f file at = record { kind = kind_at f file at; start = span_start_at f file at; end = span_end_at f file at; word = word_at f file at }

-- A token record stands at a byte offset, and the output has room for it in another format behind its first `out` bytes.
pub record RecordReady (from to : Format) (file : List ℕ) (at : ℕ) (output : List ℕ) (out : ℕ) : Type 0 where
  pub formed : found from file at ≡ formed (kind_at from file at) (length_at from file at)
  pub room : out + (token_length to + length (word_at from file at)) ≤ length output

-- The file of a sound file's fields in another format, with this number for the standard.
unfoldable pub bytes_in : (to : Format) (standard : ℕ) → Outcome Fields → List ℕ
unfolding file_bytes
bytes_in to standard (untouched e) = []
bytes_in to standard (passes c) = file_bytes to (with_standard standard c)

-- Its token records alone.
unfoldable pub records_in : (to : Format) → Outcome Fields → List ℕ
unfolding records_bytes
records_in to (untouched e) = []
records_in to (passes c) = records_bytes to c.tokens

-- A file that passes 1 to 5.
pub record IsSound (f : Format) (file : List ℕ) : Type 0 where
  pub fields : Fields
  pub is : fields_of f file ≡ passes fields

-- A sound file, and room behind the first `begin` bytes of the output for its records in another format.
pub record RecordsReady (from to : Format) (file output : List ℕ) (begin : ℕ) : Type 0 where
  pub sound : IsSound from file
  pub room : begin + length (records_in to (fields_of from file)) ≤ length output

-- A sound file, and room in the output for it in another format.
pub record FileReady (from to : Format) (standard : ℕ) (file output : List ℕ) : Type 0 where
  pub sound : IsSound from file
  pub room : length (bytes_in to standard (fields_of from file)) ≤ length output

-- A sound file, and how many bytes it has in another format.
pub record Counted (from to : Format) (standard : ℕ) (file : List ℕ) (bytes : ℕ) : Type 0 where
  pub sound : IsSound from file
  pub counts : bytes ≡ length (bytes_in to standard (fields_of from file))
  pub small : bytes < 2 ^ 32
