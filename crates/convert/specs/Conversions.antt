-- The two conversions: document 02, C-14 and C-16.
-- Assumes nothing.
use Rattle.rows.specs.declared.answer.TypeNameError.{TypeNameError}
use Rattle.std.specs.Prelude.{ℕ, ◌^◌, Bool, false, ◌||◌, List, [], ◌∷◌, ◌++◌, length, drop, leb, ltb, if◌then◌else◌, Err, Ok, Result}
use Rattle.rows.specs.Format.{format, old_format}
use Rattle.rows.specs.declared.answer.TypeNameError.TheVariants.{FileTooLong, ShortBuffer, OffsetOver32Bits}
use Rattle.type_name.specs.FileRow.{Outcome, untouched, passes, on_pass}
use Rattle.convert.specs.Standards.{widened_standard, narrowed_standard}
use Rattle.convert.specs.Fields.{TokenFields, Fields, with_standard, fields_of, file_bytes}

-- C-16: "the converter from old files writes 254 where it finds 255".
abbrev pub widened_fields : Fields → Fields
widened_fields c = with_standard (widened_standard c.standard) c

-- C-16: "its inverse writes 255 for 254 and the standard's own number for 255".
abbrev pub narrowed_fields : Fields → Fields
narrowed_fields c = with_standard (narrowed_standard c.language c.standard) c

-- "A converter brings old files over, of at most 65,536 bytes as before": the new file's bytes, or a refusal.
unfoldable pub widened : (file : List ℕ) → Outcome (List ℕ)
unfolding on_pass fields_of file_bytes widened_standard
widened file = on_pass (fields_of old_format file) λ c. passes (file_bytes format (widened_fields c))

-- "over 32 bits".
abbrev pub numbers_32 : ℕ
numbers_32 = 2 ^ 32

-- "7 offset over 32 bits": some span ends there. A span's start is not past its end.
unfoldable pub over_32_bits : List TokenFields → Bool
over_32_bits [] = false
over_32_bits (t ∷ ts) = leb numbers_32 t.end || over_32_bits ts

-- "Its inverse refuses with 1 a file whose old form would pass 65,536 bytes"; "7 .., checked by the inverse once all records pass 4, before that 1".
unfoldable pub old_form : Fields → Outcome (List ℕ)
unfolding over_32_bits file_bytes
old_form c =
    if over_32_bits c.tokens then untouched OffsetOver32Bits
    else if ltb old_format.file_limit (length (file_bytes old_format c)) then untouched FileTooLong
    else passes (file_bytes old_format c)

-- "Its inverse": the old file's bytes, or a refusal.
unfoldable pub narrowed : (file : List ℕ) → Outcome (List ℕ)
unfolding on_pass fields_of old_form narrowed_standard
narrowed file = on_pass (fields_of format file) λ c. old_form (narrowed_fields c)

-- C-11: "A short byte buffer for output is 6, checked last". With an output of `room` bytes.
unfoldable pub with_output : (room : ℕ) → (bytes : List ℕ) → Outcome (List ℕ)
with_output room bytes = if ltb room (length bytes) then untouched ShortBuffer else passes bytes

-- What comes of a file that is to be widened.
unfoldable pub widen_outcome : (file : List ℕ) (room : ℕ) → Outcome (List ℕ)
unfolding on_pass widened with_output
widen_outcome file room = on_pass (widened file) λ bytes. with_output room bytes

-- What comes of a file that is to be narrowed.
unfoldable pub narrow_outcome : (file : List ℕ) (room : ℕ) → Outcome (List ℕ)
unfolding on_pass narrowed with_output
narrow_outcome file room = on_pass (narrowed file) λ bytes. with_output room bytes

-- How many bytes, or the refusal.
unfoldable pub convert_answer : Outcome (List ℕ) → Result ℕ TypeNameError
convert_answer (untouched e) = Err e
convert_answer (passes bytes) = Ok (length bytes)

-- C-11: ".. no refusal touches it; bytes past the output stay".
unfoldable pub output_in : (before : List ℕ) → Outcome (List ℕ) → List ℕ
output_in before (untouched e) = before
output_in before (passes bytes) = bytes ++ drop (length bytes) before
