-- What holds of the two conversions and of the numbers 254 and 255, for every file: document 02, C-14 and C-16. A file is the list of its bytes.
-- Assumes nothing.
use Rattle.std.specs.Prelude.{ℕ, ◌+◌, ◌*◌, ◌≤◌, ◌≡◌, ◌⊎◌, List, length, get_or, Err}
use Rattle.rows.specs.Languages.{C, Cpp, Fortran, C18, C23, Cpp17, Cpp23, Fortran2018, Fortran2023}
use Rattle.rows.specs.Format.{format, old_format, at_language, at_standard, most_tokens, standard_254, standard_255, meant}
use Rattle.rows.specs.Records.{head}
use Rattle.rows.specs.declared.answer.TypeNameError.TheVariants.{UnknownProfile}
use Rattle.type_name.specs.FileRow.{passes}
use Rattle.type_name.specs.Answers.{answer_of}
use Rattle.convert.specs.Bytes.{AllBytes, with_byte}
use Rattle.convert.specs.Standards.{returned_standard}
use Rattle.convert.specs.Fields.{Fields, fields_of, file_bytes}
use Rattle.convert.specs.Conversions.{widened_fields, narrowed_fields, widened, narrowed, widen_outcome, narrow_outcome, convert_answer}
use Rattle.convert.specs.Promises.{StillRead, WidenedBack, ExactlyIf, NarrowSays}
use Rattle.convert.specs.NewerStandards.{AcceptedNow, Is40, Passes1And2, NoSuchProfile}
use Rattle.convert.specs.Laws.Standards
use Rattle.convert.specs.Laws.Converted
use Rattle.convert.specs.Laws.Promised
use Rattle.convert.specs.Laws.NewerStandards
use Rattle.convert.specs.Laws.Alike

-- "Both test 1 to 5 first": a file that passes them is widened.
pub widens : (file : List ℕ) {c : Fields} → fields_of old_format file ≡ passes c → widened file ≡ passes (file_bytes format (widened_fields c))
widens = Converted.widens

-- "A converted file gets the answer and tree its old file would get if still read", from every entry, whichever standard it says: by 254, if 255.
pub still_read : (file : List ℕ) {new : List ℕ} → AllBytes file → widened file ≡ passes new → StillRead old_format file new
still_read = Converted.still_read

-- "And the inverse gives that file back", byte for byte.
pub narrow_of_widen : (file : List ℕ) {new : List ℕ} → AllBytes file → widened file ≡ passes new → narrowed new ≡ passes file
narrow_of_widen = Converted.narrow_of_widen

-- The other way round wherever `narrow` accepts, field by field: for 255 the standard's own number comes back, which means the same,
pub widen_of_narrow : (file : List ℕ) {old : List ℕ} → AllBytes file → narrowed file ≡ passes old → WidenedBack file old
widen_of_narrow = Converted.widen_of_narrow

-- and so byte for byte but for the standard's,
pub widen_of_narrow_bytes : (file : List ℕ) {old : List ℕ} → AllBytes file → narrowed file ≡ passes old
    → widened old ≡ passes (with_byte at_standard (returned_standard (get_or file at_language 0) (get_or file at_standard 0)) file)
widen_of_narrow_bytes = Converted.widen_of_narrow_bytes

-- the file itself, if it does not say 255;
pub widen_of_narrow_same : (file : List ℕ) {old : List ℕ} → AllBytes file → narrowed file ≡ passes old → (get_or file at_standard 0 ≡ standard_255 → ⊥) → widened old ≡ passes file
widen_of_narrow_same = Converted.widen_of_narrow_same

-- what comes back gets the file's answer and tree from every entry.
pub returned_read : (file : List ℕ) {old new : List ℕ} → AllBytes file → narrowed file ≡ passes old → widened old ≡ passes new → StillRead format file new
returned_read file all q p = Converted.returned_read file all q p

-- Both with their outputs: what one call leaves in its output, the other turns back, if its own is long enough.
pub widened_and_back : (file : List ℕ) {new : List ℕ} (room room' : ℕ) → AllBytes file → widen_outcome file room ≡ passes new → length file ≤ room' → narrow_outcome new room' ≡ passes file
widened_and_back = Converted.widened_and_back

pub narrowed_and_back : (file : List ℕ) {old : List ℕ} (room room' : ℕ) → AllBytes file → narrow_outcome file room ≡ passes old → length file ≤ room'
    → widen_outcome old room' ≡ passes (with_byte at_standard (returned_standard (get_or file at_language 0) (get_or file at_standard 0)) file)
narrowed_and_back = Converted.narrowed_and_back

-- "7 .., checked by the inverse once all records pass 4, before that 1", and C-11's 6 last: each exactly if.
pub narrow_says : (file : List ℕ) (c : Fields) → fields_of format file ≡ passes c → (room : ℕ) → NarrowSays (narrowed_fields c) room (convert_answer (narrow_outcome file room))
narrow_says = Promised.narrow_says

-- A widened file has 8 bytes a token more, so at most 73,728, and is within the file limit;
pub widened_length : (file : List ℕ) {new : List ℕ} → widened file ≡ passes new → length new ≤ length file + 8 * most_tokens
widened_length = Converted.widened_length

-- a narrowed one is never longer.
pub narrowed_length : (file : List ℕ) {old : List ℕ} → narrowed file ≡ passes old → length old ≤ length file
narrowed_length = Converted.narrowed_length

-- "A row accepted before under 255 is accepted now with the same tree", from every entry.
pub accepted_now : (file : List ℕ) (room : ℕ) → AcceptedNow file room
accepted_now = NewerStandards.accepted_now

-- What changes: nothing for the rows of C++ and Fortran, whose features are all older,
pub alike_in_cpp : (flag : ℕ) (kinds words : List ℕ) (allowance : ℕ) → answer_of Cpp Cpp23 flag kinds words allowance ≡ answer_of Cpp Cpp17 flag kinds words allowance
alike_in_cpp = Alike.alike_in_cpp

pub alike_in_fortran : (flag : ℕ) (kinds words : List ℕ) (allowance : ℕ)
    → answer_of Fortran Fortran2023 flag kinds words allowance ≡ answer_of Fortran Fortran2018 flag kinds words allowance
alike_in_fortran = Alike.alike_in_fortran

-- and for those of C only where C18 gives 40.
pub alike_in_c : (flag : ℕ) (kinds words : List ℕ) (allowance : ℕ)
    → (answer_of C C23 flag kinds words allowance ≡ answer_of C C18 flag kinds words allowance) ⊎ Is40 (answer_of C C18 flag kinds words allowance)
alike_in_c = Alike.alike_in_c

-- 254 means in every language what 255 meant.
pub archives : (language : ℕ) → meant format language standard_254 ≡ meant old_format language standard_255
archives = Standards.archives

-- "Refusal 3 no longer covers 254": neither 254 nor 255 of a language that is known,
pub refused_3 : (file : List ℕ) → AllBytes file
    → ExactlyIf (head format file ≡ Err UnknownProfile) (Passes1And2 format file × NoSuchProfile standard_254 (get_or file at_language 0) (get_or file at_standard 0))
refused_3 = NewerStandards.refused_3

-- "save in old files".
pub refused_3_old : (file : List ℕ) → AllBytes file
    → ExactlyIf (head old_format file ≡ Err UnknownProfile) (Passes1And2 old_format file × NoSuchProfile standard_255 (get_or file at_language 0) (get_or file at_standard 0))
refused_3_old = NewerStandards.refused_3_old
