-- Computed examples of this crate's definitions, worked out from document 02 by hand, so that a wrong edit of one is refused here.
-- Assumes nothing.
use Rattle.rows.specs.Answer.{refused_with}
use Rattle.std.specs.Prelude.{ℕ, ◌≡◌, refl, List, [], ◌∷◌, ◌++◌, map, length, replicate, None, Some}
use Rattle.rows.specs.Format.{declared, meant, stands_for}
use Rattle.rows.specs.Records.{little_endian, head, head_formed, head_with, records_from, to_end, tokens_from, after_record, before_tokens, found, well_formed, length_fits, word_fits, word_at, span_start_at, span_end_at, kind_at, length_at, in_range}
use Rattle.rows.specs.Words.{bytes}
use Rattle.text.specs.Text.{little_endian_bytes}
use Rattle.type_name.specs.FileRow.{Outcome, untouched, passes}
use Rattle.type_name.specs.AnswerNumbers.{answer_numbers}
use Rattle.convert.specs.Standards.{returned_standard}
use Rattle.convert.specs.Fields.{Fields}
use Rattle.convert.specs.Conversions.{old_form, widen_outcome, narrow_outcome, convert_answer, output_in}
use Rattle.convert.specs.AnswerNumbers.{convert_numbers}
use Rattle.convert.specs.NewerStandards.{former_format}

-- Four bytes that are 0.
four : List ℕ
four = 0 ∷ 0 ∷ 0 ∷ 0 ∷ []

-- `int`, C89, flag 1, allowance 1000, which is 232 and 3 times 256: 26 bytes,
old_int : List ℕ
unfolding bytes
old_int = 11 ∷ 0 ∷ 0 ∷ 1 ∷ 0 ∷ 0 ∷ 1 ∷ 232 ∷ 3 ∷ 0 ∷ 0 ∷ 15 ∷ 0 ∷ 0 ∷ 0 ∷ 2 ∷ 0 ∷ 0 ∷ 0 ∷ 5 ∷ 0 ∷ 0 ∷ 0 ∷ bytes "int"

-- and 34.
new_int : List ℕ
unfolding bytes
new_int =
    11 ∷ 0 ∷ 5 ∷ 1 ∷ 0 ∷ 0 ∷ 1 ∷ 232 ∷ 3 ∷ 0 ∷ 0 ∷ 23 ∷ 0 ∷ 0 ∷ 0 ∷ 2 ∷ 0 ∷ 0 ∷ 0 ∷ 0 ∷ 0 ∷ 0 ∷ 0 ∷ 5 ∷ 0 ∷ 0 ∷ 0 ∷ 0 ∷ 0 ∷ 0 ∷ 0 ∷ bytes "int"

-- The answer's numbers, with an output of so many bytes.
widen_says : (file : List ℕ) (room : ℕ) → List ℕ
unfolding widen_outcome convert_answer convert_numbers head head_formed head_with meant declared stands_for little_endian little_endian_bytes records_from to_end tokens_from after_record before_tokens found well_formed length_fits word_fits word_at span_start_at span_end_at kind_at length_at in_range
widen_says file room = convert_numbers (convert_answer (widen_outcome file room))

narrow_says : (file : List ℕ) (room : ℕ) → List ℕ
unfolding narrow_outcome convert_answer convert_numbers head head_formed head_with meant declared stands_for little_endian little_endian_bytes records_from to_end tokens_from after_record before_tokens found well_formed length_fits word_fits word_at span_start_at span_end_at kind_at length_at in_range
narrow_says file room = convert_numbers (convert_answer (narrow_outcome file room))

-- Both ways, and into one byte too few.
int_says : widen_says old_int 34 ∷ widen_says old_int 33 ∷ narrow_says new_int 26 ∷ narrow_says new_int 25 ∷ []
    ≡ (0 ∷ 34 ∷ 0 ∷ 0 ∷ []) ∷ (6 ∷ 65535 ∷ 0 ∷ 0 ∷ []) ∷ (0 ∷ 26 ∷ 0 ∷ 0 ∷ []) ∷ (6 ∷ 65535 ∷ 0 ∷ 0 ∷ []) ∷ []
unfolding widen_says narrow_says old_int new_int
int_says = refl

-- What stands in the output then, and behind it; a refusal leaves it.
int_output : output_in (replicate 36 7) (widen_outcome old_int 36) ∷ output_in (replicate 27 7) (narrow_outcome new_int 27) ∷ output_in (replicate 33 7) (widen_outcome old_int 33) ∷ []
    ≡ (new_int ++ (7 ∷ 7 ∷ [])) ∷ (old_int ++ (7 ∷ [])) ∷ replicate 33 7 ∷ []
unfolding widen_says narrow_says output_in old_int new_int
int_output = refl

-- A sign's record of this kind, in `format`: its span goes from 0 to 2^32 times `high`, and `low`.
sign : (kind low high : ℕ) → List ℕ
unfolding four
sign kind low high = 20 ∷ 0 ∷ kind ∷ 0 ∷ four ++ four ++ (low ∷ 0 ∷ 0 ∷ 0 ∷ high ∷ 0 ∷ 0 ∷ 0 ∷ [])

-- A head of kind 256 and so much more, of this language, standard and flag.
head_of : (more language standard flag : ℕ) → List ℕ
unfolding four
head_of more language standard flag = 11 ∷ 0 ∷ more ∷ 1 ∷ language ∷ standard ∷ flag ∷ four

-- 7, "checked by the inverse once all records pass 4": an end of 2^32 - 1 passes, 2^32 is 7, of any record, and 4 of a later record comes before.
far : narrow_says (head_of 5 0 255 1 ++ sign 21 255 0) 23 ∷ narrow_says (head_of 5 0 255 1 ++ sign 21 0 1) 0 ∷ narrow_says (head_of 5 0 255 1 ++ sign 21 0 0 ++ sign 21 0 1) 0
    ∷ narrow_says (head_of 5 0 255 1 ++ sign 21 0 1 ++ (0 ∷ [])) 0 ∷ narrow_says (head_of 5 0 255 1 ++ sign 21 0 1 ++ sign 58 0 0) 0 ∷ []
    ≡ (0 ∷ 23 ∷ 0 ∷ 0 ∷ []) ∷ (7 ∷ 65535 ∷ 0 ∷ 0 ∷ []) ∷ (7 ∷ 65535 ∷ 0 ∷ 0 ∷ []) ∷ (4 ∷ 65535 ∷ 31 ∷ 0 ∷ []) ∷ (4 ∷ 65535 ∷ 31 ∷ 0 ∷ []) ∷ []
unfolding narrow_says head_of sign
far = refl

-- Heads alone: converted; of the other format, or of flag 2: 2; of an unknown standard, as 254 is in an old file, or an unknown language: 3; too long: 1.
heads : map (λ (file : List ℕ). widen_says file 11) (head_of 0 0 255 1 ∷ head_of 5 0 255 1 ∷ head_of 0 0 255 2 ∷ head_of 0 0 254 1 ∷ head_of 0 0 253 1 ∷ head_of 0 3 255 1 ∷ replicate 65537 0 ∷ [])
    ++ map (λ (file : List ℕ). narrow_says file 11) (head_of 5 0 255 1 ∷ head_of 0 0 255 1 ∷ head_of 5 0 255 2 ∷ head_of 5 0 254 1 ∷ head_of 5 0 253 1 ∷ head_of 5 3 254 1 ∷ replicate 65537 0 ∷ replicate 131073 0 ∷ [])
    ≡ (0 ∷ 11 ∷ 0 ∷ 0 ∷ []) ∷ (2 ∷ 65535 ∷ 0 ∷ 0 ∷ []) ∷ (2 ∷ 65535 ∷ 0 ∷ 0 ∷ []) ∷ (3 ∷ 65535 ∷ 0 ∷ 0 ∷ []) ∷ (3 ∷ 65535 ∷ 0 ∷ 0 ∷ []) ∷ (3 ∷ 65535 ∷ 0 ∷ 0 ∷ []) ∷ (1 ∷ 65535 ∷ 0 ∷ 0 ∷ [])
    ∷ (0 ∷ 11 ∷ 0 ∷ 0 ∷ []) ∷ (2 ∷ 65535 ∷ 0 ∷ 0 ∷ []) ∷ (2 ∷ 65535 ∷ 0 ∷ 0 ∷ []) ∷ (0 ∷ 11 ∷ 0 ∷ 0 ∷ []) ∷ (3 ∷ 65535 ∷ 0 ∷ 0 ∷ []) ∷ (3 ∷ 65535 ∷ 0 ∷ 0 ∷ []) ∷ (2 ∷ 65535 ∷ 0 ∷ 0 ∷ []) ∷ (1 ∷ 65535 ∷ 0 ∷ 0 ∷ []) ∷ []
unfolding widen_says narrow_says head_of
heads = refl

-- ---- the standard's byte: C-16

-- A head in an output, widened, and narrowed.
widened_head : List ℕ → List ℕ
unfolding widen_says output_in
widened_head file = output_in (replicate 11 0) (widen_outcome file 11)

narrowed_head : List ℕ → List ℕ
unfolding narrow_says output_in
narrowed_head file = output_in (replicate 11 0) (narrow_outcome file 11)

-- In C, C++ and Fortran: 254 for 255, every other number as it is.
widened_255 : map widened_head (head_of 0 0 255 1 ∷ head_of 0 1 255 1 ∷ head_of 0 2 255 1 ∷ head_of 0 0 4 1 ∷ head_of 0 1 5 1 ∷ head_of 0 2 6 1 ∷ head_of 0 0 0 1 ∷ [])
    ≡ head_of 5 0 254 1 ∷ head_of 5 1 254 1 ∷ head_of 5 2 254 1 ∷ head_of 5 0 4 1 ∷ head_of 5 1 5 1 ∷ head_of 5 2 6 1 ∷ head_of 5 0 0 1 ∷ []
unfolding widened_head head_of
widened_255 = refl

-- 255 for 254, "the standard's own number for 255", every other number as it is.
narrowed_255 : map narrowed_head
    (head_of 5 0 254 1 ∷ head_of 5 1 254 1 ∷ head_of 5 2 254 1 ∷ head_of 5 0 255 1 ∷ head_of 5 1 255 1 ∷ head_of 5 2 255 1 ∷ head_of 5 0 3 1 ∷ head_of 5 1 3 1 ∷ head_of 5 2 5 1 ∷ [])
    ≡ head_of 0 0 255 1 ∷ head_of 0 1 255 1 ∷ head_of 0 2 255 1 ∷ head_of 0 0 4 1 ∷ head_of 0 1 5 1 ∷ head_of 0 2 6 1 ∷ head_of 0 0 3 1 ∷ head_of 0 1 3 1 ∷ head_of 0 2 5 1 ∷ []
unfolding narrowed_head head_of
narrowed_255 = refl

-- Narrowed and widened again: 254 comes back, 255 comes back as 4, 5 and 6.
returned_255 : map (λ (file : List ℕ). widened_head (narrowed_head file)) (head_of 5 0 254 1 ∷ head_of 5 0 255 1 ∷ head_of 5 1 255 1 ∷ head_of 5 2 255 1 ∷ [])
    ≡ head_of 5 0 254 1 ∷ head_of 5 0 4 1 ∷ head_of 5 1 5 1 ∷ head_of 5 2 6 1 ∷ []
unfolding widened_head narrowed_head head_of
returned_255 = refl

returned_numbers : returned_standard 0 255 ∷ returned_standard 1 255 ∷ returned_standard 2 255 ∷ returned_standard 0 254 ∷ returned_standard 1 3 ∷ [] ≡ 4 ∷ 5 ∷ 6 ∷ 254 ∷ 3 ∷ []
unfolding returned_standard meant declared stands_for
returned_numbers = refl

-- Before, 255 meant C18, Cpp17 and Fortran2018, and 254 nothing.
before : meant former_format 0 255 ∷ meant former_format 1 255 ∷ meant former_format 2 255 ∷ meant former_format 0 254 ∷ [] ≡ Some 3 ∷ Some 3 ∷ Some 5 ∷ None ∷ []
unfolding meant declared stands_for
before = refl

-- So many words of 255 letters, the first of which ends there.
words : (many end : ℕ) → Fields
words many end =
    record { language = 0; standard = 3; flag = 1; allowance = 0; tokens = record { kind = 0; start = 0; end = end; word = replicate 255 65 } ∷ replicate many (record { kind = 0; start = 0; end = 0; word = replicate 255 65 }) }

refusal_in : Outcome (List ℕ) → List ℕ
unfolding answer_numbers
refusal_in (untouched e) = answer_numbers (refused_with e 0)
refusal_in (passes bs) = length bs ∷ []

-- 246 of them: the old form has 11 and 246 times 267 bytes, 65,693, too many: 1, and 7 before that if an end is 2^32. With 245 it has 65,426.
long : refusal_in (old_form (words 245 0)) ∷ refusal_in (old_form (words 245 4294967296)) ∷ refusal_in (old_form (words 244 0)) ∷ refusal_in (old_form (words 244 4294967295)) ∷ []
    ≡ (1 ∷ 65535 ∷ 0 ∷ 0 ∷ []) ∷ (7 ∷ 65535 ∷ 0 ∷ 0 ∷ []) ∷ (65426 ∷ []) ∷ (65426 ∷ []) ∷ []
unfolding refusal_in old_form words little_endian_bytes
long = refl
