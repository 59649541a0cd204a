-- Computed examples of this crate's definitions, so that a wrong edit of one is refused here.
-- Assumes nothing.
use Rattle.std.specs.Prelude.{ℕ, suc, ◌+◌, ◌≡◌, refl, None, Some, List, [], ◌∷◌, ◌++◌, map, take, replicate, Result, Ok, Err}
use Rattle.rows.specs.Languages.{C, Cpp, Fortran, C89, C18, Fortran2023}
use Rattle.rows.specs.Kinds.{Identifier, Star}
use Rattle.rows.specs.Format.{format, old_format, head_length, most_tokens, meant, declared, stands_for}
use Rattle.rows.specs.Records.{Row, row, refused, head, head_formed, head_with, little_endian, records_from, to_end, tokens_from, after_record, found, well_formed, length_fits, word_fits, word_at, span_end_at, span_start_at, kind_at, length_at, in_range, before_tokens}
use Rattle.rows.specs.Refusals.{refusal_of, named, plainly, no_token}
use Rattle.rows.specs.declared.answer.Delimiter.TheVariants.{Parenthesis, Bracket}
use Rattle.rows.specs.declared.answer.TypeNameError.{TypeNameError}
use Rattle.rows.specs.declared.answer.TypeNameError.TheVariants.{UnexpectedClosingDelimiter}
use Rattle.rows.specs.declared.answer.Refusal.{Refusal}
use Rattle.rows.specs.declared.head.Head.{Head}
use Rattle.rows.specs.Words.{bytes, word_number, exactly, ignoring_case, other_case, no_word, Known, known, long, _BitInt}

-- Every known word has the number of its name.
number_of_text : Known → ℕ
unfolding bytes word_number
number_of_text k = word_number (bytes k.text)

number_of_name : Known → ℕ
number_of_name k = k.number

all_known : map number_of_text known ≡ map number_of_name known
unfolding number_of_text number_of_name known
all_known = refl

upper_case : word_number (bytes "LONG") ≡ long + other_case
unfolding word_number bytes
upper_case = refl

mixed_case : ignoring_case (word_number (bytes "_bITiNT")) ≡ _BitInt
unfolding word_number bytes ignoring_case
mixed_case = refl

no_exact_match : exactly (word_number (bytes "Long")) ≡ no_word
unfolding word_number bytes exactly
no_exact_match = refl

unknown : word_number (bytes "Lane") ≡ no_word
unfolding word_number bytes
unknown = refl

longer : word_number (bytes "longer") ≡ no_word
unfolding word_number bytes
longer = refl

-- ---- files

-- A head record of kind 256 and so much more: language, standard, flag, allowance (below 256 here).
head_as : (more language standard flag allowance : ℕ) → List ℕ
head_as m l s f a = 11 ∷ 0 ∷ m ∷ 1 ∷ l ∷ s ∷ f ∷ a ∷ 0 ∷ 0 ∷ 0 ∷ []

-- The head record of a file, its kind 261.
head_of : (language standard flag allowance : ℕ) → List ℕ
unfolding head_as
head_of l s f a = head_as 5 l s f a

-- Seven bytes of a span's number above the lowest.
above : List ℕ
above = 0 ∷ 0 ∷ 0 ∷ 0 ∷ 0 ∷ 0 ∷ 0 ∷ []

-- A token record of this length, kind and span up to its word.
record_of : (high low kind start end : ℕ) → List ℕ
unfolding above
record_of high low k s e = low ∷ high ∷ k ∷ 0 ∷ s ∷ above ++ e ∷ above

-- A token record without a word, of a span of one byte.
sign_of : (kind start : ℕ) → List ℕ
unfolding record_of
sign_of k s = record_of 0 20 k s (suc s)

-- `int*` in C89.
int_star : List ℕ
int_star = head_of C C89 1 9 ++ (record_of 0 23 Identifier 0 3 ++ bytes "int") ++ sign_of Star 3

-- The standard that a head means, or its refusal's number.
data HeadSaid : Type 0 where
  means : ℕ → HeadSaid
  refuses : ℕ → HeadSaid

said : Result Head TypeNameError → HeadSaid
said (Ok h) = means h.standard
said (Err e) = refuses (refusal_of e).number

int_star_head : head format int_star ≡ Ok (record { language = C; standard = C89; flag = 1; allowance = 9 })
unfolding head head_formed head_with meant declared little_endian int_star head_of record_of sign_of bytes
int_star_head = refl

int_star_row : records_from format int_star most_tokens head_length
    ≡ row (record { place = 11; kind = Identifier; word = bytes "int" } ∷ record { place = 34; kind = Star; word = [] } ∷ [])
unfolding records_from to_end tokens_from after_record found well_formed length_fits word_fits word_at span_end_at span_start_at kind_at length_at in_range before_tokens little_endian int_star head_of record_of sign_of bytes
int_star_row = refl

-- What 255 and 254 mean in C, C++ and Fortran; 253 is no standard of any.
outside : map said
    (head format (head_of C 255 1 0) ∷ head format (head_of Cpp 255 1 0) ∷ head format (head_of Fortran 255 1 0)
    ∷ head format (head_of C 254 1 0) ∷ head format (head_of Cpp 254 1 0) ∷ head format (head_of Fortran 254 1 0)
    ∷ head format (head_of C 253 1 0) ∷ head format (head_of Cpp 253 1 0) ∷ head format (head_of Fortran 253 1 0) ∷ [])
    ≡ means 4 ∷ means 5 ∷ means 6 ∷ means 3 ∷ means 3 ∷ means 5 ∷ refuses 3 ∷ refuses 3 ∷ refuses 3 ∷ []
unfolding said head head_formed head_with meant declared stands_for little_endian head_of
outside = refl

-- In an old file 255 means what it did, and 254 is no standard.
old_outside : map said
    (head old_format (head_as 0 C 255 1 0) ∷ head old_format (head_as 0 Cpp 255 1 0) ∷ head old_format (head_as 0 Fortran 255 1 0)
    ∷ head old_format (head_as 0 C 254 1 0) ∷ head old_format (head_as 0 Cpp 254 1 0) ∷ head old_format (head_as 0 Fortran 254 1 0) ∷ head old_format (head_as 0 C 253 1 0) ∷ [])
    ≡ means 3 ∷ means 3 ∷ means 5 ∷ refuses 3 ∷ refuses 3 ∷ refuses 3 ∷ refuses 3 ∷ []
unfolding said head head_formed head_with meant declared stands_for little_endian head_as
old_outside = refl

-- The refusals 1 to 3.
heads : map said
    (head format (head_of Fortran 6 1 0) ∷ head format (head_of C 5 1 0) ∷ head format (head_of 3 255 1 0) ∷ head format (head_of 3 254 1 0) ∷ head format (head_of 3 0 2 0)
    ∷ head format (take 10 (head_of C 0 1 0)) ∷ head format (replicate 131073 0) ∷ [])
    ≡ means Fortran2023 ∷ refuses 3 ∷ refuses 3 ∷ refuses 3 ∷ refuses 2 ∷ refuses 2 ∷ refuses 1 ∷ []
unfolding said head head_formed head_with meant declared stands_for little_endian head_of
heads = refl

-- "The head's kind becomes 261, so an old file is refused with 2"; an old file is one of kind 256 and "of at most 65,536 bytes as before".
old_heads : map said
    (head format (head_as 0 C 3 1 0) ∷ head old_format (head_as 0 C 3 1 0) ∷ head old_format (head_of C 3 1 0)
    ∷ head old_format (replicate 65536 0) ∷ head old_format (replicate 65537 0) ∷ head format (replicate 65537 0) ∷ [])
    ≡ refuses 2 ∷ means C18 ∷ refuses 2 ∷ refuses 2 ∷ refuses 1 ∷ refuses 2 ∷ []
unfolding said head head_formed head_with meant declared stands_for little_endian head_as head_of
old_heads = refl

refusal_in : Row → Refusal
refusal_in (refused e) = refusal_of e
refusal_in (row ts) = plainly 0

-- The records of a file with a head and these bytes, at most `most` of them.
after_head : (most : ℕ) → List ℕ → Refusal
unfolding refusal_in records_from to_end tokens_from after_record found well_formed length_fits word_fits word_at span_end_at span_start_at kind_at length_at in_range before_tokens little_endian head_of
after_head most bs = refusal_in (records_from format (head_of C 0 1 0 ++ bs) most head_length)

-- Cut off; kind 58; the span's end before its start; a word at another kind; no word at kind 0; a byte 127 in a word; too many, even malformed.
broken : after_head 2 (take 19 (sign_of Star 0)) ∷ after_head 2 (sign_of Star 0 ++ sign_of 58 1)
    ∷ after_head 2 (record_of 0 20 Star 2 1) ∷ after_head 2 (record_of 0 21 Star 0 1 ++ (65 ∷ []))
    ∷ after_head 2 (sign_of Identifier 0) ∷ after_head 2 (record_of 0 21 Identifier 0 1 ++ (127 ∷ []))
    ∷ after_head 2 (sign_of Star 0 ++ sign_of Star 1 ++ (0 ∷ [])) ∷ []
    ≡ named 4 no_token 11 ∷ named 4 no_token 31 ∷ named 4 no_token 11 ∷ named 4 no_token 11 ∷ named 4 no_token 11 ∷ named 4 no_token 11 ∷ plainly 5 ∷ []
unfolding after_head sign_of
broken = refl

-- A record of a sign whose span goes from 2^56 times `high` and `low` to 2^56 times `high'` and `low'`.
far_of : (low high low' high' : ℕ) → List ℕ
far_of l h l' h' = 20 ∷ 0 ∷ 21 ∷ 0 ∷ l ∷ 0 ∷ 0 ∷ 0 ∷ 0 ∷ 0 ∷ 0 ∷ h ∷ l' ∷ 0 ∷ 0 ∷ 0 ∷ 0 ∷ 0 ∷ 0 ∷ h' ∷ []

-- Spans beyond 32 bits, compared by all 8 bytes; an old record is too short.
far : after_head 2 (far_of 9 1 0 2) ∷ after_head 2 (far_of 0 2 9 1) ∷ after_head 2 (far_of 9 255 9 255)
    ∷ after_head 2 (12 ∷ 0 ∷ 21 ∷ 0 ∷ 0 ∷ 0 ∷ 0 ∷ 0 ∷ 1 ∷ 0 ∷ 0 ∷ 0 ∷ []) ∷ []
    ≡ plainly 0 ∷ named 4 no_token 11 ∷ plainly 0 ∷ named 4 no_token 11 ∷ []
unfolding after_head far_of
far = refl

-- An identifier's record of this length, its word this byte so often.
word_of : (high low byte times : ℕ) → List ℕ
unfolding record_of
word_of high low b n = record_of high low Identifier 0 1 ++ replicate n b

-- Words of 254, 255 and 256 bytes; of the bytes 32, 33, 126 and 127.
words : after_head 2 (word_of 1 18 65 254) ∷ after_head 2 (word_of 1 19 65 255) ∷ after_head 2 (word_of 1 20 65 256)
    ∷ after_head 2 (word_of 0 21 32 1) ∷ after_head 2 (word_of 0 21 33 1) ∷ after_head 2 (word_of 0 21 126 1) ∷ after_head 2 (word_of 0 21 127 1) ∷ []
    ≡ plainly 0 ∷ plainly 0 ∷ named 4 no_token 11 ∷ named 4 no_token 11 ∷ plainly 0 ∷ plainly 0 ∷ named 4 no_token 11 ∷ []
unfolding after_head word_of
words = refl

-- Refusal 11: "0 none, 1 `(` or 2 `[` was open"; the token is named.
closers : map refusal_of
    (UnexpectedClosingDelimiter None Parenthesis 5 ∷ UnexpectedClosingDelimiter (Some Parenthesis) Bracket 6 ∷ UnexpectedClosingDelimiter (Some Bracket) Parenthesis 7 ∷ [])
    ≡ named 11 5 0 ∷ named 11 6 1 ∷ named 11 7 2 ∷ []
closers = refl
