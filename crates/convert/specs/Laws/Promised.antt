-- The promises of the conversions.
-- Assumes nothing.
use Rattle.rows.specs.declared.answer.TypeNameError.{TypeNameError}
use Rattle.std.specs.Prelude.{ℕ, ◌+◌, ◌*◌, ◌^◌, ◌≤◌, ◌<◌, ◌≡◌, Bool, ◌||◌, List, [], ◌∷◌, map, length, leb, ltb, if◌then◌else◌, Err, Ok, Result, Some}
use Rattle.std.proofs.Math.Path.{refl, ap, subst}
use Rattle.std.proofs.Common.{sym, ◌∙◌, true≢false, inl, inr, arith}
use Rattle.std.proofs.Math.Bool.{true, false}
use borrow.Author.Tests.{lt-ltb, le-ltb, lt-leb, le-leb, leb-true, leb-false, ltb-true}
use Rattle.rows.specs.Format.{format, old_format, allowance_bytes, head_length, at_standard, at_allowance, most_tokens, token_length, span_bytes, meant}
use Rattle.rows.specs.declared.format.Format.{Format}
use Rattle.rows.specs.Refusals.{refusal_of}
use Rattle.rows.specs.declared.answer.TypeNameError.TheVariants.{FileTooLong, ShortBuffer, OffsetOver32Bits}
use Rattle.rows.specs.declared.head.Head.{Head}
use Rattle.rows.specs.Records.{byte_values, RowToken, row, head, kind_at, length_at, span_end_at, records_from}
use Rattle.rows.specs.Laws.Tokens.{formed_fits}
use Rattle.reader.specs.Nodes.{numbers_per_token}
use Rattle.type_name.specs.FileRow.{untouched, passes, on_pass, head_read, row_read, with_room, file_row}
use Rattle.text.specs.Text.{little_endian_bytes}
use Rattle.convert.specs.Bytes.{AllBytes, with_byte}
use Rattle.convert.specs.Standards.{widened_standard, narrowed_standard, returned_standard}
use Rattle.convert.specs.Fields.{TokenFields, Fields, with_standard, token_fields, fields_with, fields_of, head_bytes, file_bytes}
use Rattle.convert.specs.Conversions.{widened_fields, narrowed_fields, numbers_32, over_32_bits, old_form, with_output, narrowed, narrow_outcome, convert_answer}
use Rattle.convert.specs.SameRow.{SameTokens, Alike}
use Rattle.convert.specs.Promises.{SomeEndOver, NarrowSays}
use Rattle.convert.specs.Laws.Standards.{widened_means, narrowed_widened, narrowed_means, widened_narrowed, returned_means}
use Rattle.convert.specs.Laws.Stand.{Stand, StandsAt}
use Rattle.convert.specs.Laws.OneRecord.{TokenFits, is_ordered, is_worded}
use Rattle.convert.specs.Laws.Written.{AllFit, FieldsFit, placed, head_meant, written_head, written_row, written_back}
use Rattle.convert.specs.Laws.Back.{HeadIs, number_small, file_back}
use Rattle.convert.specs.Laws.Reads.{read_of}
use Rattle.convert.specs.Laws.Sizes.{file_long}
use Rattle.convert.specs.Laws.Entries.{sound_long, sound_few, sound_short}
use Rattle.convert.specs.Laws.SameAnswers.{same_many}

-- ---- the fields of a sound file fit a format

module _ (f : Format) (file : List ℕ) (all : AllBytes file) where
  token_fits : (at : ℕ) (t : RowToken) → StandsAt f file at t → TokenFits f (token_fields f file t)
  unfolding token_fields span_end_at
  token_fits at t s =
      rw s.is record {
        known = (formed_fits f file at (kind_at f file at) (length_at f file at) s.formed).known;
        ordered = is_ordered f file at s.formed;
        narrow = number_small (span_bytes f) _ file all;
        worded = is_worded f file at s.formed;
      }

  tokens_fit : (at : ℕ) (ts : List RowToken) → Stand f file at ts → AllFit f (map (token_fields f file) ts)
  tokens_fit at [] s = tt
  tokens_fit at (t ∷ ts) s = (token_fits at t s.0, tokens_fit (at + length_at f file at) ts s.1)

  sound_fits : (c : Fields) → fields_of f file ≡ passes c → AllFit f c.tokens
  unfolding fields_with
  sound_fits c e = let read = read_of f file c e in rw read.fields_are (tokens_fit head_length read.row_tokens read.stand)

-- What fits four bytes fits eight;
wider : (ts : List TokenFields) → AllFit old_format ts → AllFit format ts
wider [] a = tt
wider (t ∷ ts) (a, rest) = (record { known = a.known; ordered = a.ordered; narrow = omega (arith, a.narrow); worded = a.worded }, wider ts rest)

-- and what fits eight, four, if no end is over 32 bits.
or_none : (a b : Bool) → (a || b) ≡ false → (a ≡ false) × (b ≡ false)
or_none true b e = absurd (true≢false e)
or_none false b e = (refl, e)

narrower : (ts : List TokenFields) → over_32_bits ts ≡ false → AllFit format ts → AllFit old_format ts
unfolding over_32_bits
narrower [] e a = tt
narrower (t ∷ ts) e (a, rest) =
    let (first, others) = or_none (leb numbers_32 t.end) (over_32_bits ts) e in
    (record { known = a.known; ordered = a.ordered; narrow = omega (arith, leb-false numbers_32 t.end first); worded = a.worded }, narrower ts others rest)

none_over : (ts : List TokenFields) → AllFit old_format ts → over_32_bits ts ≡ false
unfolding over_32_bits
none_over [] a = refl
none_over (t ∷ ts) (a, rest) = rw (lt-leb numbers_32 t.end (omega (arith, a.narrow)), none_over ts rest) refl

-- The head of a sound file, and that its fields fit another format, with a number there that means the same standard.
module _ (f : Format) (file : List ℕ) (all : AllBytes file) (c : Fields) (e : fields_of f file ≡ passes c) where
  -- The head behind the fields.
  abbrev its_head : HeadIs f file
  its_head = (read_of f file c e).is_head

  its_fields : c ≡ fields_with f file (read_of f file c e).row_tokens
  its_fields = (read_of f file c e).fields_are

  pub its_meaning : meant f c.language c.standard ≡ Some its_head.the_head.standard
  unfolding fields_with
  its_meaning = subst (λ (x : Fields). meant f x.language x.standard ≡ Some its_head.the_head.standard) (sym its_fields) its_head.is_meant

  head_small : c.allowance < byte_values ^ allowance_bytes
  unfolding fields_with
  head_small = subst (λ (x : Fields). x.allowance < byte_values ^ allowance_bytes) (sym its_fields) (number_small allowance_bytes at_allowance file all)

  -- The same head, if it means the same standard.
  same_head : record { language = c.language; standard = its_head.the_head.standard; flag = c.flag; allowance = c.allowance } ≡ its_head.the_head
  unfolding fields_with
  same_head =
      subst (λ (x : Fields). record { language = x.language; standard = its_head.the_head.standard; flag = x.flag; allowance = x.allowance } ≡ its_head.the_head) (sym its_fields)
      (sym its_head.has_fields)

  module _ (g : Format) (standard : ℕ) (known : meant g c.language standard ≡ Some its_head.the_head.standard) where
    head_flagged : f.greatest_flag ≤ g.greatest_flag → c.flag ≤ g.greatest_flag
    unfolding fields_with
    head_flagged flags = subst (λ (x : Fields). x.flag ≤ g.greatest_flag) (sym its_fields) (omega (arith, its_head.has_flag, flags))

    abbrev fields_fit : f.greatest_flag ≤ g.greatest_flag → AllFit g c.tokens → length (file_bytes g (with_standard standard c)) ≤ g.file_limit → FieldsFit g (with_standard standard c)
    fields_fit flags fit short =
        record {
          meaning = its_head.the_head.standard;
          known = known;
          flagged = head_flagged flags;
          small = head_small;
          all_fit = fit;
          few = sound_few f file c e;
          short = short;
        }

-- ---- an old file, widened

module _ (file : List ℕ) (all : AllBytes file) (c : Fields) (e : fields_of old_format file ≡ passes c) where
  -- Its new form is not longer than this.
  pub new_long : length (file_bytes format (widened_fields c)) ≡ length file + 8 * length c.tokens
  new_long = omega (arith, sound_long old_format file c e, file_long format (widened_fields c))

  new_known : meant format c.language (widened_standard c.standard) ≡ Some (its_head old_format file all c e).the_head.standard
  new_known = widened_means c.language c.standard (its_meaning old_format file all c e)

  abbrev new_fit : FieldsFit format (widened_fields c)
  new_fit =
      fields_fit old_format file all c e format (widened_standard c.standard) new_known (omega arith) (wider c.tokens (sound_fits old_format file all c e))
      (omega (arith, new_long, sound_short old_format file c e, sound_few old_format file c e))

  fields_again : narrowed_fields (widened_fields c) ≡ c
  fields_again = rw (narrowed_widened c.language c.standard (its_meaning old_format file all c e)) refl

  old_again : old_form c ≡ passes file
  unfolding old_form
  old_again =
      let read = read_of old_format file c e in
      let back : file_bytes old_format c ≡ file = ap (file_bytes old_format) read.fields_are ∙ file_back old_format file all read.is_head read.row_tokens read.stand in
      rw (none_over c.tokens (sound_fits old_format file all c e), back, le-ltb old_format.file_limit (length file) (sound_short old_format file c e)) refl

  -- "The inverse gives that file back."
  pub narrowed_back : narrowed (file_bytes format (widened_fields c)) ≡ passes file
  unfolding narrowed on_pass
  narrowed_back = rw (written_back format (widened_fields c) (omega arith) new_fit, on_pass) (ap old_form fields_again ∙ old_again)

-- ---- a new file, narrowed

module _ (file : List ℕ) (all : AllBytes file) (c : Fields) (e : fields_of format file ≡ passes c) where
  -- The fields that make the file.
  pub same_file : file_bytes format c ≡ file
  same_file =
      let read = read_of format file c e in
      ap (file_bytes format) read.fields_are ∙ file_back format file all read.is_head read.row_tokens read.stand

  -- The number that comes back for the standard,
  abbrev pub standard_back : ℕ
  standard_back = returned_standard c.language c.standard

  -- and all fields.
  pub fields_returned : widened_fields (narrowed_fields c) ≡ with_standard standard_back c
  fields_returned = rw (widened_narrowed c.language c.standard (its_meaning format file all c e)) refl

  pub meaning_returned : meant format c.language standard_back ≡ Some (its_head format file all c e).the_head.standard
  meaning_returned = returned_means c.language c.standard (its_meaning format file all c e)

  pub returned_long : length (file_bytes format (with_standard standard_back c)) ≡ length file
  returned_long = omega (arith, sound_long format file c e, file_long format (with_standard standard_back c))

  -- Byte for byte the file that was narrowed, but for the standard's.
  pub returned_bytes : file_bytes format (with_standard standard_back c) ≡ with_byte at_standard standard_back file
  unfolding file_bytes head_bytes little_endian_bytes with_byte
  returned_bytes = one_byte ∙ ap (with_byte at_standard standard_back) same_file
    where
      one_byte : file_bytes format (with_standard standard_back c) ≡ with_byte at_standard standard_back (file_bytes format c)
      one_byte = refl

  abbrev returned_fit : FieldsFit format (with_standard standard_back c)
  returned_fit =
      fields_fit format file all c e format standard_back meaning_returned (omega arith) (sound_fits format file all c e) (omega (arith, returned_long, sound_short format file c e))

  module _ (narrow : over_32_bits c.tokens ≡ false) (short : length (file_bytes old_format (narrowed_fields c)) ≤ old_format.file_limit) where
    old_fit : FieldsFit old_format (narrowed_fields c)
    old_fit =
        fields_fit format file all c e old_format (narrowed_standard c.language c.standard) (narrowed_means c.language c.standard (its_meaning format file all c e)) (omega arith)
        (narrower c.tokens narrow (sound_fits format file all c e)) short

    -- Its old form has these fields.
    pub old_fields : fields_of old_format (file_bytes old_format (narrowed_fields c)) ≡ passes (narrowed_fields c)
    old_fields = written_back old_format (narrowed_fields c) (omega arith) old_fit

-- ---- the same head and row

same_placed : (f g : Format) (file : List ℕ) (at : ℕ) (ts : List RowToken) → SameTokens (placed g at (map (token_fields f file) ts)) ts
unfolding placed token_fields
same_placed f g file at [] = tt
same_placed f g file at (t ∷ ts) = (refl, refl, same_placed f g file (at + (token_length g + length t.word)) ts)

with_room_alike : (room : ℕ) (h h' : Head) (ts ts' : List RowToken) → h ≡ h' → SameTokens ts ts' → Alike (with_room room h ts) (with_room room h' ts')
unfolding with_room
with_room_alike room h h' ts ts' p s = rw (same_many ts ts' s) (by_room (ltb room (numbers_per_token * length ts')))
  where
    by_room : (b : Bool) → Alike (if b then untouched ShortBuffer else passes (record { the_head = h; tokens = ts })) (if b then untouched ShortBuffer else passes (record { the_head = h'; tokens = ts' }))
    by_room true = refl
    by_room false = record { same_head = p; same_tokens = s }

-- What a file comes to whose head is formed and whose records are a row.
row_of_file : (f : Format) (file : List ℕ) (h : Head) (ts : List RowToken) (room : ℕ) → head f file ≡ Ok h → records_from f file most_tokens head_length ≡ row ts
    → file_row f file room ≡ with_room room h ts
unfolding file_row on_pass head_read row_read
row_of_file f file h ts room p q = rw (p, q, head_read, row_read, on_pass) refl

-- A sound file in a format, and the file of its fields in `format`, with a number there that means the same standard.
module _ (f : Format) (file : List ℕ) (all : AllBytes file) (c : Fields) (e : fields_of f file ≡ passes c) (standard : ℕ) (fit : FieldsFit format (with_standard standard c))
    (same : fit.meaning ≡ (its_head f file all c e).the_head.standard) where
  same_row : (room : ℕ) → Alike (file_row format (file_bytes format (with_standard standard c)) room) (file_row f file room)
  unfolding fields_with
  same_row room =
      let read = read_of f file c e in
      let is = read.is_head in
      let tokens_same : SameTokens (placed format head_length c.tokens) read.row_tokens
      = subst (λ (x : Fields). SameTokens (placed format head_length x.tokens) read.row_tokens) (sym read.fields_are) (same_placed f format file head_length read.row_tokens) in
      let head_same : head_meant format (with_standard standard c) (omega arith) fit ≡ is.the_head = rw same (same_head f file all c e) in
      rw (
        row_of_file format (file_bytes format (with_standard standard c)) (head_meant format (with_standard standard c) (omega arith) fit) (placed format head_length c.tokens) room
            (written_head format (with_standard standard c) (omega arith) fit) (written_row format (with_standard standard c) (omega arith) fit),
        row_of_file f file is.the_head read.row_tokens room is.is_head read.is_row,
      )
      (with_room_alike room (head_meant format (with_standard standard c) (omega arith) fit) is.the_head (placed format head_length c.tokens) read.row_tokens head_same tokens_same)

pub widened_row : (file : List ℕ) (all : AllBytes file) (c : Fields) → fields_of old_format file ≡ passes c
    → (room : ℕ) → Alike (file_row format (file_bytes format (widened_fields c)) room) (file_row old_format file room)
widened_row file all c e = same_row old_format file all c e (widened_standard c.standard) (new_fit file all c e) refl

pub returned_row : (file : List ℕ) (all : AllBytes file) (c : Fields) (e : fields_of format file ≡ passes c)
    → (room : ℕ) → Alike (file_row format (file_bytes format (with_standard (standard_back file all c e) c)) room) (file_row format file room)
returned_row file all c e = same_row format file all c e (standard_back file all c e) (returned_fit file all c e) refl

-- ---- what `narrow` answers to a sound file

-- An end is over 32 bits, the old form is too long, the output is too short.
abbrev answer_by : (over long short : Bool) (bytes : ℕ) → Result ℕ TypeNameError
answer_by true long short n = Err OffsetOver32Bits
answer_by false true short n = Err FileTooLong
answer_by false false true n = Err ShortBuffer
answer_by false false false n = Ok n

-- Which answer it is.
abbrev which : Result ℕ TypeNameError → ℕ
which (Err e) = (refusal_of e).number
which (Ok n) = 0

by_seven : (over long short : Bool) (n : ℕ) → answer_by over long short n ≡ Err OffsetOver32Bits → over ≡ true
by_seven true long short n e = refl
by_seven false true short n e = let z : ◌≡◌ {A = ℕ} 1 7 = ap which e in absurd (omega (arith, z))
by_seven false false true n e = let z : ◌≡◌ {A = ℕ} 6 7 = ap which e in absurd (omega (arith, z))
by_seven false false false n e = let z : ◌≡◌ {A = ℕ} 0 7 = ap which e in absurd (omega (arith, z))

by_one : (long short : Bool) (n : ℕ) → answer_by false long short n ≡ Err FileTooLong → long ≡ true
by_one true short n e = refl
by_one false true n e = let z : ◌≡◌ {A = ℕ} 6 1 = ap which e in absurd (omega (arith, z))
by_one false false n e = let z : ◌≡◌ {A = ℕ} 0 1 = ap which e in absurd (omega (arith, z))

by_six : (short : Bool) (n : ℕ) → answer_by false false short n ≡ Err ShortBuffer → short ≡ true
by_six true n e = refl
by_six false n e = let z : ◌≡◌ {A = ℕ} 0 6 = ap which e in absurd (omega (arith, z))

some_over : (ts : List TokenFields) → SomeEndOver ts → over_32_bits ts ≡ true
unfolding over_32_bits
some_over [] s = absurd s
some_over (t ∷ ts) (inl p) = rw (le-leb numbers_32 t.end p) refl
some_over (t ∷ ts) (inr s) = rw (some_over ts s) (or_true (leb numbers_32 t.end))
  where
    or_true : (b : Bool) → (b || true) ≡ true
    or_true true = refl
    or_true false = refl

over_some : (ts : List TokenFields) → over_32_bits ts ≡ true → SomeEndOver ts
unfolding over_32_bits
over_some [] e = absurd (true≢false (sym e))
over_some (t ∷ ts) e = by_first (leb numbers_32 t.end) refl (over_some ts) e
  where
    by_first : (b : Bool) → leb numbers_32 t.end ≡ b → (over_32_bits ts ≡ true → SomeEndOver ts) → (b || over_32_bits ts) ≡ true → SomeEndOver (t ∷ ts)
    by_first true p later q = inl (leb-true numbers_32 t.end p)
    by_first false p later q = inr (later q)

not_over : (ts : List TokenFields) → (SomeEndOver ts → ⊥) → over_32_bits ts ≡ false
not_over ts d = by_over (over_32_bits ts) refl
  where
    by_over : (b : Bool) → over_32_bits ts ≡ b → over_32_bits ts ≡ false
    by_over true e = absurd (d (over_some ts e))
    by_over false e = e

module _ (file : List ℕ) (c : Fields) (e : fields_of format file ≡ passes c) (room : ℕ) where
  abbrev old : List ℕ
  old = file_bytes old_format (narrowed_fields c)

  by_tests : (over long : Bool) → convert_answer (on_pass (if over then untouched OffsetOver32Bits else if long then untouched FileTooLong else passes old) (λ bytes. with_output room bytes))
      ≡ answer_by over long (ltb room (length old)) (length old)
  unfolding convert_answer on_pass with_output
  by_tests true long = refl
  by_tests false true = refl
  by_tests false false = by_short (ltb room (length old))
    where
      by_short : (short : Bool) → convert_answer (if short then untouched ShortBuffer else passes old) ≡ answer_by false false short (length old)
      by_short true = refl
      by_short false = refl

  answered : convert_answer (narrow_outcome file room) ≡ answer_by (over_32_bits c.tokens) (ltb old_format.file_limit (length old)) (ltb room (length old)) (length old)
  unfolding narrow_outcome narrowed on_pass old_form
  answered = rw (e, on_pass) (by_tests (over_32_bits c.tokens) (ltb old_format.file_limit (length old)))

  pub narrow_says : NarrowSays (narrowed_fields c) room (convert_answer (narrow_outcome file room))
  narrow_says =
      let limit : ℕ = old_format.file_limit in
      rw answered record {
        seven = (λ q. over_some c.tokens (by_seven (over_32_bits c.tokens) (ltb limit (length old)) (ltb room (length old)) (length old) q), λ s. rw (some_over c.tokens s) refl);
        one = λ d. rw (not_over c.tokens d) (λ q. ltb-true limit (length old) (by_one (ltb limit (length old)) (ltb room (length old)) (length old) q), λ p. rw (lt-ltb limit (length old) p) refl);
        six = λ d p. rw (not_over c.tokens d, le-ltb limit (length old) p) (λ q. ltb-true room (length old) (by_six (ltb room (length old)) (length old) q), λ r. rw (lt-ltb room (length old) r) refl);
        accepted = λ d p r. rw (not_over c.tokens d, le-ltb limit (length old) p, le-ltb room (length old) r) refl;
      }
