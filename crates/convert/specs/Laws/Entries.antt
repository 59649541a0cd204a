-- The two conversions from what a check tells of their file.
-- Assumes nothing.
use Rattle.std.specs.Prelude.{ℕ, ◌+◌, ◌*◌, ◌-◌, ◌≤◌, ◌<◌, ◌≡◌, Bool, true, false, not, List, length, get_or, Err}
use Rattle.std.proofs.Math.Path.{refl, sym, ap}
use Rattle.std.proofs.Common.{◌∙◌, arith}
use borrow.Author.Tests.{lt-ltb, le-ltb}
use Rattle.std.proofs.Math.ListN.{length-map}
use Rattle.rows.specs.Format.{format, old_format, head_length, at_language, at_standard, most_tokens, token_length}
use Rattle.rows.specs.declared.format.Format.{Format}
use Rattle.rows.specs.declared.answer.TypeNameError.{TypeNameError}
use Rattle.rows.specs.declared.answer.TypeNameError.TheVariants.{FileTooLong, OffsetOver32Bits}
use Rattle.rows.specs.Laws.RowFacts.{few_tokens}
use Rattle.type_name.specs.FileRow.{Outcome, untouched, passes, on_pass}
use Rattle.convert.specs.Standards.{widened_standard, narrowed_standard}
use Rattle.convert.specs.Fields.{Fields, with_standard, token_fields, fields_with, fields_of, file_bytes}
use Rattle.convert.specs.Conversions.{widened, over_32_bits, old_form, narrowed, with_output, widen_outcome, narrow_outcome, convert_answer, output_in}
use Rattle.convert.specs.ConvertSays.{Counted, bytes_in, checked_in, sound}
use Rattle.convert.specs.Laws.Reads.{read_of, SoundTold, refusal_told, sound_told}
use Rattle.convert.specs.Laws.Sizes.{words_long, file_long, stand_long}

-- ---- how long a sound file is, and how many tokens it has

module _ (f : Format) (file : List ℕ) (c : Fields) (e : fields_of f file ≡ passes c) where
  pub sound_long : length file ≡ head_length + (token_length f * length c.tokens + words_long c.tokens)
  unfolding fields_with
  sound_long = let read = read_of f file c e in rw read.fields_are (stand_long f file head_length read.row_tokens read.stand)

  pub sound_few : length c.tokens ≤ most_tokens
  unfolding fields_with
  sound_few =
      let read = read_of f file c e in
      rw (read.fields_are, length-map read.row_tokens (token_fields f file)) (few_tokens f file most_tokens head_length read.is_row)

  pub sound_short : length file ≤ f.file_limit
  sound_short = (read_of f file c e).is_head.short

  -- Language and standard as they stand in its head.
  pub sound_language : c.language ≡ get_or file at_language 0
  unfolding fields_with
  sound_language = let read = read_of f file c e in rw read.fields_are refl

  pub sound_standard : c.standard ≡ get_or file at_standard 0
  unfolding fields_with
  sound_standard = let read = read_of f file c e in rw read.fields_are refl

-- The same from what a check tells.
module _ (f : Format) (file : List ℕ) {count : ℕ} {narrow : Bool} (q : sound count narrow ≡ checked_in (fields_of f file)) where
  pub told_few : count ≤ most_tokens
  told_few = let t = sound_told (fields_of f file) (sym q) in omega (arith, t.is_count, sound_few f file t.fields t.is)

  pub told_short : length file ≤ f.file_limit
  told_short = let t = sound_told (fields_of f file) (sym q) in sound_short f file t.fields t.is

  pub told_head : head_length ≤ length file
  told_head = let t = sound_told (fields_of f file) (sym q) in omega (arith, sound_long f file t.fields t.is)

  pub told_long : token_length f * count ≤ length file
  told_long = let t = sound_told (fields_of f file) (sym q) in rw t.is_count (omega (arith, sound_long f file t.fields t.is))

-- The bytes of its fields in another format.
bytes_of_fields : (to : Format) (standard : ℕ) {o : Outcome Fields} {c : Fields} → o ≡ passes c → bytes_in to standard o ≡ file_bytes to (with_standard standard c)
unfolding bytes_in
bytes_of_fields to standard e = rw (e, bytes_in) refl

-- How long they are: the standard's number is one byte, whichever it is.
long_with : (f : Format) (standard : ℕ) (c : Fields) → length (file_bytes f (with_standard standard c)) ≡ head_length + (token_length f * length c.tokens + words_long c.tokens)
long_with f standard c = file_long f (with_standard standard c)

-- What a refusal comes to, whatever the output.
module _ (before : List ℕ) {o : Outcome (List ℕ)} {e : TypeNameError} (q : o ≡ untouched e) where
  pub refused_answer : Err e ≡ convert_answer o
  unfolding convert_answer
  refused_answer = rw (q, convert_answer) refl

  pub refused_output : before ≡ output_in before o
  unfolding output_in
  refused_output = rw (q, output_in) refl

-- ---- `widen`

module _ (file : List ℕ) where
  pub widen_refused : {e : TypeNameError} (room : ℕ) → Err e ≡ checked_in (fields_of old_format file) → widen_outcome file room ≡ untouched e
  unfolding widen_outcome widened on_pass
  widen_refused room q = rw (refusal_told (fields_of old_format file) (sym q), on_pass) refl

  module _ {count : ℕ} {narrow : Bool} (q : sound count narrow ≡ checked_in (fields_of old_format file)) where
    told_old : SoundTold (fields_of old_format file) count narrow
    told_old = sound_told (fields_of old_format file) (sym q)

    pub widen_counted : {bytes standard : ℕ} → bytes ≡ length file + (token_length format - token_length old_format) * count → Counted old_format format standard file bytes
    widen_counted {bytes} {standard} e =
        let t = told_old in
        let long = sound_long old_format file t.fields t.is in
        let short = sound_short old_format file t.fields t.is in
        let few = sound_few old_format file t.fields t.is in
        let new = long_with format standard t.fields in
        record {
          sound = record { fields = t.fields; is = t.is };
          counts = rw (bytes_of_fields format standard t.is) (omega (arith, e, long, new, t.is_count));
          small = omega (arith, e, short, few, t.is_count);
        }

    pub widen_sound : (room : ℕ) → with_output room (bytes_in format (widened_standard (get_or file at_standard 0)) (fields_of old_format file)) ≡ widen_outcome file room
    unfolding widen_outcome widened on_pass bytes_in
    widen_sound room = let t = told_old in rw (t.is, on_pass, bytes_in, ← sound_standard old_format file t.fields t.is) refl

-- ---- `narrow`

-- The old form of fields, test by test.
module _ (c : Fields) where
  old_over : over_32_bits c.tokens ≡ true → old_form c ≡ untouched OffsetOver32Bits
  unfolding old_form
  old_over e = rw e refl

  module _ (e : over_32_bits c.tokens ≡ false) where
    old_too_long : old_format.file_limit < length (file_bytes old_format c) → old_form c ≡ untouched FileTooLong
    unfolding old_form
    old_too_long p = rw (e, lt-ltb old_format.file_limit (length (file_bytes old_format c)) p) refl

    old_written : length (file_bytes old_format c) ≤ old_format.file_limit → old_form c ≡ passes (file_bytes old_format c)
    unfolding old_form
    old_written p = rw (e, le-ltb old_format.file_limit (length (file_bytes old_format c)) p) refl

module _ (file : List ℕ) where
  pub narrow_refused : {e : TypeNameError} (room : ℕ) → Err e ≡ checked_in (fields_of format file) → narrow_outcome file room ≡ untouched e
  unfolding narrow_outcome narrowed on_pass
  narrow_refused room q = rw (refusal_told (fields_of format file) (sym q), on_pass) refl

  module _ {count : ℕ} {narrow : Bool} (q : sound count narrow ≡ checked_in (fields_of format file)) where
    told_new : SoundTold (fields_of format file) count narrow
    told_new = sound_told (fields_of format file) (sym q)

    not_narrow : (b : Bool) → false ≡ not b → b ≡ true
    not_narrow true e = refl
    not_narrow false e = e

    is_narrow : (b : Bool) → true ≡ not b → b ≡ false
    is_narrow true e = e
    is_narrow false e = refl

    -- The number that is written for the standard, and the fields with it.
    abbrev old_standard : ℕ
    old_standard = narrowed_standard (get_or file at_language 0) (get_or file at_standard 0)

    abbrev written : Fields
    written = with_standard old_standard told_new.fields

    narrowed_is : narrowed file ≡ old_form written
    unfolding narrowed on_pass
    narrowed_is =
        let t = told_new in
        rw (t.is, on_pass, ← sound_language format file t.fields t.is, ← sound_standard format file t.fields t.is) refl

    outcome_is : (room : ℕ) {o : Outcome (List ℕ)} → old_form written ≡ o → narrow_outcome file room ≡ on_pass o (λ bytes. with_output room bytes)
    unfolding narrow_outcome
    outcome_is room e = ap (λ (x : Outcome (List ℕ)). on_pass x (λ bytes. with_output room bytes)) (narrowed_is ∙ e)

    pub narrow_over : (room : ℕ) → narrow ≡ false → narrow_outcome file room ≡ untouched OffsetOver32Bits
    unfolding on_pass
    narrow_over room e = let t = told_new in outcome_is room (old_over written (not_narrow (over_32_bits t.fields.tokens) (sym e ∙ t.is_narrow)))

    -- How many bytes the old form has.
    old_long : {bytes : ℕ} (standard : ℕ) → bytes ≡ length file - (token_length format - token_length old_format) * count
        → bytes ≡ length (file_bytes old_format (with_standard standard told_new.fields))
    old_long {bytes} standard e =
        let t = told_new in
        let long = sound_long format file t.fields t.is in
        let old = long_with old_format standard t.fields in
        omega (arith, e, long, old, t.is_count)

    module _ {bytes : ℕ} (e : bytes ≡ length file - (token_length format - token_length old_format) * count) (n : narrow ≡ true) where
      is_not_over : over_32_bits told_new.fields.tokens ≡ false
      is_not_over = let t = told_new in is_narrow (over_32_bits t.fields.tokens) (sym n ∙ t.is_narrow)

      pub narrow_long : (room : ℕ) → old_format.file_limit < bytes → narrow_outcome file room ≡ untouched FileTooLong
      unfolding on_pass
      narrow_long room p = outcome_is room (old_too_long written is_not_over (omega (arith, p, old_long old_standard e)))

      pub narrow_counted : {standard : ℕ} → bytes ≤ old_format.file_limit → Counted format old_format standard file bytes
      narrow_counted {standard} p =
          let t = told_new in
          record {
            sound = record { fields = t.fields; is = t.is };
            counts = rw (bytes_of_fields old_format standard t.is) (old_long standard e);
            small = omega (arith, p);
          }

      pub narrow_sound : (room : ℕ) → bytes ≤ old_format.file_limit → with_output room (bytes_in old_format old_standard (fields_of format file)) ≡ narrow_outcome file room
      unfolding on_pass
      narrow_sound room p =
          let t = told_new in
          ap (with_output room) (bytes_of_fields old_format old_standard t.is) ∙ sym (outcome_is room (old_written written is_not_over (omega (arith, p, old_long old_standard e))))
