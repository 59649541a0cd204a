-- The theorems of the conversions, from the fields behind a converted file.
-- Assumes nothing.
use Rattle.std.specs.Prelude.{ℕ, ◌+◌, ◌*◌, ◌≤◌, ◌≡◌, refl, Bool, true, false, List, length, get_or, ltb, if◌then◌else◌}
use Rattle.std.proofs.Common.{sym, ap, subst, ◌∙◌, arith, ltb-false, le-ltb}
use Rattle.rows.specs.Format.{format, old_format, at_language, at_standard, most_tokens, standard_255}
use Rattle.rows.specs.declared.format.Format.{Format}
use Rattle.rows.specs.declared.answer.TypeNameError.TheVariants.{FileTooLong, OffsetOver32Bits}
use Rattle.rows.specs.Laws.Tests.{by_if}
use Rattle.type_name.specs.FileRow.{Outcome, untouched, passes, on_pass, file_row}
use Rattle.type_name.specs.Answers.{row_answer, outcome, answer_in, answer, buffer_in, final_buffer}
use Rattle.rule_answers.specs.MatchAnswers.{row_match, match_outcome, match_in, match_answer, match_buffer_in, match_buffer}
use Rattle.type_list.specs.ListAnswers.{row_parts_answer, list_outcome, list_answer_in, list_answer, list_buffer_in, list_buffer}
use Rattle.convert.specs.Bytes.{AllBytes, with_byte}
use Rattle.convert.specs.Standards.{returned_standard}
use Rattle.convert.specs.Fields.{Fields, with_standard, fields_of, file_bytes}
use Rattle.convert.specs.Conversions.{widened_fields, narrowed_fields, widened, over_32_bits, old_form, narrowed, with_output, widen_outcome, narrow_outcome}
use Rattle.convert.specs.SameRow.{Alike}
use Rattle.convert.specs.Promises.{StillRead, WidenedBack}
use Rattle.convert.specs.Laws.Standards.{returned_same}
use Rattle.convert.specs.Laws.Reads.{refused_not}
use Rattle.convert.specs.Laws.Sizes.{file_long}
use Rattle.convert.specs.Laws.Entries.{sound_long, sound_few, sound_language, sound_standard}
use Rattle.convert.specs.Laws.SameAnswers.{same_read, same_match, same_list, same_named, same_outcome}
use Rattle.named_answers.specs.NamedAnswers.{named_answer, named_outcome, answer_named, buffer_named}
use Rattle.convert.specs.Laws.Promised.{its_meaning, narrowed_back, same_file, standard_back, fields_returned, meaning_returned, returned_long, returned_bytes, old_fields, widened_row, returned_row}

-- ---- which files are converted, and how long they get

-- The fields behind a file in one format that is converted to another, where they are these: it passed 1 to 5.
pub record From (f g : Format) (written : Fields → Fields) (file converted : List ℕ) : Type 0 where
  pub fields : Fields
  pub are : fields_of f file ≡ passes fields
  pub is : converted ≡ file_bytes g (written fields)

same_bytes : {bytes new : List ℕ} → passes bytes ≡ passes new → new ≡ bytes
same_bytes q = cc

-- "Both test 1 to 5 first": a file is widened exactly if it passes them.
pub widens : (file : List ℕ) {c : Fields} → fields_of old_format file ≡ passes c → widened file ≡ passes (file_bytes format (widened_fields c))
unfolding widened on_pass
widens file e = rw (e, on_pass) refl

by_old_fields : (file : List ℕ) {new : List ℕ} (o : Outcome Fields) → fields_of old_format file ≡ o → on_pass o (λ c. passes (file_bytes format (widened_fields c))) ≡ passes new → From old_format format widened_fields file new
unfolding on_pass
by_old_fields file (untouched e) p q = absurd (refused_not q)
by_old_fields file (passes c) p q = record { fields = c; are = p; is = same_bytes q }

pub widened_from : (file : List ℕ) {new : List ℕ} → widened file ≡ passes new → From old_format format widened_fields file new
unfolding widened
widened_from file q = by_old_fields file (fields_of old_format file) refl q

-- The fields behind a narrowed file: it passed 1 to 5, no end is over 32 bits, and its old form is not too long.
pub record FromNew (file old : List ℕ) : Type 0 where
  pub from : From format old_format narrowed_fields file old
  pub narrow : over_32_bits from.fields.tokens ≡ false
  pub short : length (file_bytes old_format (narrowed_fields from.fields)) ≤ old_format.file_limit

by_old_form : (file : List ℕ) {old : List ℕ} (c : Fields) → fields_of format file ≡ passes c → old_form (narrowed_fields c) ≡ passes old → FromNew file old
unfolding old_form
by_old_form file {old} c p =
    by_tests (over_32_bits c.tokens) refl (ltb old_format.file_limit (length (file_bytes old_format (narrowed_fields c)))) refl
  where
    by_tests : (over : Bool) → over_32_bits c.tokens ≡ over → (long : Bool) → ltb old_format.file_limit (length (file_bytes old_format (narrowed_fields c))) ≡ long
        → (if over then untouched OffsetOver32Bits else if long then untouched FileTooLong else passes (file_bytes old_format (narrowed_fields c))) ≡ passes old → FromNew file old
    by_tests true o long l q = absurd (refused_not q)
    by_tests false o true l q = absurd (refused_not q)
    by_tests false o false l q =
        record { from = record { fields = c; are = p; is = same_bytes q }; narrow = o; short = ltb-false old_format.file_limit (length (file_bytes old_format (narrowed_fields c))) l }

by_new_fields : (file : List ℕ) {old : List ℕ} (o : Outcome Fields) → fields_of format file ≡ o → on_pass o (λ c. old_form (narrowed_fields c)) ≡ passes old → FromNew file old
unfolding on_pass
by_new_fields file (untouched e) p q = absurd (refused_not q)
by_new_fields file (passes c) p q = by_old_form file c p q

pub narrowed_from : (file : List ℕ) {old : List ℕ} → narrowed file ≡ passes old → FromNew file old
unfolding narrowed
narrowed_from file q = by_new_fields file (fields_of format file) refl q

-- A widened file is 8 bytes a token longer, so at most 73,728 bytes long, and within the file limit;
pub widened_length : (file : List ℕ) {new : List ℕ} → widened file ≡ passes new → length new ≤ length file + 8 * most_tokens
widened_length file q =
    let w = widened_from file q in
    rw w.is (omega (arith, sound_long old_format file w.fields w.are, file_long format (widened_fields w.fields), sound_few old_format file w.fields w.are))

-- a narrowed one is never longer.
pub narrowed_length : (file : List ℕ) {old : List ℕ} → narrowed file ≡ passes old → length old ≤ length file
narrowed_length file q =
    let n = (narrowed_from file q).from in
    rw n.is (omega (arith, sound_long format file n.fields n.are, file_long old_format (narrowed_fields n.fields)))

-- ---- "A converted file gets the answer and tree its old file would get if still read"

same_answers : (f : Format) (file new : List ℕ) → ((room : ℕ) → Alike (file_row format new room) (file_row f file room)) → StillRead f file new
unfolding outcome answer final_buffer match_outcome match_answer match_buffer list_outcome list_answer list_buffer named_outcome answer_named buffer_named
same_answers f file new same =
    record {
      same_row = same;
      read = λ room. ap answer_in (same_outcome row_answer same_read (file_row format new room) (file_row f file room) (same room));
      read_tree = λ before. ap (buffer_in before) (same_outcome row_answer same_read (file_row format new (length before)) (file_row f file (length before)) (same (length before)));
      matched = λ rules room. ap match_in (same_outcome (row_match rules) (same_match rules) (file_row format new room) (file_row f file room) (same room));
      matched_tree = λ rules before. ap (match_buffer_in before) (same_outcome (row_match rules) (same_match rules) (file_row format new (length before)) (file_row f file (length before)) (same (length before)));
      listed = λ room. ap list_answer_in (same_outcome row_parts_answer same_list (file_row format new room) (file_row f file room) (same room));
      listed_trees = λ before. ap (list_buffer_in before) (same_outcome row_parts_answer same_list (file_row format new (length before)) (file_row f file (length before)) (same (length before)));
      named = λ names room. ap answer_in (same_outcome (named_answer names) (same_named names) (file_row format new room) (file_row f file room) (same room));
      named_tree = λ names before. ap (buffer_in before) (same_outcome (named_answer names) (same_named names) (file_row format new (length before)) (file_row f file (length before)) (same (length before)));
    }

pub still_read : (file : List ℕ) {new : List ℕ} → AllBytes file → widened file ≡ passes new → StillRead old_format file new
still_read file {new} all q =
    let w = widened_from file q in
    same_answers old_format file new (λ room. rw w.is (widened_row file all w.fields w.are room))

-- ---- "and the inverse gives that file back"

-- Byte for byte;
pub narrow_of_widen : (file : List ℕ) {new : List ℕ} → AllBytes file → widened file ≡ passes new → narrowed new ≡ passes file
narrow_of_widen file all q = let w = widened_from file q in rw w.is (narrowed_back file all w.fields w.are)

-- and the other way round wherever `narrow` accepts, but for 255.
module _ (file : List ℕ) {old : List ℕ} (all : AllBytes file) (q : narrowed file ≡ passes old) where
  its_old : FromNew file old
  its_old = narrowed_from file q

  -- The file that comes back.
  abbrev back : List ℕ
  back = file_bytes format (with_standard (standard_back file all its_old.from.fields its_old.from.are) its_old.from.fields)

  comes_back : widened old ≡ passes back
  comes_back =
      let c = its_old.from.fields in
      subst (λ (x : List ℕ). widened x ≡ passes back) (sym its_old.from.is)
      (widens (file_bytes old_format (narrowed_fields c)) (old_fields file all c its_old.from.are its_old.narrow its_old.short)
      ∙ ap (λ (x : Fields). passes (file_bytes format x)) (fields_returned file all c its_old.from.are))

  -- Field by field,
  pub widen_of_narrow : WidenedBack file old
  widen_of_narrow =
      let c = its_old.from.fields in
      let e = its_old.from.are in
      record {
        was = c;
        were = e;
        back = with_standard (standard_back file all c e) c;
        is = comes_back;
        fields_back = record {
          same_language = refl;
          standard_back = refl;
          same_meaning = meaning_returned file all c e ∙ sym (its_meaning format file all c e);
          same_flag = refl;
          same_allowance = refl;
          same_tokens = refl;
        };
      }

  -- byte for byte,
  pub widen_of_narrow_bytes : widened old ≡ passes (with_byte at_standard (returned_standard (get_or file at_language 0) (get_or file at_standard 0)) file)
  widen_of_narrow_bytes =
      let c = its_old.from.fields in
      let e = its_old.from.are in
      rw (← sound_language format file c e, ← sound_standard format file c e) (comes_back ∙ ap passes (returned_bytes file all c e))

  -- the file itself, if it does not say 255,
  pub widen_of_narrow_same : (get_or file at_standard 0 ≡ standard_255 → ⊥) → widened old ≡ passes file
  widen_of_narrow_same d =
      let c = its_old.from.fields in
      let e = its_old.from.are in
      let same : standard_back file all c e ≡ c.standard = returned_same c.language c.standard (λ p. d (sym (sound_standard format file c e) ∙ p)) in
      comes_back ∙ ap (λ (n : ℕ). passes (file_bytes format (with_standard n c))) same ∙ ap passes (same_file file all c e)

  -- and read as the file was.
  pub returned_read : {new : List ℕ} → widened old ≡ passes new → StillRead format file new
  returned_read {new} p =
      let is : new ≡ back = same_bytes (sym comes_back ∙ p) in
      same_answers format file new (λ room. rw is (returned_row file all its_old.from.fields its_old.from.are room))

  back_long : length back ≡ length file
  back_long = returned_long file all its_old.from.fields its_old.from.are

-- Both with their outputs: what a call leaves in an output that is long enough, the other call turns back.
enough : (room : ℕ) (bytes : List ℕ) → length bytes ≤ room → with_output room bytes ≡ passes bytes
unfolding with_output
enough room bytes p = rw (le-ltb room (length bytes) p) refl

given : (o : Outcome (List ℕ)) (room : ℕ) {bytes : List ℕ} → on_pass o (λ b. with_output room b) ≡ passes bytes → o ≡ passes bytes
unfolding on_pass with_output
given (untouched e) room q = absurd (refused_not q)
given (passes b) room {bytes} q = by_if (λ (x : Outcome (List ℕ)). x ≡ passes bytes → passes b ≡ passes bytes) (ltb room (length b)) (λ _ r. absurd (refused_not r)) (λ _ r. r) q

pub widened_and_back : (file : List ℕ) {new : List ℕ} (room room' : ℕ) → AllBytes file → widen_outcome file room ≡ passes new → length file ≤ room' → narrow_outcome new room' ≡ passes file
unfolding widen_outcome narrow_outcome on_pass
widened_and_back file {new} room room' all q p =
    ap (λ (o : Outcome (List ℕ)). on_pass o (λ b. with_output room' b)) (narrow_of_widen file all (given (widened file) room q)) ∙ enough room' file p

pub narrowed_and_back : (file : List ℕ) {old : List ℕ} (room room' : ℕ) → AllBytes file → narrow_outcome file room ≡ passes old → length file ≤ room'
    → widen_outcome old room' ≡ passes (with_byte at_standard (returned_standard (get_or file at_language 0) (get_or file at_standard 0)) file)
unfolding widen_outcome narrow_outcome on_pass
narrowed_and_back file {old} room room' all q p =
    let g : narrowed file ≡ passes old = given (narrowed file) room q in
    let is : with_byte at_standard (returned_standard (get_or file at_language 0) (get_or file at_standard 0)) file ≡ back file all g = same_bytes (sym (comes_back file all g) ∙ widen_of_narrow_bytes file all g) in
    ap (λ (o : Outcome (List ℕ)). on_pass o (λ b. with_output room' b)) (widen_of_narrow_bytes file all g) ∙ enough room' _ (rw is (omega (arith, back_long file all g, p)))
