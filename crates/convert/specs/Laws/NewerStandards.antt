-- What was accepted before 255 came to mean newer standards is accepted now; which heads are refused with 3.
-- Assumes nothing.
use Rattle.rows.specs.declared.answer.TypeNameError.{TypeNameError}
use Prim.Native.Nat.{ℕ, zero, suc, ◌+◌, ◌*◌, ◌≤◌, ◌<◌}
use Rattle.std.proofs.Math.Path.{◌≡◌, refl, ap, subst}
use Rattle.std.proofs.Common.{sym, ◌∙◌, arith, lt_of_not-le}
use Rattle.std.specs.Prelude.{Bool, List, [], ◌∷◌, get_or, leb, eqb, if◌then◌else◌, Err, None, Ok, Option, Result, Some}
use Rattle.std.proofs.Math.Bool.{true, false, not}
use Rattle.std.proofs.Math.Logic.{inl, inr}
use Rattle.std.proofs.Math.Decide.{dec_le}
use borrow.Author.Tests.{le-ltb, le-leb, ne_eqb, eqb-false, ltb-false}
use Rattle.std.proofs.Math.ListN.{length}
use Rattle.std.proofs.Math.Dec.{ltb}
use Rattle.rows.specs.Languages.{C, Cpp, Fortran, C18, C23, Cpp17, Cpp23, Fortran2018, Fortran2023}
use Rattle.rows.specs.Format.{format, old_format, head_length, at_language, at_standard, at_flag, most_tokens, declared, stands_for, standard_254, standard_255, meant, SameOrLater}
use Rattle.rows.specs.Refusals.{refusal_of}
use Rattle.rows.specs.declared.format.Format.{Format}
use Rattle.rows.specs.declared.format.StandIn.{StandIn}
use Rattle.rows.specs.declared.answer.TypeNameError.TheVariants.{FileTooLong, InvalidHead, UnknownProfile, ShortBuffer}
use Rattle.rows.specs.declared.head.Head.{Head}
use Rattle.rows.specs.declared.token.TokenRecord.{TokenRecord}
use Rattle.rows.specs.Records.{byte_values, RowToken, Tokens, tokens, before_tokens, Row, refused, row, head, head_formed, head_with, found, well_formed, length_fits, word_fits, word_at, span_start_at, span_end_at, kind_at, length_at, after_record, tokens_from, to_end, records_from}
use Rattle.reader.specs.Nodes.{numbers_per_token}
use Rattle.type_name.specs.FileRow.{HeadRow, Outcome, untouched, passes, on_pass, head_read, row_read, with_room, file_row, entry_outcome}
use Rattle.type_name.specs.Answers.{accepted, row_answer, outcome}
use Rattle.type_name.specs.Laws.Fields.{one_head}
use Rattle.rules.specs.RuleTable.{table_of}
use Rattle.rule_answers.specs.MatchAnswers.{row_match, match_outcome}
use Rattle.type_list.specs.Parts.{parts}
use Rattle.type_list.specs.ListAnswers.{row_parts_answer, list_outcome}
use Rattle.named_answers.specs.NamedAnswers.{named_answer, named_outcome}
use Rattle.named_answers.specs.Laws.NamedRow.{named_accepted, named_later, steps_allowed}
use Rattle.convert.specs.Bytes.{AllBytes}
use Rattle.convert.specs.Promises.{ExactlyIf}
use Rattle.convert.specs.NewerStandards.{former_format, AcceptedNow, Passes1And2, NoSuchProfile}
use Rattle.convert.specs.Laws.Standards.{few_declared, Number, own, is_255, is_254, other, number, means_own, means_255, means_254, means_none, unknown_not, standard_in}
use Rattle.convert.specs.Laws.Back.{HeadIs, head_is}
use Rattle.convert.specs.Laws.Reads.{refused_not}
use Rattle.convert.specs.Laws.Later.{row_later, match_later, parts_later}

-- ---- the standard: the same or a later one

pub record Later (language standard before : ℕ) : Type 0 where
  pub now : ℕ
  pub is : meant format language standard ≡ Some now
  pub later : SameOrLater before now

-- What 255 means now is later than what it meant.
by_language : (a b c : Bool) {before : ℕ} → (if a then Some C18 else if b then Some Cpp17 else if c then Some Fortran2018 else None) ≡ Some before
    → (now : ℕ) × ((if a then Some C23 else if b then Some Cpp23 else if c then Some Fortran2023 else None) ≡ Some now) × (before ≤ now)
by_language true b c {before} q = let z : C18 ≡ before = ap standard_in q in (C23, refl, omega (arith, z))
by_language false true c {before} q = let z : Cpp17 ≡ before = ap standard_in q in (Cpp23, refl, omega (arith, z))
by_language false false true {before} q = let z : Fortran2018 ≡ before = ap standard_in q in (Fortran2023, refl, omega (arith, z))
by_language false false false q = absurd (unknown_not q)

newer : (language : ℕ) {before : ℕ} → meant former_format language standard_255 ≡ Some before → Later language standard_255 before
unfolding stands_for
newer language e =
    let n = by_language (eqb language C) (eqb language Cpp) (eqb language Fortran) (sym (means_255 former_format language) ∙ e) in
    record { now = n.0; is = means_255 format language ∙ n.1; later = n.2 }

meant_later : (language standard : ℕ) {before : ℕ} → meant former_format language standard ≡ Some before → Later language standard before
unfolding stands_for
meant_later language standard {before} e = by (number language standard)
  where
    same : Some standard ≡ Some before → before ≡ standard
    same q = sym (ap standard_in q)

    by : Number language standard → Later language standard before
    by (own p) =
        let z : before ≡ standard = same (sym (means_own former_format language standard p) ∙ e) in
        record { now = standard; is = means_own format language standard p; later = omega (arith, z) }
    by (is_255 q) = subst (λ (n : ℕ). Later language n before) (sym q) (newer language (rw q at e))
    by (is_254 q) = absurd (unknown_not (sym (means_254 former_format language) ∙ (rw q at e)))
    by (other p q r) = absurd (unknown_not (sym (means_none former_format language standard p q r) ∙ e))

-- ---- the file: the same but for the standard

module _ (file : List ℕ) where
  -- The same records: the two formats differ in standards only.
  one_more : (most at : ℕ) → ((next : ℕ) → tokens_from former_format file most next ≡ tokens_from format file most next) → (b : Bool) (t : Option TokenRecord)
      → ◌≡◌ {A = Tokens} (elim b as (λ _. Tokens) [ true ↦ tokens [] at | false ↦ after_record former_format file at t (λ next. tokens_from former_format file most next) ])
      (elim b as (λ _. Tokens) [ true ↦ tokens [] at | false ↦ after_record format file at t (λ next. tokens_from format file most next) ])
  unfolding after_record word_at length_at
  one_more most at same true t = refl
  one_more most at same false None = refl
  one_more most at same false (Some r) = ap (before_tokens (record { place = at; kind = r.kind; word = word_at format file at })) (same (at + r.length))

  same_tokens : (most at : ℕ) → tokens_from former_format file most at ≡ tokens_from format file most at
  unfolding tokens_from found well_formed length_fits word_fits word_at span_start_at span_end_at kind_at length_at
  same_tokens zero at = refl
  same_tokens (suc most) at = one_more most at (same_tokens most) (leb (length file) at) (found format file at)

  same_records : (most at : ℕ) → records_from former_format file most at ≡ records_from format file most at
  unfolding records_from to_end
  same_records most at = ap (to_end format file) (same_tokens most at)

  -- The same head, its standard the same or a later one.
  abbrev head_at : (h : Head) (now : ℕ) → Head
  head_at h now = record { language = h.language; standard = now; flag = h.flag; allowance = h.allowance }

  pub record HeadNow (h : Head) : Type 0 where
    pub now : ℕ
    pub formed : head format file ≡ Ok (head_at h now)
    pub later : SameOrLater h.standard now

  head_later : (is : HeadIs former_format file) → HeadNow is.the_head
  unfolding head head_formed head_with
  head_later is =
      let l = meant_later (get_or file at_language 0) (get_or file at_standard 0) is.is_meant in
      record {
        now = l.now;
        formed = subst (λ (k : Head). head format file ≡ Ok (head_at k l.now)) (sym is.has_fields)
            (rw (
              le-ltb format.file_limit (length file) is.short,
              le-leb head_length (length file) is.long,
              is.has_length,
              is.has_kind,
              le-leb (get_or file at_flag 0) format.greatest_flag is.has_flag,
              l.is,
              head_with,
            ) refl);
        later = l.later;
      }

  head_now : (h : Head) → head former_format file ≡ Ok h → HeadNow h
  head_now h e =
      let is = head_is former_format file h e in
      subst HeadNow (one_head (head former_format file) is.the_head h is.is_head e) (head_later is)

  -- The same row, under the same or a later standard.
  pub record RowNow (room : ℕ) (r : HeadRow) : Type 0 where
    pub now : ℕ
    pub is : file_row format file room ≡ passes (record { the_head = head_at r.the_head now; tokens = r.tokens })
    pub later : SameOrLater r.the_head.standard now

  module _ (room : ℕ) (r : HeadRow) where
    by_room : (h : Head) → HeadNow h → (ts : List RowToken) → records_from format file most_tokens head_length ≡ row ts → (b : Bool) → ltb room (numbers_per_token * length ts) ≡ b
        → (if b then untouched ShortBuffer else passes (record { the_head = h; tokens = ts })) ≡ passes r → RowNow room r
    unfolding file_row on_pass head_read row_read with_room
    by_room h n ts q true s e = absurd (refused_not e)
    by_room h n ts q false s e =
        subst (RowNow room) (same e) (record { now = n.now; is = rw (n.formed, q, s, head_read, row_read, on_pass) refl; later = n.later })
      where
        same : {k : HeadRow} → passes k ≡ passes r → k ≡ r
        same z = cc

    by_records : (h : Head) → HeadNow h → (w : Row) → records_from format file most_tokens head_length ≡ w → on_pass (row_read w) (λ ts. with_room room h ts) ≡ passes r → RowNow room r
    unfolding on_pass row_read with_room
    by_records h n (refused d) q e = absurd (refused_not e)
    by_records h n (row ts) q e = by_room h n ts q (ltb room (numbers_per_token * length ts)) refl e

    by_head : (g : Result Head TypeNameError) → head former_format file ≡ g
        → on_pass (head_read g) (λ h. on_pass (row_read (records_from former_format file most_tokens head_length)) (λ ts. with_room room h ts)) ≡ passes r → RowNow room r
    unfolding on_pass head_read
    by_head (Err d) p e = absurd (refused_not e)
    by_head (Ok h) p e =
        by_records h (head_now h p) (records_from format file most_tokens head_length) refl
        (ap (λ (w : Row). on_pass (row_read w) (λ ts. with_room room h ts)) (sym (same_records most_tokens head_length)) ∙ e)

    row_now : file_row former_format file room ≡ passes r → RowNow room r
    unfolding file_row
    row_now e = by_head (head former_format file) refl e

  -- ---- every entry

  -- The head and row behind what an entry answered.
  record Answered {A : Type 0} (answers : HeadRow → A) (room : ℕ) (a : A) : Type 0 where
    head_row : HeadRow
    was : file_row former_format file room ≡ passes head_row
    answered : answers head_row ≡ a

  answered_of : {A : Type 0} (answers : HeadRow → A) (room : ℕ) (a : A) → entry_outcome former_format answers file room ≡ passes a → Answered answers room a
  unfolding on_pass
  answered_of {A} answers room a e = by (file_row former_format file room) refl e
    where
      same : {b : A} → passes b ≡ passes a → b ≡ a
      same q = cc

      by : (o : Outcome HeadRow) → file_row former_format file room ≡ o → on_pass o (λ r. passes (answers r)) ≡ passes a → Answered answers room a
      by (untouched d) p q = absurd (refused_not q)
      by (passes r) p q = record { head_row = r; was = p; answered = same q }

  -- An entry that answers so to a row answers so now, if a later standard changes nothing of it.
  by_entry : {A : Type 0} (answers : HeadRow → A) (room : ℕ) (a : A)
      → ((r : HeadRow) (now : ℕ) → SameOrLater r.the_head.standard now → answers r ≡ a → answers (record { the_head = head_at r.the_head now; tokens = r.tokens }) ≡ a)
      → entry_outcome former_format answers file room ≡ passes a → entry_outcome format answers file room ≡ passes a
  unfolding on_pass
  by_entry answers room a later e =
      let w = answered_of answers room a e in
      let n = row_now room w.head_row w.was in
      rw (n.is, on_pass) (ap passes (later w.head_row n.now n.later w.answered))

  pub accepted_now : (room : ℕ) → AcceptedNow file room
  unfolding outcome row_answer match_outcome row_match list_outcome row_parts_answer named_outcome
  accepted_now room =
      record {
        read = λ x steps e.
            by_entry row_answer room (accepted x steps) (λ r now later q. row_later r.the_head.language r.the_head.standard now r.the_head.flag later _ _ r.the_head.allowance q) e;
        matches = λ rules x steps place e.
            by_entry (row_match rules) room _
            (λ r now later q. match_later r.the_head.language r.the_head.standard now r.the_head.flag later (table_of rules) r.tokens r.the_head.allowance q) e;
        lists = λ xs steps e.
            by_entry row_parts_answer room _
            (λ r now later q. parts_later r.the_head.language r.the_head.standard now r.the_head.flag later (parts r.the_head.language r.tokens) r.the_head.allowance q) e;
        named = λ names x steps e.
            by_entry (named_answer names) room (accepted x steps)
            (λ r now later q. named_later names r.the_head (head_at r.the_head now) r.tokens (named_accepted names r.the_head r.tokens q) refl refl later (steps_allowed names r.the_head r.tokens q)) e;
      }

-- ---- refusal 3

-- A number outside the order that stands for standards is unknown in an unknown language alone.
stands_none : (a b c : Bool) (x y z : ℕ) → (if a then Some x else if b then Some y else if c then Some z else None) ≡ None → (a ≡ false) × (b ≡ false) × (c ≡ false)
stands_none true b c x y z q = absurd (unknown_not (sym q))
stands_none false true c x y z q = absurd (unknown_not (sym q))
stands_none false false true x y z q = absurd (unknown_not (sym q))
stands_none false false false x y z q = (refl, refl, refl)

none_of : (language : ℕ) → (eqb language C ≡ false) × (eqb language Cpp ≡ false) × (eqb language Fortran ≡ false) → Fortran < language
none_of language (p, q, r) = above language (eqb-false language C p) (eqb-false language Cpp q) (eqb-false language Fortran r)
  where
    above : (n : ℕ) → (n ≡ C → ⊥) → (n ≡ Cpp → ⊥) → (n ≡ Fortran → ⊥) → Fortran < n
    above zero p q r = absurd (p refl)
    above (suc zero) p q r = absurd (q refl)
    above (suc (suc zero)) p q r = absurd (r refl)
    above (suc (suc (suc n))) p q r = omega arith

-- An unknown language declares nothing, and no number stands for a standard of it.
module _ (language : ℕ) (p : Fortran < language) where
  not_one : (n : ℕ) → n ≤ Fortran → eqb language n ≡ false
  not_one n q = ne_eqb language n (λ e. omega (arith, p, q, e))

  stands_unknown : (s : Option StandIn) → stands_for language s ≡ None
  unfolding stands_for
  stands_unknown None = refl
  stands_unknown (Some s) = rw (not_one C (omega arith), not_one Cpp (omega arith), not_one Fortran (omega arith)) refl

  none_declared : declared language ≡ 0
  unfolding declared
  none_declared = rw (not_one C (omega arith), not_one Cpp (omega arith), not_one Fortran (omega arith)) refl

  unknown_language : (f : Format) (standard : ℕ) → meant f language standard ≡ None
  unknown_language f standard = by (number language standard)
    where
      by : Number language standard → meant f language standard ≡ None
      by (own q) = absurd (omega (arith, q, none_declared))
      by (is_255 q) = rw q (means_255 f language ∙ stands_unknown f.means_255)
      by (is_254 q) = rw q (means_254 f language ∙ stands_unknown f.means_254)
      by (other q r s) = means_none f language standard q r s

-- A byte that is neither 255 nor 254.
below : (n : ℕ) → n < byte_values → (n ≡ standard_255 → ⊥) → (n ≡ standard_254 → ⊥) → n < standard_254
below n p q r = elim (dec_le standard_254 n) [ yes a ↦ absurd (elim (dec_le standard_255 n) [ yes b ↦ q (omega (arith, p, b)) | no b ↦ r (omega (arith, a, lt_of_not-le b)) ]) | no a ↦ lt_of_not-le a ]

module _ (language standard : ℕ) (byte : standard < byte_values) where
  -- In `format`, 254 and 255 are known;
  pub unknown_new : ExactlyIf (meant format language standard ≡ None) (NoSuchProfile standard_254 language standard)
  unfolding stands_for
  unknown_new = (λ e. by e (number language standard), back)
    where
      by : meant format language standard ≡ None → Number language standard → NoSuchProfile standard_254 language standard
      by e (own p) = absurd (unknown_not (sym e ∙ means_own format language standard p))
      by e (is_255 q) = inl (none_of language (stands_none (eqb language C) (eqb language Cpp) (eqb language Fortran) C23 Cpp23 Fortran2023 (sym (means_255 format language) ∙ (rw q at e))))
      by e (is_254 q) = inl (none_of language (stands_none (eqb language C) (eqb language Cpp) (eqb language Fortran) C18 Cpp17 Fortran2018 (sym (means_254 format language) ∙ (rw q at e))))
      by e (other p q r) = inr (p, below standard byte q r)

      back : NoSuchProfile standard_254 language standard → meant format language standard ≡ None
      back (inl p) = unknown_language language p format standard
      back (inr (p, q)) = means_none format language standard p (λ e. omega (arith, q, e)) (λ e. omega (arith, q, e))

  -- in `old-format` 255 alone.
  pub unknown_old : ExactlyIf (meant old_format language standard ≡ None) (NoSuchProfile standard_255 language standard)
  unfolding stands_for
  unknown_old = (λ e. by e (number language standard), back)
    where
      by : meant old_format language standard ≡ None → Number language standard → NoSuchProfile standard_255 language standard
      by e (own p) = absurd (unknown_not (sym e ∙ means_own old_format language standard p))
      by e (is_255 q) = inl (none_of language (stands_none (eqb language C) (eqb language Cpp) (eqb language Fortran) C18 Cpp17 Fortran2018 (sym (means_255 old_format language) ∙ (rw q at e))))
      by e (is_254 q) = inr (omega (arith, q, few_declared language), omega (arith, q))
      by e (other p q r) = let z = below standard byte q r in inr (p, omega (arith, z))

      back : NoSuchProfile standard_255 language standard → meant old_format language standard ≡ None
      back (inl p) = unknown_language language p old_format standard
      back (inr (p, q)) = by_number (number language standard)
        where
          by_number : Number language standard → meant old_format language standard ≡ None
          by_number (own r) = absurd (omega (arith, p, r))
          by_number (is_255 e) = absurd (omega (arith, q, e))
          by_number (is_254 e) = rw e (means_254 old_format language)
          by_number (other a b c) = means_none old_format language standard a b c

-- The head's byte at an offset is a byte.
byte_at : (file : List ℕ) (at : ℕ) → AllBytes file → get_or file at 0 < byte_values
byte_at [] at a = omega arith
byte_at (b ∷ bs) zero a = a.0
byte_at (b ∷ bs) (suc at) a = byte_at bs at a.1

abbrev number_in : Result Head TypeNameError → ℕ
number_in (Ok h) = 0
number_in (Err e) = (refusal_of e).number

module _ (f : Format) (file : List ℕ) where
  abbrev head_meaning : Option ℕ
  head_meaning = meant f (get_or file at_language 0) (get_or file at_standard 0)

  -- Refusal 3 is of a head that passes 1 and 2 and whose profile is unknown.
  refused_unknown : ExactlyIf (head f file ≡ Err UnknownProfile) (Passes1And2 f file × (head_meaning ≡ None))
  unfolding head head_with
  refused_unknown =
      (by (ltb f.file_limit (length file)) refl (head_formed f file) refl head_meaning refl, λ p. rw (le-ltb f.file_limit (length file) p.0.0, p.0.1, p.1, head_with) refl)
    where
      by : (a : Bool) → ltb f.file_limit (length file) ≡ a → (b : Bool) → head_formed f file ≡ b → (m : Option ℕ) → head_meaning ≡ m
          → (if a then Err FileTooLong else if not b then Err InvalidHead else head_with f file m) ≡ Err UnknownProfile → Passes1And2 f file × (head_meaning ≡ None)
      by true p b q m r e = let z : ◌≡◌ {A = ℕ} 1 3 = ap number_in e in absurd (omega (arith, z))
      by false p false q m r e = let z : ◌≡◌ {A = ℕ} 2 3 = ap number_in e in absurd (omega (arith, z))
      by false p true q (Some s) r e = let z : ◌≡◌ {A = ℕ} 0 3 = ap number_in e in absurd (omega (arith, z))
      by false p true q None r e = ((ltb-false f.file_limit (length file) p, q), r)

pub refused_3 : (file : List ℕ) → AllBytes file
    → ExactlyIf (head format file ≡ Err UnknownProfile) (Passes1And2 format file × NoSuchProfile standard_254 (get_or file at_language 0) (get_or file at_standard 0))
refused_3 file all =
    let u = unknown_new (get_or file at_language 0) (get_or file at_standard 0) (byte_at file at_standard all) in
    let r = refused_unknown format file in
    (λ e. let p = r.0 e in (p.0, u.0 p.1), λ p. r.1 (p.0, u.1 p.1))

pub refused_3_old : (file : List ℕ) → AllBytes file
    → ExactlyIf (head old_format file ≡ Err UnknownProfile) (Passes1And2 old_format file × NoSuchProfile standard_255 (get_or file at_language 0) (get_or file at_standard 0))
refused_3_old file all =
    let u = unknown_old (get_or file at_language 0) (get_or file at_standard 0) (byte_at file at_standard all) in
    let r = refused_unknown old_format file in
    (λ e. let p = r.0 e in (p.0, u.0 p.1), λ p. r.1 (p.0, u.1 p.1))
