-- One token record: what a well-formed one says of its fields, and that its bytes are read back as those fields.
-- Assumes nothing.
use Rattle.std.specs.Prelude.{ℕ, ◌+◌, ◌-◌, ◌^◌, ◌≤◌, ◌<◌, ◌≡◌, Bool, ◌&&◌, List, ◌++◌, drop, T, ltb, if◌then◌else◌, None, Option, Some}
use Rattle.std.proofs.Math.Path.{refl, sym}
use Rattle.std.proofs.Common.{ap, ◌∙◌, append_assoc, length-append, take_at, drop_at, drop-drop}
use Rattle.std.proofs.Math.Bool.{true, false}
use Rattle.std.proofs.Math.Facts.{and_yes}
use native.Mathlib.Omega.{arith}
use borrow.Author.Tests.{lt-ltb, le-leb, eq-eqb, eqb-true, eqb-false}
use Rattle.std.proofs.Math.ListN.{length, length-drop}
use Rattle.std.proofs.Math.Seq.{length-take-le}
use Rattle.std.proofs.Math.Dec.{leb, eqb, leb→le, ltb→lt}
use Rattle.rows.specs.Kinds.{Identifier, End}
use Rattle.rows.specs.Format.{short_bytes, at_kind, at_span, bytes_of, span_bytes, token_length, longest_word}
use Rattle.rows.specs.declared.format.Format.{Format}
use Rattle.rows.specs.declared.format.SpanWidth.{SpanWidth}
use Rattle.rows.specs.declared.format.SpanWidth.TheVariants.{Four, Eight}
use Rattle.rows.specs.Records.{byte_values, little_endian, in_range, length_at, kind_at, span_start_at, span_end_at, word_at, word_fits, length_fits, well_formed, found, formed}
use Rattle.rows.specs.Laws.Tokens.{formed_fits, by_length}
use Rattle.rows.specs.declared.token.TokenRecord.{TokenRecord}
use Rattle.text.specs.Text.{little_endian_bytes}
use Rattle.text.specs.Laws.Records.{bytes_long, bytes_read, read_at}
use Rattle.convert.specs.Fields.{TokenFields, token_bytes}

T_true : (b : Bool) → T b → b ≡ true
T_true true t = refl
T_true false t = absurd t

-- ---- which fields a record can have

-- "Kind 0 adds a word of 1 to 255 bytes, each 33 to 126"; no other kind has one.
pub record WordFits (kind : ℕ) (word : List ℕ) : Type 0 where
  pub of_identifier : kind ≡ Identifier → (1 ≤ length word) × (length word ≤ longest_word) × T (in_range word)
  pub of_other : (kind ≡ Identifier → ⊥) → length word ≡ 0

-- A token whose record in a format is well formed.
pub record TokenFits (f : Format) (t : TokenFields) : Type 0 where
  pub known : t.kind ≤ End
  pub ordered : t.start ≤ t.end
  pub narrow : t.end < byte_values ^ span_bytes f
  pub worded : WordFits t.kind t.word

-- ---- what a well-formed record says

abbrev is_formed : Option TokenRecord → ℕ
is_formed (Some r) = 1
is_formed None = 0

module _ (f : Format) (file : List ℕ) (at : ℕ) where
  well' : (b : Bool) {k n : ℕ} → (if b then formed (kind_at f file at) (length_at f file at) else None) ≡ formed k n → T b
  well' true e = tt
  well' false e = let clash : ◌≡◌ {A = ℕ} 0 1 = ap is_formed e in absurd (omega (arith, clash))

  module _ {k n : ℕ} (e : found f file at ≡ formed k n) where
    well : T (well_formed f file at)
    unfolding found
    well = well' (well_formed f file at) e

    pub is_ordered : span_start_at f file at ≤ span_end_at f file at
    unfolding well_formed
    is_ordered =
        let u = and_yes (leb (at + token_length f) (length file) && leb (kind_at f file at) End && leb (span_start_at f file at) (span_end_at f file at)) (length_fits f file at) well in
        let v = and_yes (leb (at + token_length f) (length file) && leb (kind_at f file at) End) (leb (span_start_at f file at) (span_end_at f file at)) u.0 in
        leb→le (span_start_at f file at) (span_end_at f file at) v.1

    fits_length : T (length_fits f file at)
    unfolding well_formed
    fits_length =
        (and_yes (leb (at + token_length f) (length file) && leb (kind_at f file at) End && leb (span_start_at f file at) (span_end_at f file at)) (length_fits f file at) well).1

    pub word_long : length (word_at f file at) ≡ n - token_length f
    unfolding word_at
    word_long =
        let fit = formed_fits f file at k n e in
        let there : length (drop (at + token_length f) file) ≡ length file - (at + token_length f) = length-drop (at + token_length f) file in
        length-take-le (length_at f file at - token_length f) (drop (at + token_length f) file) (omega (arith, there, fit.inside, fit.is_length)) ∙ rw (← fit.is_length) refl

    pub is_worded : WordFits (kind_at f file at) (word_at f file at)
    unfolding length_fits word_fits
    is_worded =
        let fit = formed_fits f file at k n e in
        record {
          of_identifier = λ q.
              let whole = rw (eq-eqb (kind_at f file at) Identifier q) at fits_length in
              let u = and_yes (ltb (token_length f) (length_at f file at) && leb (length_at f file at) (token_length f + longest_word) && leb (at + length_at f file at) (length file)) (in_range (word_at f file at)) whole in
              let v = and_yes (ltb (token_length f) (length_at f file at) && leb (length_at f file at) (token_length f + longest_word)) (leb (at + length_at f file at) (length file)) u.0 in
              let w = and_yes (ltb (token_length f) (length_at f file at)) (leb (length_at f file at) (token_length f + longest_word)) v.0 in
              let least = ltb→lt (token_length f) (length_at f file at) w.0 in
              let most = leb→le (length_at f file at) (token_length f + longest_word) w.1 in
              (omega (arith, word_long, fit.is_length, least), omega (arith, word_long, fit.is_length, most), u.1);
          of_other = λ d. omega (arith, word_long, fit.wordless (λ q. d (sym fit.is_kind ∙ q)));
        }

-- ---- its bytes are read back

-- What stands behind a part of so many bytes.
pub next_part : (file : List ℕ) (at at' : ℕ) (xs ys : List ℕ) {n : ℕ} → length xs ≡ n → at + n ≡ at' → drop at file ≡ xs ++ ys → drop at' file ≡ ys
next_part file at at' xs ys {n} long behind there = rw (← behind) (sym (drop-drop n at file) ∙ ap (drop n) there ∙ drop_at xs ys n long)

pub number_there : (file : List ℕ) (at : ℕ) (ys : List ℕ) (width number : ℕ) → number < byte_values ^ width → drop at file ≡ little_endian_bytes width number ++ ys
    → little_endian width file at ≡ number
number_there file at ys width number less there = read_at width file at ∙ rw there (bytes_read width number ys less)

span_small : (w : SpanWidth) → bytes_of w ≤ 8
span_small Four = omega arith
span_small Eight = omega arith

word_short : {k : ℕ} {w : List ℕ} → WordFits k w → length w ≤ longest_word
word_short {k} {w} fits = by_kind (eqb k Identifier) refl
  where
    by_kind : (b : Bool) → eqb k Identifier ≡ b → length w ≤ longest_word
    by_kind true e = (fits.of_identifier (eqb-true k Identifier e)).1
    by_kind false e = omega (arith, fits.of_other (eqb-false k Identifier e))

pub token_long : (f : Format) (t : TokenFields) → length (token_bytes f t) ≡ token_length f + length t.word
unfolding token_bytes
token_long f t =
    rw (
      length-append (little_endian_bytes short_bytes (token_length f + length t.word) ++ little_endian_bytes short_bytes t.kind ++ little_endian_bytes (span_bytes f) t.start ++ little_endian_bytes (span_bytes f) t.end) t.word,
      length-append (little_endian_bytes short_bytes (token_length f + length t.word) ++ little_endian_bytes short_bytes t.kind ++ little_endian_bytes (span_bytes f) t.start) (little_endian_bytes (span_bytes f) t.end),
      length-append (little_endian_bytes short_bytes (token_length f + length t.word) ++ little_endian_bytes short_bytes t.kind) (little_endian_bytes (span_bytes f) t.start),
      length-append (little_endian_bytes short_bytes (token_length f + length t.word)) (little_endian_bytes short_bytes t.kind),
      bytes_long short_bytes (token_length f + length t.word),
      bytes_long short_bytes t.kind,
      bytes_long (span_bytes f) t.start,
      bytes_long (span_bytes f) t.end,
    ) (omega arith)

regrouped : (a b c d w r : List ℕ) → a ++ b ++ c ++ d ++ w ++ r ≡ a ++ (b ++ (c ++ (d ++ (w ++ r))))
regrouped a b c d w r = append_assoc (a ++ b ++ c ++ d) w r ∙ append_assoc (a ++ b ++ c) d (w ++ r) ∙ append_assoc (a ++ b) c (d ++ (w ++ r)) ∙ append_assoc a b (c ++ (d ++ (w ++ r)))

module _ (f : Format) (file rest : List ℕ) (at : ℕ) (t : TokenFields) (fits : TokenFits f t) (there : drop at file ≡ token_bytes f t ++ rest) where
  abbrev n : ℕ
  n = token_length f + length t.word

  -- The bytes from each field on.
  abbrev end_on : List ℕ
  end_on = little_endian_bytes (span_bytes f) t.end ++ (t.word ++ rest)

  abbrev start_on : List ℕ
  start_on = little_endian_bytes (span_bytes f) t.start ++ end_on

  abbrev kind_on : List ℕ
  kind_on = little_endian_bytes short_bytes t.kind ++ start_on

  from_length : drop at file ≡ little_endian_bytes short_bytes n ++ kind_on
  unfolding token_bytes
  from_length = there ∙ regrouped (little_endian_bytes short_bytes n) (little_endian_bytes short_bytes t.kind) (little_endian_bytes (span_bytes f) t.start) (little_endian_bytes (span_bytes f) t.end) t.word rest

  from_kind : drop (at + at_kind) file ≡ kind_on
  from_kind = next_part file at (at + at_kind) (little_endian_bytes short_bytes n) kind_on (bytes_long short_bytes n) refl from_length

  from_start : drop (at + at_span) file ≡ start_on
  from_start = next_part file (at + at_kind) (at + at_span) (little_endian_bytes short_bytes t.kind) start_on (bytes_long short_bytes t.kind) (omega arith) from_kind

  from_end : drop (at + at_span + span_bytes f) file ≡ end_on
  from_end = next_part file (at + at_span) (at + at_span + span_bytes f) (little_endian_bytes (span_bytes f) t.start) end_on (bytes_long (span_bytes f) t.start) refl from_start

  from_word : drop (at + token_length f) file ≡ t.word ++ rest
  from_word = next_part file (at + at_span + span_bytes f) (at + token_length f) (little_endian_bytes (span_bytes f) t.end) (t.word ++ rest) (bytes_long (span_bytes f) t.end) (omega arith) from_end

  pub written_length : length_at f file at ≡ n
  unfolding length_at
  written_length = number_there file at kind_on short_bytes n (omega (arith, word_short fits.worded, span_small f.span_width)) from_length

  pub written_kind : kind_at f file at ≡ t.kind
  unfolding kind_at
  written_kind = number_there file (at + at_kind) start_on short_bytes t.kind (omega (arith, fits.known)) from_kind

  pub written_start : span_start_at f file at ≡ t.start
  unfolding span_start_at
  written_start = number_there file (at + at_span) end_on (span_bytes f) t.start (omega (arith, fits.ordered, fits.narrow)) from_start

  pub written_end : span_end_at f file at ≡ t.end
  unfolding span_end_at
  written_end = number_there file (at + at_span + span_bytes f) (t.word ++ rest) (span_bytes f) t.end fits.narrow from_end

  pub written_word : word_at f file at ≡ t.word
  unfolding word_at
  written_word =
      let long : length t.word ≡ n - token_length f = omega arith in
      rw (written_length, from_word) (take_at t.word rest (n - token_length f) long)

  pub written_inside : at + n ≤ length file
  written_inside =
      let left : length file - at ≡ n + length rest = sym (length-drop at file) ∙ ap length there ∙ length-append (token_bytes f t) rest ∙ rw (token_long f t) refl in
      omega (arith, left)

  fits_there : true ≡ length_fits f file at
  unfolding length_fits word_fits
  fits_there = by_kind (eqb t.kind Identifier) refl
    where
      by_kind : (b : Bool) → eqb t.kind Identifier ≡ b → true ≡ length_fits f file at
      by_kind true e =
          let (least, most, good) = fits.worded.of_identifier (eqb-true t.kind Identifier e) in
          sym (rw (written_kind, e, written_length, written_word, lt-ltb (token_length f) n (omega (arith, least)), le-leb n (token_length f + longest_word) (omega (arith, most)), le-leb (at + n) (length file) written_inside) (T_true (in_range t.word) good))
      by_kind false e =
          sym (rw (written_kind, e, written_length) (eq-eqb n (token_length f) (omega (arith, fits.worded.of_other (eqb-false t.kind Identifier e)))))

  -- A written record is well formed.
  pub written_found : found f file at ≡ formed (kind_at f file at) (length_at f file at)
  written_found =
      sym (by_length f file at (length_at f file at) refl (kind_at f file at) refl (omega (arith, written_inside)) (rw written_kind fits.known) (rw (written_start, written_end) fits.ordered) true fits_there)
