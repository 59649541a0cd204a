-- The loop that checks a file's records: what is left of them decides, with what was counted before.
-- Assumes nothing.
use Rattle.convert.specs.declared.check.Sound.{Sound}
use Rattle.rows.specs.declared.answer.TypeNameError.{TypeNameError}
use Prim.Native.Nat.{ℕ, suc, ◌+◌, ◌-◌, ◌≤◌, ◌<◌}
use Rattle.std.specs.Prelude.{◌≡◌, Bool, ◌&&◌, ◌||◌, List, map, leb, ltb, if◌then◌else◌, Err, None, Ok, Result}
use Rattle.std.proofs.Math.Path.{refl, sym}
use Rattle.std.proofs.Common.{◌∙◌}
use Rattle.std.proofs.Math.Bool.{true, false, not}
use native.Mathlib.Omega.{arith}
use Rattle.std.proofs.Math.Nat.{zero-add}
use borrow.Author.Tests.{le-leb, lt-leb, lt-ltb, le-ltb, leb-true, leb-false}
use Rattle.std.proofs.Math.ListN.{length}
use Rattle.std.proofs.lemmas.List.{length-map}
use Rattle.rows.specs.Format.{head_length, most_tokens}
use Rattle.rows.specs.declared.format.Format.{Format}
use Rattle.rows.specs.declared.answer.TypeNameError.TheVariants.{InvalidRecord, TooManyRecords}
use Rattle.rows.specs.declared.head.Head.{Head}
use Rattle.rows.specs.Records.{Tokens, malformed, tokens, before_tokens, row, refused, head, found, span_end_at, tokens_from, to_end, records_from, formed}
use Rattle.rows.specs.Laws.Tests.{and_true}
use Rattle.rows.specs.Laws.RowFacts.{token_there}
use Rattle.rows.specs.Laws.RowLoop.{ends, begins_token, begins_malformed}
use Rattle.type_name.specs.FileRow.{passes, on_pass, head_read, row_read}
use Rattle.convert.specs.Fields.{token_fields, fields_with, fields_of}
use Rattle.convert.specs.Conversions.{numbers_32, over_32_bits}
use Rattle.convert.specs.ConvertSays.{checked_in, row_fields, sound}

module _ (f : Format) (file : List ℕ) where
  -- What is told of records, so many tokens before them, which end below 2^32 or not.
  unfoldable pub checked_rest : (count : ℕ) (narrow : Bool) → Tokens → Result Sound TypeNameError
  checked_rest count narrow (malformed offset) = Err (InvalidRecord offset)
  checked_rest count narrow (tokens ts next) =
      if leb (length file) next then sound (count + length ts) (narrow && not (over_32_bits (map (token_fields f file) ts))) else Err TooManyRecords

  -- All of them.
  whole : (r : Tokens) → checked_in (on_pass (row_read (to_end f file r)) (λ ts. passes (fields_with f file ts))) ≡ checked_rest 0 true r
  unfolding checked_in on_pass row_read to_end fields_with checked_rest
  whole (malformed offset) = refl
  whole (tokens ts next) = by_end (leb (length file) next)
    where
      by_end : (b : Bool) → checked_in (on_pass (row_read (if b then row ts else refused TooManyRecords)) (λ us. passes (fields_with f file us)))
          ≡ (if b then sound (0 + length ts) (true && not (over_32_bits (map (token_fields f file) ts))) else Err TooManyRecords)
      by_end true = rw (length-map ts (token_fields f file), zero-add (length ts)) refl
      by_end false = refl

  pub record CheckLoop (at count : ℕ) (narrow : Bool) : Type 0 where
    pub few : count ≤ most_tokens
    pub is : checked_in (row_fields f file) ≡ checked_rest count narrow (tokens_from f file (most_tokens - count) at)

  pub check_begins : CheckLoop head_length 0 true
  unfolding row_fields records_from
  check_begins = record { few = omega arith; is = whole (tokens_from f file most_tokens head_length) }

  ends_below : (narrow : Bool) (end : ℕ) (over : Bool) → (narrow && not (leb numbers_32 end || over)) ≡ ((narrow && ltb end numbers_32) && not over)
  ends_below narrow end over = by_end (leb numbers_32 end) refl
    where
      nothing : (a b : Bool) → (a && false) ≡ ((a && false) && b)
      nothing true b = refl
      nothing false b = refl

      by_end : (b : Bool) → leb numbers_32 end ≡ b → (narrow && not (leb numbers_32 end || over)) ≡ ((narrow && ltb end numbers_32) && not over)
      by_end true e = rw (e, le-ltb end numbers_32 (leb-true numbers_32 end e)) (nothing narrow (not over))
      by_end false e = rw (e, lt-ltb end numbers_32 (leb-false numbers_32 end e), and_true narrow) refl

  one_more : (count : ℕ) (narrow : Bool) (at k : ℕ) (r : Tokens)
      → checked_rest count narrow (before_tokens (token_there f file at k) r) ≡ checked_rest (count + 1) (narrow && ltb (span_end_at f file at) numbers_32) r
  unfolding checked_rest before_tokens over_32_bits token_fields
  one_more count narrow at k (malformed offset) = refl
  one_more count narrow at k (tokens ts next) =
      let many : count + suc (length ts) ≡ count + 1 + length ts = omega arith in
      rw (many, ends_below narrow (span_end_at f file at) (over_32_bits (map (token_fields f file) ts))) refl

  module _ {at count : ℕ} {narrow : Bool} (l : CheckLoop at count narrow) where
    pub check_full : at < length file → count ≡ most_tokens → Err TooManyRecords ≡ checked_in (row_fields f file)
    unfolding checked_rest tokens_from
    check_full p e =
        let none : most_tokens - count ≡ 0 = omega (arith, e) in
        sym (l.is ∙ rw (none, tokens_from, lt-leb (length file) at p) refl)

    pub check_malformed : at < length file → (count ≡ most_tokens → ⊥) → found f file at ≡ None → Err (InvalidRecord at) ≡ checked_in (row_fields f file)
    unfolding checked_rest
    check_malformed p d e =
        let more : most_tokens - count ≡ suc (most_tokens - (count + 1)) = omega (arith, l.few, d) in
        sym (l.is ∙ rw (more, begins_malformed f file (most_tokens - (count + 1)) at p e) refl)

    pub check_token : at < length file → (count ≡ most_tokens → ⊥) → (k n : ℕ) → found f file at ≡ formed k n → CheckLoop (at + n) (count + 1) (narrow && ltb (span_end_at f file at) numbers_32)
    check_token p d k n e =
        let more : most_tokens - count ≡ suc (most_tokens - (count + 1)) = omega (arith, l.few, d) in
        record {
          few = omega (arith, l.few, d);
          is = l.is ∙ rw (more, begins_token f file (most_tokens - (count + 1)) at k n p e) (one_more count narrow at k (tokens_from f file (most_tokens - (count + 1)) (at + n)));
        }

    pub check_ends : length file ≤ at → sound count narrow ≡ checked_in (row_fields f file)
    unfolding checked_rest over_32_bits
    check_ends p =
        let all : count + 0 ≡ count = omega arith in
        sym (l.is ∙ rw (ends f file (most_tokens - count) at p, le-leb (length file) at p, all, and_true narrow) refl)

  -- ---- the whole file

  pub head_refused : {e : _} → head f file ≡ Err e → Err e ≡ checked_in (fields_of f file)
  unfolding checked_in fields_of on_pass head_read
  head_refused q = rw (q, head_read, on_pass, checked_in) refl

  pub head_formed : {h : Head} → head f file ≡ Ok h → fields_of f file ≡ row_fields f file
  unfolding row_fields fields_of on_pass head_read
  head_formed q = rw (q, head_read, on_pass) refl
