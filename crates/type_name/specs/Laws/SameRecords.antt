-- The row of a file is made of the bytes behind its head alone.
-- Assumes nothing.
use Prim.Native.Nat.{ℕ, zero, suc, ◌+◌, ◌-◌, ◌≤◌}
use Rattle.std.specs.Prelude.{◌≡◌, Bool, true, false, List, [], length, get_or, drop, None, Option, Some}
use Rattle.std.proofs.Math.Path.{refl, ap}
use Rattle.std.proofs.Common.{sym, ◌∙◌, arith, get_or-drop, drop-drop}
use Rattle.std.proofs.Math.Dec.{leb}
use Rattle.rows.specs.Format.{short_bytes, at_kind, at_span, span_bytes, token_length}
use Rattle.rows.specs.declared.format.Format.{Format}
use Rattle.rows.specs.Records.{little_endian, Tokens, malformed, tokens, length_at, kind_at, span_start_at, span_end_at, word_at, word_fits, length_fits, well_formed, found, after_record, tokens_from, to_end, records_from}
use Rattle.rows.specs.declared.token.TokenRecord.{TokenRecord}

-- Two files with the same bytes from offset n on, of one length.
module _ (f : Format) (file file' : List ℕ) (n : ℕ) (same : drop n file' ≡ drop n file) (long : length file' ≡ length file) where
  -- An offset from n on, as n and what is beyond.
  beyond : (at : ℕ) → n ≤ at → n + (at - n) ≡ at
  beyond at p = omega arith

  byte_same : (at : ℕ) → n ≤ at → get_or file' at 0 ≡ get_or file at 0
  byte_same at p =
      rw (← (beyond at p), ← (get_or-drop n file' (at - n) 0), ← (get_or-drop n file (at - n) 0), same) refl

  rest_same : (at : ℕ) → n ≤ at → drop at file' ≡ drop at file
  rest_same at p =
      ap (λ (k : ℕ). drop k file') (sym (beyond at p)) ∙ sym (drop-drop (at - n) n file') ∙ ap (drop (at - n)) same ∙ drop-drop (at - n) n file ∙ ap (λ (k : ℕ). drop k file) (beyond at p)

  number_same : (width at : ℕ) → n ≤ at → little_endian width file' at ≡ little_endian width file at
  unfolding little_endian
  number_same zero at p = refl
  number_same (suc width) at p = rw (byte_same at p, number_same width (suc at) (omega arith)) refl

  module _ (at : ℕ) (p : n ≤ at) where
    length_same : length_at f file' at ≡ length_at f file at
    unfolding length_at
    length_same = number_same short_bytes at p

    kind_same : kind_at f file' at ≡ kind_at f file at
    unfolding kind_at
    kind_same = number_same short_bytes (at + at_kind) (omega arith)

    word_same : word_at f file' at ≡ word_at f file at
    unfolding word_at
    word_same = rw (length_same, rest_same (at + token_length f) (omega arith)) refl

    word_fits_same : word_fits f file' at ≡ word_fits f file at
    unfolding word_fits
    word_fits_same = rw (length_same, word_same, long) refl

    fits_same : length_fits f file' at ≡ length_fits f file at
    unfolding length_fits
    fits_same = rw (length_same, kind_same, word_fits_same) refl

    formed_same : well_formed f file' at ≡ well_formed f file at
    unfolding well_formed span_start_at span_end_at
    formed_same =
        rw (long, kind_same, fits_same, number_same (span_bytes f) (at + at_span) (omega arith), number_same (span_bytes f) (at + at_span + span_bytes f) (omega arith)) refl

    found_same : found f file' at ≡ found f file at
    unfolding found
    found_same = rw (formed_same, kind_same, length_same) refl

    after_same : (t : Option TokenRecord) (rest rest' : ℕ → Tokens) → ((next : ℕ) → n ≤ next → rest' next ≡ rest next) → after_record f file' at t rest' ≡ after_record f file at t rest
    unfolding after_record
    after_same None rest rest' ih = refl
    after_same (Some r) rest rest' ih = rw (word_same, ih (at + r.length) (omega arith)) refl

  at_end_same : (b b' : Bool) (at : ℕ) (r r' : Tokens) → b' ≡ b → r' ≡ r
      → ◌≡◌ {A = Tokens} (elim b' as (λ _. Tokens) [ true ↦ tokens [] at | false ↦ r' ]) (elim b as (λ _. Tokens) [ true ↦ tokens [] at | false ↦ r ])
  at_end_same true b' at r r' p q = rw p refl
  at_end_same false b' at r r' p q = rw p q

  tokens_same : (most at : ℕ) → n ≤ at → tokens_from f file' most at ≡ tokens_from f file most at
  unfolding tokens_from
  tokens_same zero at p = refl
  tokens_same (suc most) at p =
      let rest : ℕ → Tokens = λ next. tokens_from f file most next in
      let rest' : ℕ → Tokens = λ next. tokens_from f file' most next in
      at_end_same (leb (length file) at) (leb (length file') at) at (after_record f file at (found f file at) rest) (after_record f file' at (found f file' at) rest')
      (ap (λ (k : ℕ). leb k at) long)
      (ap (λ (t : Option TokenRecord). after_record f file' at t rest') (found_same at p) ∙ after_same at p (found f file at) rest rest' (λ next q. tokens_same most next q))

  end_same : (r : Tokens) → to_end f file' r ≡ to_end f file r
  unfolding to_end
  end_same (malformed offset) = refl
  end_same (tokens ts next) = rw long refl

  -- The records from an offset behind n on are the same, at the same places.
  pub records_same : (most at : ℕ) → n ≤ at → records_from f file' most at ≡ records_from f file most at
  unfolding records_from
  records_same most at p = ap (to_end f file') (tokens_same most at p) ∙ end_same (tokens_from f file most at)
