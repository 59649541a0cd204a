-- Token records that stand one behind the other in a file: what the row of a file says of its bytes, and back.
-- Assumes nothing.
use Prim.Native.Nat.{ℕ, zero, suc, ◌+◌, ◌≤◌}
use Rattle.std.specs.Prelude.{◌≡◌, Bool, true, false, length, leb, None, Option, Some}
use Rattle.std.proofs.Math.Path.{refl, ap}
use Rattle.std.proofs.Common.{◌∙◌, arith, leb→le}
use mathlib.Core.List.{List, [], ◌∷◌}
use Rattle.rows.specs.Laws.Tests.{by_if}
use Rattle.rows.specs.declared.format.Format.{Format}
use Rattle.rows.specs.Records.{RowToken, Tokens, malformed, tokens, before_tokens, Row, refused, row, found, kind_at, length_at, after_record, tokens_from, to_end, records_from, formed}
use Rattle.rows.specs.Laws.Tokens.{formed_fits}
use Rattle.rows.specs.Laws.RowFacts.{token_there}
use Rattle.rows.specs.declared.token.TokenRecord.{TokenRecord}

module _ (f : Format) (file : List ℕ) where
  -- A token's record stands at a byte offset.
  pub record StandsAt (at : ℕ) (t : RowToken) : Type 0 where
    pub is : t ≡ token_there f file at (kind_at f file at)
    pub formed : found f file at ≡ formed (kind_at f file at) (length_at f file at)

  -- The records of these tokens stand from a byte offset to the file's end.
  abbrev pub Stand : (at : ℕ) → List RowToken → Type 0
  Stand at [] = at ≡ length file
  Stand at (t ∷ ts) = StandsAt at t × Stand (at + length_at f file at) ts

  -- ---- from a row

  -- The tokens, and where they end.
  abbrev tokens_in : Tokens → List RowToken
  tokens_in (malformed offset) = []
  tokens_in (tokens ts next) = ts

  abbrev next_in : Tokens → ℕ
  next_in (malformed offset) = 0
  next_in (tokens ts next) = next

  abbrev is_tokens : Tokens → ℕ
  is_tokens (malformed offset) = 0
  is_tokens (tokens ts next) = 1

  no_tokens : {offset : ℕ} {ts : List RowToken} {next : ℕ} → malformed offset ≡ tokens ts next → ⊥
  no_tokens e = let z : ◌≡◌ {A = ℕ} 0 1 = ap is_tokens e in omega (arith, z)

  stand_end : {at next : ℕ} {ts : List RowToken} → at ≤ length file → length file ≤ next → tokens [] at ≡ tokens ts next → Stand at ts
  stand_end {at} {next} {ts} p q e =
      let none : [] ≡ ts = ap tokens_in e in
      let there : at ≡ next = ap next_in e in
      rw (← none) (omega (arith, p, q, there))

  module _ (at k n : ℕ) (e : found f file at ≡ formed k n) where
    there : StandsAt at (token_there f file at k)
    there =
        let fit = formed_fits f file at k n e in
        record { is = ap (token_there f file at) fit.is_kind; formed = e ∙ rw (← fit.is_kind, ← fit.is_length) refl }

    stand_before : (r : Tokens) {ts : List RowToken} {next : ℕ} → ((us : List RowToken) → r ≡ tokens us next → Stand (at + n) us)
        → before_tokens (token_there f file at k) r ≡ tokens ts next → Stand at ts
    unfolding before_tokens
    stand_before (malformed offset) ih q = absurd (no_tokens q)
    stand_before (tokens us next') {ts} {next} ih q =
        let same : token_there f file at k ∷ us ≡ ts = ap tokens_in q in
        let ends_there : next' ≡ next = ap next_in q in
        let fit = formed_fits f file at k n e in
        rw (← same) (there, rw (← fit.is_length) (ih us (rw ends_there refl)))

  stand_after : (most at : ℕ) {ts : List RowToken} {next : ℕ} (t : Option TokenRecord) → found f file at ≡ t
      → ((at' : ℕ) (us : List RowToken) → at' ≤ length file → tokens_from f file most at' ≡ tokens us next → Stand at' us)
      → after_record f file at t (λ n. tokens_from f file most n) ≡ tokens ts next → Stand at ts
  unfolding after_record
  stand_after most at None e ih q = absurd (no_tokens q)
  stand_after most at (Some t) e ih q =
      stand_before at t.kind t.length e (tokens_from f file most (at + t.length)) (λ us r. ih (at + t.length) us (formed_fits f file at t.kind t.length e).inside r) q

  by_end : (b : Bool) (at : ℕ) {ts : List RowToken} {next : ℕ} (r : Tokens) → at ≤ length file → length file ≤ next → (r ≡ tokens ts next → Stand at ts)
      → elim b as (λ _. Tokens) [ true ↦ tokens [] at | false ↦ r ] ≡ tokens ts next → Stand at ts
  by_end true at r p q ih e = stand_end p q e
  by_end false at r p q ih e = ih e

  tokens_stand : (most at : ℕ) {next : ℕ} (ts : List RowToken) → at ≤ length file → length file ≤ next → tokens_from f file most at ≡ tokens ts next → Stand at ts
  unfolding tokens_from
  tokens_stand zero at ts p q e = stand_end p q e
  tokens_stand (suc most) at ts p q e =
      by_end (leb (length file) at) at (after_record f file at (found f file at) (λ n. tokens_from f file most n)) p q
      (stand_after most at (found f file at) refl (λ at' us p' e'. tokens_stand most at' us p' q e')) e

  no_row : {e : _} {ts : List RowToken} → refused e ≡ row ts → ⊥
  no_row q = let z : ◌≡◌ {A = ℕ} 0 1 = ap which q in omega (arith, z)
    where
      which : Row → ℕ
      which (refused e) = 0
      which (row ts) = 1

  -- The records of a row that goes to the file's end.
  pub row_stands : (most at : ℕ) {ts : List RowToken} → at ≤ length file → records_from f file most at ≡ row ts → Stand at ts
  unfolding records_from to_end
  row_stands most at {ts} p = by_tokens (tokens_from f file most at) refl
    where
      same : {us : List RowToken} → row us ≡ row ts → us ≡ ts
      same q = cc

      by_tokens : (r : Tokens) → tokens_from f file most at ≡ r → to_end f file r ≡ row ts → Stand at ts
      by_tokens (malformed offset) e q = absurd (no_row q)
      by_tokens (tokens us next) e q =
          by_if (λ (x : Row). x ≡ row ts → Stand at ts) (leb (length file) next) (λ t r. let q : us ≡ ts = same r in rw (← q) (tokens_stand most at us p (leb→le (length file) next t) e)) (λ _ r. absurd (no_row r)) q
