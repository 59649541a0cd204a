-- The row record by record, and arrays that are filled from the front: what the loop of the row reader keeps.
-- Assumes nothing.
use Prim.Native.Nat.{ℕ, zero, suc, ◌+◌, ◌-◌, ◌≤◌, ◌<◌}
use Rattle.std.specs.Prelude.{◌≡◌, Bool, true, false, length, take, drop, set, leb, Option, None}
use Rattle.std.proofs.Math.Path.{refl, sym, ap}
use Rattle.std.proofs.Common.{◌∙◌, true≢false, add-one, le-leb, length-set, take-suc-set, drop-set-lt, drop-drop}
use mathlib.Core.List.{List, [], ◌∷◌, ◌++◌, map-append}
use native.Mathlib.Omega.{arith}
use Rattle.std.proofs.lemmas.Bool.{lt-leb}
use Rattle.std.proofs.Math.ListN.{length-append}
use Rattle.std.proofs.lemmas.List.{length-map}
use Rattle.rows.specs.Words.{word_number}
use Rattle.rows.specs.Format.{token_length}
use Rattle.rows.specs.declared.format.Format.{Format}
use Rattle.rows.specs.Records.{RowToken, Tokens, malformed, tokens, before_tokens, formed, found, word_at, after_record, tokens_from, kinds_of, words_of, places_of}
use Rattle.rows.specs.RowRead.{Room, Filled, RecordsTaken}
use Rattle.rows.specs.Laws.Tokens.{formed_fits, word_part}
use Rattle.rows.specs.declared.token.TokenRecord.{TokenRecord}

-- ---- records

-- These tokens before others.
unfoldable pub onto : List RowToken → Tokens → Tokens
onto [] r = r
onto (t ∷ ts) r = before_tokens t (onto ts r)

onto_one_more : (ts : List RowToken) (t : RowToken) (r : Tokens) → onto (ts ++ t ∷ []) r ≡ onto ts (before_tokens t r)
unfolding onto
onto_one_more [] t r = refl
onto_one_more (u ∷ ts) t r = ap (before_tokens u) (onto_one_more ts t r)

onto_end : (ts : List RowToken) (next : ℕ) → onto ts (tokens [] next) ≡ tokens ts next
unfolding onto before_tokens
onto_end [] next = refl
onto_end (t ∷ ts) next = ap (before_tokens t) (onto_end ts next)

onto_malformed : (ts : List RowToken) (offset : ℕ) → onto ts (malformed offset) ≡ malformed offset
unfolding onto before_tokens
onto_malformed [] offset = refl
onto_malformed (t ∷ ts) offset = ap (before_tokens t) (onto_malformed ts offset)

-- Not at the end, the records go on.
first : (b : Bool) → b ≡ false → (r r' : Tokens) → elim b as (λ _. Tokens) [ true ↦ r' | false ↦ r ] ≡ r
first true e r r' = absurd (true≢false e)
first false e r r' = refl

module _ (f : Format) (file : List ℕ) where
  pub ends : (most at : ℕ) → length file ≤ at → tokens_from f file most at ≡ tokens [] at
  unfolding tokens_from
  ends zero at p = refl
  ends (suc most) at p = rw (le-leb (length file) at p, tokens_from) refl

  begins : (most at : ℕ) (r : Option TokenRecord) → at < length file → found f file at ≡ r
      → tokens_from f file (suc most) at ≡ after_record f file at r (λ next. tokens_from f file most next)
  unfolding tokens_from
  begins most at r p e =
      first (leb (length file) at) (lt-leb (length file) at p) (after_record f file at (found f file at) (λ next. tokens_from f file most next)) (tokens [] at)
      ∙ ap (λ (t : Option TokenRecord). after_record f file at t (λ next. tokens_from f file most next)) e

  pub begins_malformed : (most at : ℕ) → at < length file → found f file at ≡ None → tokens_from f file (suc most) at ≡ malformed at
  unfolding after_record
  begins_malformed most at p e = begins most at None p e

  pub begins_token : (most at k n : ℕ) → at < length file → found f file at ≡ formed k n
      → tokens_from f file (suc most) at ≡ before_tokens (record { place = at; kind = k; word = word_at f file at }) (tokens_from f file most (at + n))
  unfolding after_record
  begins_token most at k n p e = begins most at (formed k n) p e

-- ---- arrays

-- So many numbers stand in front of the array; its length and what lies behind them have not changed.
pub record Filling (before numbers now : List ℕ) (n : ℕ) : Type 0 where
  pub long : length now ≡ length before
  pub front : take n now ≡ numbers
  pub rest : drop n now ≡ drop n before

nothing_filled : (before : List ℕ) → Filling before [] before 0
nothing_filled before = record { long = refl; front = refl; rest = refl }

one_filled : (before numbers now : List ℕ) (n v : ℕ) → n < length before → Filling before numbers now n → Filling before (numbers ++ v ∷ []) (set now n v) (n + 1)
one_filled before numbers now n v p s =
    record {
      long = length-set now n v ∙ s.long;
      front = rw add-one (take-suc-set now n v (omega (arith, s.long)) ∙ ap (λ (l : List ℕ). l ++ v ∷ []) s.front);
      rest = drop-set-lt (n + 1) now n v (omega arith) ∙ sym (drop-drop 1 n now) ∙ ap (drop 1) s.rest ∙ drop-drop 1 n before;
    }

-- ---- the loop

-- `done`: the tokens before byte offset `at`.
pub record RowLoop (f : Format) (file : List ℕ) (begin most : ℕ) (kinds₀ words₀ places₀ kinds words places : List ℕ) (at count : ℕ) : Type 0 where
  pub done : List RowToken
  pub is_count : count ≡ length done
  pub few : count ≤ most
  pub passed : count ≤ at
  pub is : tokens_from f file most begin ≡ onto done (tokens_from f file (most - count) at)
  pub kinds_so_far : Filling kinds₀ (kinds_of done) kinds count
  pub words_so_far : Filling words₀ (words_of done) words count
  pub places_so_far : Filling places₀ (places_of done) places count

pub loop_begins : (f : Format) (file : List ℕ) (begin most : ℕ) (kinds words places : List ℕ) → RowLoop f file begin most kinds words places kinds words places begin 0
unfolding onto kinds_of words_of places_of
loop_begins f file begin most kinds words places =
    let all : most - 0 ≡ most = omega arith in
    record {
      done = [];
      is_count = refl;
      few = omega arith;
      passed = omega arith;
      is = rw all refl;
      kinds_so_far = nothing_filled kinds;
      words_so_far = nothing_filled words;
      places_so_far = nothing_filled places;
    }

filled : (before numbers now : List ℕ) (n : ℕ) → n ≡ length numbers → Filling before numbers now n → Filled before numbers now
filled before numbers now n e s =
    record { front = rw (← e) s.front; rest = rw (← e) s.rest }

module _ {f : Format} {file : List ℕ} {begin most : ℕ} {kinds₀ words₀ places₀ kinds words places : List ℕ} {at count : ℕ}
    (s : RowLoop f file begin most kinds₀ words₀ places₀ kinds words places at count) where
  stops_there : tokens_from f file (most - count) at ≡ tokens [] at → RecordsTaken f file begin most kinds₀ words₀ places₀ count at kinds words places
  unfolding kinds_of words_of places_of
  stops_there e =
      record {
        taken = s.done;
        is = s.is ∙ ap (onto s.done) e ∙ onto_end s.done at;
        in_arrays = record {
          is_count = s.is_count;
          kinds_filled = filled kinds₀ (kinds_of s.done) kinds count (s.is_count ∙ sym (length-map s.done (λ (t : RowToken). t.kind))) s.kinds_so_far;
          words_filled = filled words₀ (words_of s.done) words count (s.is_count ∙ sym (length-map s.done (λ (t : RowToken). word_number t.word))) s.words_so_far;
          places_filled = filled places₀ (places_of s.done) places count (s.is_count ∙ sym (length-map s.done (λ (t : RowToken). t.place))) s.places_so_far;
        };
      }

  pub loop_full : count ≡ most → RecordsTaken f file begin most kinds₀ words₀ places₀ count at kinds words places
  unfolding tokens_from
  loop_full e =
      let none : most - count ≡ 0 = omega arith in
      stops_there (rw none refl)

  pub loop_ends : length file ≤ at → RecordsTaken f file begin most kinds₀ words₀ places₀ count at kinds words places
  loop_ends p = stops_there (ends f file (most - count) at p)

  pub loop_malformed : at < length file → (count ≡ most → ⊥) → found f file at ≡ None → tokens_from f file most begin ≡ malformed at
  loop_malformed p d e =
      let more : most - count ≡ suc (most - (count + 1)) = omega (arith, s.few, d) in
      s.is ∙ rw more (ap (onto s.done) (begins_malformed f file (most - (count + 1)) at p e)) ∙ onto_malformed s.done at

  pub loop_token : Room file most kinds₀ words₀ places₀ → at < length file → (count ≡ most → ⊥) → (k n : ℕ) → found f file at ≡ formed k n
      → (w : ℕ) → w ≡ word_number (take (at + n - (at + token_length f)) (drop (at + token_length f) file))
      → RowLoop f file begin most kinds₀ words₀ places₀ (set kinds count k) (set words count w) (set places count at) (at + n) (count + 1)
  unfolding kinds_of words_of places_of
  loop_token room p d k n e w ew =
      let t : RowToken = record { place = at; kind = k; word = word_at f file at } in
      let more : most - count ≡ suc (most - (count + 1)) = omega (arith, s.few, d) in
      let number : w ≡ word_number (word_at f file at) = ew ∙ ap word_number (word_part f file at k n e) in
      record {
        done = s.done ++ t ∷ [];
        is_count = omega (arith, length-append s.done (t ∷ []), s.is_count);
        few = omega (arith, s.few, d);
        passed = omega (arith, s.passed, (formed_fits f file at k n e).long);
        is = s.is ∙ rw more (ap (onto s.done) (begins_token f file (most - (count + 1)) at k n p e)) ∙ sym (onto_one_more s.done t (tokens_from f file (most - (count + 1)) (at + n)));
        kinds_so_far = rw map-append (one_filled kinds₀ (kinds_of s.done) kinds count k (omega (arith, room.for_kinds, s.few, d)) s.kinds_so_far);
        words_so_far = rw (map-append, ← number) (one_filled words₀ (words_of s.done) words count w (omega (arith, room.for_words, s.few, d)) s.words_so_far);
        places_so_far = rw map-append (one_filled places₀ (places_of s.done) places count at (omega (arith, room.for_places, s.few, d)) s.places_so_far);
      }
