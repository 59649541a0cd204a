-- How long a token record is, and that the names of a list have bytes. Assumes nothing.
use Prim.Native.Nat.{ℕ, zero, suc, ◌+◌, ◌-◌, ◌≤◌, ◌<◌}
use Rattle.std.specs.Prelude.{◌≡◌, ◌≢◌, Bool, ◌&&◌, take, drop, ltb, eqb, if◌then◌else◌, None}
use Rattle.std.proofs.Math.Path.{refl, sym, subst}
use Rattle.std.proofs.Common.{◌∙◌, arith, length-take, length-drop}
use Rattle.std.proofs.Math.Bool.{true, false}
use mathlib.Core.List.{List, [], ◌∷◌}
use Rattle.std.proofs.Math.ListN.{length}
use Rattle.std.proofs.Math.Dec.{T, leb, leb→le, ltb→lt, eqb→eq}
use Rattle.std.proofs.Math.Facts.{and_yes, eqb_no}
use Rattle.rows.specs.Kinds.{Identifier, End}
use Rattle.rows.specs.Format.{format, short_bytes, token_length, longest_word}
use Rattle.rows.specs.Records.{little_endian, RowToken, Tokens, tokens, before_tokens, Row, found, word_at, length_at, kind_at, span_start_at, span_end_at, length_fits, word_fits, in_range, well_formed, tokens_from, to_end, records_from, formed}
use Rattle.rows.specs.Records as Records
use Rattle.rows.specs.Words.{same_exactly}
use Rattle.rows.specs.Laws.Tests.{by_if}
use Rattle.rows.specs.Laws.Tokens.{formed_fits, word_part, word_there}
use Rattle.rows.specs.Laws.RowFacts.{Kept, tokens_kept, token_there}
use Rattle.rows.specs.Laws.KnownSearch.{lengths_differ}
use Rattle.rows.specs.declared.format.Format.{Format}
use Rattle.names.specs.NameList.{most_names, is_name, all_words, distinct, words_in, NameList, listed, malformed, names_of, names_in, name_list}
use Rattle.names.specs.NamesSay.{name, word_of, SomeRecord}
use Rattle.names.specs.Laws.Same.{both}
use Rattle.names.specs.Laws.Names.{name_nowhere}

-- ---- a record's length

-- At most that of the longest word, and more than none where it has a word.
pub record Sized (f : Format) (k n : ℕ) : Type 0 where
  pub short : n ≤ token_length f + longest_word
  pub worded : k ≡ Identifier → token_length f < n

module _ (f : Format) (file : List ℕ) (at : ℕ) where
  fitting : T (length_fits f file at) → Sized f (kind_at f file at) (length_at f file at)
  unfolding length_fits word_fits
  fitting = by_if (λ (b : Bool). T b → Sized f (kind_at f file at) (length_at f file at)) (eqb (kind_at f file at) Identifier)
      (λ _ t.
      let u = and_yes (ltb (token_length f) (length_at f file at) && leb (length_at f file at) (token_length f + longest_word) && leb (at + length_at f file at) (length file)) (in_range (word_at f file at)) t in
      let v = and_yes (ltb (token_length f) (length_at f file at) && leb (length_at f file at) (token_length f + longest_word)) (leb (at + length_at f file at) (length file)) u.0 in
      let w = and_yes (ltb (token_length f) (length_at f file at)) (leb (length_at f file at) (token_length f + longest_word)) v.0 in
      record { short = leb→le (length_at f file at) (token_length f + longest_word) w.1; worded = λ _. ltb→lt (token_length f) (length_at f file at) w.0 })
      (λ no t. record { short = omega (arith, eqb→eq (length_at f file at) (token_length f) t); worded = λ e. absurd (eqb_no no e) })

  is_formed : (b : Bool) (k n : ℕ) {k' n' : ℕ} → (if b then formed k n else None) ≡ formed k' n' → T b
  is_formed true k n e = tt
  is_formed false k n e = let z : ◌≡◌ {A = ℕ} 0 1 = cc in absurd (omega (arith, z))

  pub formed_sized : (k n : ℕ) → found f file at ≡ formed k n → Sized f k n
  unfolding found well_formed
  formed_sized k n e =
      let fit = formed_fits f file at k n e in
      let u = and_yes (leb (at + token_length f) (length file) && leb (kind_at f file at) End && leb (span_start_at f file at) (span_end_at f file at)) (length_fits f file at) (is_formed (well_formed f file at) (kind_at f file at) (length_at f file at) e) in
      rw (fit.is_kind, fit.is_length) (fitting u.1)

-- ---- the word of a record that stands there, as code takes it

module _ {file : List ℕ} {at plain size : ℕ} (s : SomeRecord file at) (is_plain : plain ≡ token_length format) (is_size : size ≡ little_endian short_bytes file at) where
  is_there : size ≡ s.size
  unfolding length_at
  is_there = is_size ∙ sym (formed_fits format file at s.kind s.size s.is).is_length

  pub there_inside : (plain ≤ size) × (at + size ≤ length file)
  there_inside =
      let fit = formed_fits format file at s.kind s.size s.is in
      (omega (arith, is_there, is_plain, fit.long), omega (arith, is_there, fit.inside))

  pub word_taken : take (at + size - (at + plain)) (drop (at + plain) file) ≡ word_of file at
  word_taken = rw (is_there, is_plain) (word_part format file at s.kind s.size s.is ∙ word_there format file at s.kind s.size s.is)

-- The record's first bytes.
pub there_begins : {file : List ℕ} {at : ℕ} → SomeRecord file at → at + token_length format ≤ length file
there_begins {file} {at} s = let fit = formed_fits format file at s.kind s.size s.is in omega (arith, fit.long, fit.inside)

-- Its length, as code takes it.
pub sized_at : (file : List ℕ) (at n : ℕ) → n ≡ little_endian short_bytes file at → n ≡ length_at format file at
unfolding length_at
sized_at file at n e = e

-- ---- words have bytes

abbrev Worded : List RowToken → Type 0
Worded [] = Unit {0}
Worded (t ∷ ts) = (t.kind ≡ Identifier → length t.word ≢ 0) × Worded ts

abbrev WordedTokens : (n : ℕ) → Tokens → Type 0
WordedTokens n (Records.malformed offset) = Unit {0}
WordedTokens n (tokens ts next) = Worded ts

module _ (file : List ℕ) where
  some_bytes : (at k n : ℕ) → found format file at ≡ formed k n → k ≡ Identifier → length (word_at format file at) ≢ 0
  unfolding word_at
  some_bytes at k n e i =
      let fit = formed_fits format file at k n e in
      let size = (formed_sized format file at k n e).worded i in
      simp (length-take, length-drop) (λ q. absurd (omega (arith, fit.is_length, fit.inside, size, q)))

  worded_kept : Kept format file WordedTokens
  unfolding before_tokens
  worded_kept = record { of_none = λ n at. tt; of_malformed = λ n at l. tt; of_token = before }
    where
      before : (n at k size : ℕ) → found format file at ≡ formed k size → (r : Tokens) → WordedTokens n r → WordedTokens (suc n) (before_tokens (token_there format file at k) r)
      before n at k size e (Records.malformed offset) p = tt
      before n at k size e (tokens ts next) p = (some_bytes at k size e, p)

  -- Each word of records that are all of kind 0.
  each_worded : (ts : List RowToken) → Worded ts → all_words ts ≡ true → (i : ℕ) → i < length (words_in ts) → length (name (words_in ts) i) ≢ 0
  unfolding all_words words_in
  each_worded [] p e i q = absurd (omega arith)
  each_worded (t ∷ ts) p e zero q = p.0 (eqb→eq t.kind Identifier (subst T (sym (both (eqb t.kind Identifier) (all_words ts) e).0) tt))
  each_worded (t ∷ ts) p e (suc i) q = each_worded ts p.1 (both (eqb t.kind Identifier) (all_words ts) e).1 i (omega arith)

  abbrev Lists : NameList → Type 0
  Lists x = (ns : List (List ℕ)) → x ≡ listed ns → (i : ℕ) → i < length ns → length (name ns i) ≢ 0

  none_listed : Lists malformed
  none_listed ns e = let z : ◌≡◌ {A = ℕ} 0 1 = cc in absurd (omega (arith, z))

  these_listed : (ts : List RowToken) → Worded ts → Lists (names_of ts)
  unfolding names_of
  these_listed ts p = by (leb 1 (length ts)) (all_words ts) refl (distinct (words_in ts))
    where
      by : (a b : Bool) → all_words ts ≡ b → (c : Bool) → Lists (if a && b && c then listed (words_in ts) else malformed)
      by true true e true = λ ns q. let same : words_in ts ≡ ns = cc in subst (λ (x : List (List ℕ)). (i : ℕ) → i < length x → length (name x i) ≢ 0) same (each_worded ts p e)
      by true true e false = none_listed
      by true false e c = none_listed
      by false b e c = none_listed

  rows_listed : (r : Tokens) → WordedTokens most_names r → Lists (names_in (to_end format file r))
  unfolding names_in to_end
  rows_listed (Records.malformed offset) p = none_listed
  rows_listed (tokens ts next) p = by_if (λ (x : Row). Lists (names_in x)) (leb (length file) next) (λ _. these_listed ts p) (λ _. none_listed)

  -- "A word of 1 to 255 bytes": no name of a list is without bytes,
  pub names_have_bytes : Lists (name_list file)
  unfolding name_list records_from
  names_have_bytes = rows_listed (tokens_from format file most_names 0) (tokens_kept format file WordedTokens worded_kept most_names 0)

  -- so where no word stands, none is a name.
  pub no_word_no_name : (ns : List (List ℕ)) → name_list file ≡ listed ns → is_name ns [] ≡ false
  unfolding same_exactly
  no_word_no_name ns e = name_nowhere ns [] (λ i p. lengths_differ (λ b. b) (name ns i) [] (names_have_bytes ns e i p))
