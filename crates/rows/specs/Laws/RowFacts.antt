-- What holds of the tokens that are read from a file, by one induction over its records. Assumes nothing.
use Prim.Native.Nat.{ℕ, zero, suc, ◌+◌, ◌-◌, ◌≤◌, ◌<◌}
use Rattle.std.proofs.Math.Path.{◌≡◌, refl, subst}
use Rattle.std.proofs.Common.{sym, arith}
use Rattle.std.specs.Prelude.{Bool, true, false, not, T, leb, Option, Some, None}
use mathlib.Core.List.{List, [], ◌∷◌}
use Rattle.std.proofs.Math.ListN.{length}
use Rattle.std.proofs.Math.Dec.{nleb→lt}
use Rattle.rows.specs.Kinds.{Identifier, End}
use Rattle.rows.specs.Format.{token_length}
use Rattle.rows.specs.declared.format.Format.{Format}
use Rattle.rows.specs.Records.{RowToken, Tokens, malformed, tokens, before_tokens, Row, refused, row, formed, found, word_at, word_in, length_at, after_record, tokens_from, to_end, records_from}
use Rattle.rows.specs.Laws.Tests.{by_if}
use Rattle.rows.specs.Laws.Tokens.{formed_fits, word_there}
use Rattle.rows.specs.declared.token.TokenRecord.{TokenRecord}

-- ---- the induction: what holds of no records and of a malformed one, and is kept by a token in front, holds of all records, n the most of them

module _ (f : Format) (file : List ℕ) where
  -- The token of the record at a byte offset.
  abbrev pub token_there : (at kind : ℕ) → RowToken
  token_there at kind = record { place = at; kind = kind; word = word_at f file at }

  pub record Kept (P : (n : ℕ) → Tokens → Type 0) : Type 0 where
    pub of_none : (n at : ℕ) → P n (tokens [] at)
    pub of_malformed : (n at : ℕ) → at < length file → P n (malformed at)
    pub of_token : (n at k size : ℕ) → found f file at ≡ formed k size → (r : Tokens) → P n r → P (suc n) (before_tokens (token_there at k) r)

  module _ (P : (n : ℕ) → Tokens → Type 0) (kept : Kept P) where
    after_kept : (n at : ℕ) → at < length file → (t : Option TokenRecord) → found f file at ≡ t → (rest : ℕ → Tokens) → ((next : ℕ) → P n (rest next))
        → P (suc n) (after_record f file at t rest)
    unfolding after_record
    after_kept n at l None e rest p = kept.of_malformed (suc n) at l
    after_kept n at l (Some r) e rest p = kept.of_token n at r.kind r.length e (rest (at + r.length)) (p (at + r.length))

    by_end : (n at : ℕ) (b : Bool) (r : Tokens) → (T (not b) → P n r) → P n (elim b as (λ _. Tokens) [ true ↦ tokens [] at | false ↦ r ])
    by_end n at true r p = kept.of_none n at
    by_end n at false r p = p tt

    pub tokens_kept : (most at : ℕ) → P most (tokens_from f file most at)
    unfolding tokens_from
    tokens_kept zero at = kept.of_none zero at
    tokens_kept (suc most) at =
        by_end (suc most) at (leb (length file) at) (after_record f file at (found f file at) (λ next. tokens_from f file most next))
        (λ t. after_kept most at (nleb→lt (length file) at t) (found f file at) refl (λ next. tokens_from f file most next) (λ next. tokens_kept most next))

  -- A row is made of such tokens.
  end_row : (P : List RowToken → Type 0) (r : Tokens) → ((ts : List RowToken) (next : ℕ) → r ≡ tokens ts next → P ts) → (ts : List RowToken) → to_end f file r ≡ row ts → P ts
  unfolding to_end
  end_row P (malformed offset) p ts e = absurd (no_row e)
    where
      no_row : {e : _} → refused e ≡ row ts → ⊥
      no_row q = let z : ◌≡◌ {A = ℕ} 0 1 = cc in omega (arith, z)
  end_row P (tokens us next) p ts e = by_if (λ (r : Row). r ≡ row ts → P ts) (leb (length file) next) (λ _ q. subst P (same q) (p us next refl)) (λ _ q. absurd (no_row q)) e
    where
      same : row us ≡ row ts → us ≡ ts
      same q = cc

      no_row : {e : _} → refused e ≡ row ts → ⊥
      no_row q = let z : ◌≡◌ {A = ℕ} 0 1 = cc in omega (arith, z)

-- ---- its kinds are token kinds, and only identifiers have words

-- A token of a row: its kind is one of the 58, and it has a word only if it is an identifier.
pub record GoodToken (t : RowToken) : Type 0 where
  pub known : t.kind ≤ End
  pub wordless : (t.kind ≡ Identifier → ⊥) → t.word ≡ []

abbrev pub GoodTokens : List RowToken → Type 0
GoodTokens [] = Unit {0}
GoodTokens (t ∷ ts) = GoodToken t × GoodTokens ts

abbrev Good : (n : ℕ) → Tokens → Type 0
Good n (malformed offset) = Unit {0}
Good n (tokens ts next) = GoodTokens ts

before_good : (n : ℕ) (t : RowToken) (r : Tokens) → GoodToken t → Good n r → Good (suc n) (before_tokens t r)
unfolding before_tokens
before_good n t (malformed offset) g p = tt
before_good n t (tokens ts next) g p = (g, p)

-- ---- there are at most as many as were asked for

abbrev Few : (n : ℕ) → Tokens → Type 0
Few n (malformed offset) = Unit {0}
Few n (tokens ts next) = length ts ≤ n

before_few : (n : ℕ) (t : RowToken) (r : Tokens) → Few n r → Few (suc n) (before_tokens t r)
unfolding before_tokens
before_few n t (malformed offset) p = tt
before_few n t (tokens ts next) p = omega arith

-- ---- a malformed record begins within the file

abbrev Inside : (file : List ℕ) (n : ℕ) → Tokens → Type 0
Inside file n (malformed offset) = offset < length file
Inside file n (tokens ts next) = Unit {0}

before_inside : (file : List ℕ) (n : ℕ) (t : RowToken) (r : Tokens) → Inside file n r → Inside file (suc n) (before_tokens t r)
unfolding before_tokens
before_inside file n t (malformed offset) p = p
before_inside file n t (tokens ts next) p = tt

module _ (f : Format) (file : List ℕ) where
  good_token : (at k n : ℕ) → found f file at ≡ formed k n → GoodToken (token_there f file at k)
  unfolding word_at
  good_token at k n e =
      let fit = formed_fits f file at k n e in
      record {
        known = fit.known;
        wordless = λ d.
            let none : length_at f file at - token_length f ≡ 0 = omega (arith, fit.is_length, fit.wordless d) in
            rw none refl;
      }

  good_kept : Kept f file Good
  good_kept =
      record { of_none = λ n at. tt; of_malformed = λ n at l. tt; of_token = λ n at k size e r p. before_good n (token_there f file at k) r (good_token at k size e) p }

  few_kept : Kept f file Few
  few_kept = record { of_none = λ n at. omega arith; of_malformed = λ n at l. tt; of_token = λ n at k size e r p. before_few n (token_there f file at k) r p }

  inside_kept : Kept f file (Inside file)
  inside_kept = record { of_none = λ n at. tt; of_malformed = λ n at l. l; of_token = λ n at k size e r p. before_inside file n (token_there f file at k) r p }

  -- Every row of a file: kinds below 58, words only at kind 0,
  pub good_row : (most at : ℕ) (ts : List RowToken) → records_from f file most at ≡ row ts → GoodTokens ts
  unfolding records_from
  good_row most at = end_row f file GoodTokens (tokens_from f file most at) (λ ts next e. subst (Good most) e (tokens_kept f file Good good_kept most at))

  -- at most as many tokens as were asked for.
  pub few_tokens : (most at : ℕ) {ts : List RowToken} → records_from f file most at ≡ row ts → length ts ≤ most
  unfolding records_from
  few_tokens most at {ts} =
      end_row f file (λ (us : List RowToken). length us ≤ most) (tokens_from f file most at) (λ us next e. subst (Few most) e (tokens_kept f file Few few_kept most at)) ts

  pub malformed_inside : (most at offset : ℕ) → tokens_from f file most at ≡ malformed offset → offset < length file
  malformed_inside most at offset e = subst (Inside file most) e (tokens_kept f file (Inside file) inside_kept most at)

-- ---- a token's word is the one found at its place

abbrev pub WordsFound : (f : Format) (file : List ℕ) → List RowToken → Type 0
WordsFound f file [] = Unit {0}
WordsFound f file (t ∷ ts) = (word_in f file t.place (found f file t.place) ≡ t.word) × WordsFound f file ts

abbrev Words : (f : Format) (file : List ℕ) (n : ℕ) → Tokens → Type 0
Words f file n (malformed offset) = Unit {0}
Words f file n (tokens ts next) = WordsFound f file ts

module _ (f : Format) (file : List ℕ) where
  words_kept : Kept f file (Words f file)
  unfolding before_tokens
  words_kept = record { of_none = λ n at. tt; of_malformed = λ n at l. tt; of_token = before }
    where
      before : (n at k size : ℕ) → found f file at ≡ formed k size → (r : Tokens) → Words f file n r → Words f file (suc n) (before_tokens (token_there f file at k) r)
      before n at k size e (malformed offset) p = tt
      before n at k size e (tokens ts next) p = (sym (word_there f file at k size e), p)

  -- "The word is handed on as that part of the caller's file": what `word` gives at a token's place.
  pub words_found : (most at : ℕ) (ts : List RowToken) → records_from f file most at ≡ row ts → WordsFound f file ts
  unfolding records_from
  words_found most at = end_row f file (WordsFound f file) (tokens_from f file most at) (λ ts next e. subst (Words f file most) e (tokens_kept f file (Words f file) words_kept most at))
