-- Token records as code reads them: a word byte by byte, a record test by test.
-- Assumes nothing.
use Rattle.std.specs.Prelude.{ℕ, ◌+◌, ◌-◌, ◌≤◌, ◌<◌, Bool, ◌&&◌, List, [], ◌∷◌, ◌++◌, get_or, take, drop, ltb, eqb, if◌then◌else◌, Option, Some, None}
use Rattle.std.proofs.Math.Path.{◌≡◌, refl, sym, ap}
use Rattle.std.proofs.Common.{◌∙◌, add-one, drop_of_length-le, take-append-drop, length-drop, drop-cons, drop-drop, take-add, take_all}
use Rattle.std.proofs.Math.Bool.{true, false}
use native.Mathlib.Omega.{arith}
use borrow.Author.Tests.{lt-ltb, le-ltb, le-leb, lt-leb, eq-eqb, ne_eqb}
use Rattle.std.proofs.Math.ListN.{length}
use Rattle.std.proofs.Math.Dec.{T, leb, leb→le, ltb→lt, eqb→eq}
use Rattle.std.proofs.Math.Facts.{and_yes}
use Rattle.rows.specs.Kinds.{Identifier, End}
use Rattle.rows.specs.Format.{token_length, longest_word, least_word_byte, greatest_word_byte}
use Rattle.rows.specs.declared.format.Format.{Format}
use Rattle.rows.specs.Records.{in_range, length_at, kind_at, span_start_at, span_end_at, word_at, word_fits, length_fits, well_formed, formed, found, word_in}
use Rattle.rows.specs.Laws.Tests.{by_if, and_true}
use Rattle.rows.specs.declared.token.TokenRecord.{TokenRecord}

-- ---- a word: `fits` of its first i bytes

and_regrouped : (a b c d : Bool) → (((a && b) && c) && d) ≡ (a && (b && c && d))
and_regrouped true true true d = refl
and_regrouped true true false d = refl
and_regrouped true false c d = refl
and_regrouped false b c d = refl

module _ (w : List ℕ) (i : ℕ) (fits : Bool) {total : Bool} (so_far : (fits && in_range (drop i w)) ≡ total) where
  pub one_more : i < length w → (((fits && leb least_word_byte (get_or w i 0)) && leb (get_or w i 0) greatest_word_byte) && in_range (drop (i + 1) w)) ≡ total
  unfolding in_range
  one_more h =
      and_regrouped fits (leb least_word_byte (get_or w i 0)) (leb (get_or w i 0) greatest_word_byte) (in_range (drop (i + 1) w))
      ∙ rw (add-one i) (rw (drop-cons w i 0 h) at so_far)

  pub no_more : length w ≤ i → fits ≡ total
  unfolding in_range
  no_more h = sym (and_true fits) ∙ rw (drop_of_length-le w {i = i} h) at so_far

-- ---- a word in groups of bytes

and_assoc : (a b c : Bool) → ((a && b) && c) ≡ (a && (b && c))
and_assoc true b c = refl
and_assoc false b c = refl

in_range_append : (v w : List ℕ) → in_range (v ++ w) ≡ (in_range v && in_range w)
unfolding in_range
in_range_append [] w = refl
in_range_append (b ∷ v) w = rw (in_range_append v w) (sym (and_assoc (leb least_word_byte b && leb b greatest_word_byte) (in_range v) (in_range w)))

halves : (v : List ℕ) (m n : ℕ) → (in_range (take m v) && in_range (take n (drop m v))) ≡ in_range (take (m + n) v)
halves v m n = sym (ap in_range (take-add m n v) ∙ in_range_append (take m v) (take n (drop m v)))

-- What two groups share counts once.
shared : (a b c : Bool) → ((a && b) && (b && c)) ≡ ((a && b) && c)
shared true true c = refl
shared true false c = refl
shared false b c = refl

overlapping : (w : List ℕ) (a d : ℕ) → (in_range (take (a + d) w) && in_range (drop a w)) ≡ in_range w
overlapping w a d =
    let first : in_range (take (a + d) w) ≡ (in_range (take a w) && in_range (take d (drop a w))) = sym (halves w a d) in
    let last : in_range (drop a w) ≡ (in_range (take d (drop a w)) && in_range (drop (a + d) w)) =
    ap in_range (sym (take-append-drop d (drop a w)) ∙ ap (λ (r : List ℕ). take d (drop a w) ++ r) (drop-drop d a w)) ∙ in_range_append (take d (drop a w)) (drop (a + d) w) in
    let all : in_range w ≡ (in_range (take (a + d) w) && in_range (drop (a + d) w)) =
    ap in_range (sym (take-append-drop (a + d) w)) ∙ in_range_append (take (a + d) w) (drop (a + d) w) in
    cc (shared (in_range (take a w)) (in_range (take d (drop a w))) (in_range (drop (a + d) w)))

-- The first m bytes and the last k are all bytes; they may overlap.
pub groups_cover : (w : List ℕ) (m k : ℕ) → k ≤ length w → length w ≤ m + k
    → (in_range (take m w) && in_range (take (length w - (length w - k)) (drop (length w - k) w))) ≡ in_range w
groups_cover w m k few cover =
    let whole : length w - (length w - k) ≡ k = omega arith in
    let last : take k (drop (length w - k) w) ≡ drop (length w - k) w = take_all k (drop (length w - k) w) (simp length-drop (omega arith)) in
    let size : length w - k + (m - (length w - k)) ≡ m = omega arith in
    rw (whole, last) (rw size at (overlapping w (length w - k) (m - (length w - k))))

-- ---- a record of length n and kind k, test by test

module _ (f : Format) (file : List ℕ) (at : ℕ) (n : ℕ) (is_length : n ≡ length_at f file at) where
  pub word_too_short : n ≤ token_length f → false ≡ word_fits f file at
  unfolding word_fits
  word_too_short p = sym (rw (← is_length, le-ltb (token_length f) n p) refl)

  pub word_too_long : token_length f < n → token_length f + longest_word < n → false ≡ word_fits f file at
  unfolding word_fits
  word_too_long p q = sym (rw (← is_length, lt-ltb (token_length f) n p, lt-leb n (token_length f + longest_word) q) refl)

  pub word_cut_off : token_length f < n → n ≤ token_length f + longest_word → length file < at + n → false ≡ word_fits f file at
  unfolding word_fits
  word_cut_off p q r = sym (rw (← is_length, lt-ltb (token_length f) n p, le-leb n (token_length f + longest_word) q, lt-leb (at + n) (length file) r) refl)

  pub word_whole : token_length f < n → n ≤ token_length f + longest_word → at + n ≤ length file
      → in_range (take (at + n - (at + token_length f)) (drop (at + token_length f) file)) ≡ word_fits f file at
  unfolding word_fits word_at
  word_whole p q r =
      let size : at + n - (at + token_length f) ≡ n - token_length f = omega arith in
      rw (size, ← is_length, lt-ltb (token_length f) n p, le-leb n (token_length f + longest_word) q, le-leb (at + n) (length file) r) refl

  module _ (k : ℕ) (is_kind : k ≡ kind_at f file at) where
    pub identifier_fits : k ≡ Identifier → word_fits f file at ≡ length_fits f file at
    unfolding length_fits
    identifier_fits e = sym (rw (← is_kind, eq-eqb k Identifier e) refl)

    pub sign_fits : (k ≡ Identifier → ⊥) → eqb n (token_length f) ≡ length_fits f file at
    unfolding length_fits
    sign_fits e = rw (← is_kind, ne_eqb k Identifier e, ← is_length) refl

    pub cut_off : length file < at + token_length f → None ≡ found f file at
    unfolding found well_formed
    cut_off p = sym (rw (lt-leb (at + token_length f) (length file) p) refl)

    module _ (whole : at + token_length f ≤ length file) where
      pub kind_too_great : End < k → None ≡ found f file at
      unfolding found well_formed
      kind_too_great p = sym (rw (le-leb (at + token_length f) (length file) whole, ← is_kind, lt-leb k End p) refl)

      module _ (known : k ≤ End) where
        pub span_reversed : span_end_at f file at < span_start_at f file at → None ≡ found f file at
        unfolding found well_formed
        span_reversed p =
            sym (rw (le-leb (at + token_length f) (length file) whole, ← is_kind, le-leb k End known, lt-leb (span_start_at f file at) (span_end_at f file at) p) refl)

        pub by_length : span_start_at f file at ≤ span_end_at f file at → (b : Bool) → b ≡ length_fits f file at
            → (if b then formed k n else None) ≡ found f file at
        unfolding found well_formed
        by_length p b e =
            rw (e, is_kind, is_length, le-leb (at + token_length f) (length file) whole, le-leb (kind_at f file at) End (rw is_kind at known), le-leb (span_start_at f file at) (span_end_at f file at) p) refl

-- ---- what a well-formed record has

pub record Fits (f : Format) (file : List ℕ) (at k n : ℕ) : Type 0 where
  pub is_kind : k ≡ kind_at f file at
  pub is_length : n ≡ length_at f file at
  pub known : k ≤ End
  pub long : token_length f ≤ n
  pub inside : at + n ≤ length file
  pub wordless : (k ≡ Identifier → ⊥) → n ≡ token_length f

abbrev kind_in : Option TokenRecord → ℕ
kind_in (Some r) = r.kind
kind_in None = 0

abbrev length_in : Option TokenRecord → ℕ
length_in (Some r) = r.length
length_in None = 0

abbrev is_formed : Option TokenRecord → ℕ
is_formed (Some r) = 1
is_formed None = 0

module _ (f : Format) (file : List ℕ) (at : ℕ) where
  -- the length of a record that fits its kind
  lengths : at + token_length f ≤ length file → T (length_fits f file at) → (token_length f ≤ length_at f file at) × (at + length_at f file at ≤ length file)
  unfolding length_fits word_fits
  lengths whole = by_if (λ (b : Bool). T b → (token_length f ≤ length_at f file at) × (at + length_at f file at ≤ length file)) (eqb (kind_at f file at) Identifier)
      (λ _ t.
      let u = and_yes (ltb (token_length f) (length_at f file at) && leb (length_at f file at) (token_length f + longest_word) && leb (at + length_at f file at) (length file)) (in_range (word_at f file at)) t in
      let v = and_yes (ltb (token_length f) (length_at f file at) && leb (length_at f file at) (token_length f + longest_word)) (leb (at + length_at f file at) (length file)) u.0 in
      let w = and_yes (ltb (token_length f) (length_at f file at)) (leb (length_at f file at) (token_length f + longest_word)) v.0 in
      (omega (arith, ltb→lt (token_length f) (length_at f file at) w.0), leb→le (at + length_at f file at) (length file) v.1))
      (λ _ t.
      let same : length_at f file at ≡ token_length f = eqb→eq (length_at f file at) (token_length f) t in
      (omega (arith, same), omega (arith, same)))

  -- a record of another kind than 0 is as long as a record without a word
  plain_length : T (length_fits f file at) → (kind_at f file at ≡ Identifier → ⊥) → length_at f file at ≡ token_length f
  unfolding length_fits
  plain_length t d = eqb→eq (length_at f file at) (token_length f) (rw (ne_eqb (kind_at f file at) Identifier d) at t)

  formed_fits' : (b : Bool) → well_formed f file at ≡ b → (k n : ℕ) → (if b then formed (kind_at f file at) (length_at f file at) else None) ≡ formed k n → Fits f file at k n
  unfolding well_formed
  formed_fits' false w k n e = let clash : ◌≡◌ {A = ℕ} 0 1 = ap is_formed e in absurd (omega (arith, clash))
  formed_fits' true w k n e =
      let t : T (well_formed f file at) = rw w tt in
      let u = and_yes (leb (at + token_length f) (length file) && leb (kind_at f file at) End && leb (span_start_at f file at) (span_end_at f file at)) (length_fits f file at) t in
      let v = and_yes (leb (at + token_length f) (length file) && leb (kind_at f file at) End) (leb (span_start_at f file at) (span_end_at f file at)) u.0 in
      let x = and_yes (leb (at + token_length f) (length file)) (leb (kind_at f file at) End) v.0 in
      let l = lengths (leb→le (at + token_length f) (length file) x.0) u.1 in
      let same_kind : kind_at f file at ≡ k = ap kind_in e in
      let same_length : length_at f file at ≡ n = ap length_in e in
      record {
        is_kind = sym same_kind;
        is_length = sym same_length;
        known = omega (arith, same_kind, leb→le (kind_at f file at) End x.1);
        long = omega (arith, same_length, l.0);
        inside = omega (arith, same_length, l.1);
        wordless = λ d. sym same_length ∙ plain_length u.1 (λ q. d (sym same_kind ∙ q));
      }

  pub formed_fits : (k n : ℕ) → found f file at ≡ formed k n → Fits f file at k n
  unfolding found
  formed_fits k n e = formed_fits' (well_formed f file at) refl k n e

  -- The word of a well-formed record as a part of the file.
  pub word_part : (k n : ℕ) → found f file at ≡ formed k n → take (at + n - (at + token_length f)) (drop (at + token_length f) file) ≡ word_at f file at
  unfolding word_at
  word_part k n e =
      let fit = formed_fits k n e in
      let size : at + n - (at + token_length f) ≡ length_at f file at - token_length f = omega (arith, fit.is_length) in
      rw size refl

  pub word_there : (k n : ℕ) → found f file at ≡ formed k n → word_at f file at ≡ word_in f file at (found f file at)
  unfolding word_in
  word_there k n e = rw e refl

  pub no_word_there : found f file at ≡ None → [] ≡ word_in f file at (found f file at)
  unfolding word_in
  no_word_there e = rw e refl
