-- The known words of a word's length that begin as it does give its number.
-- Assumes nothing.
use Rattle.std.specs.Prelude.{ℕ, suc, ◌+◌, ◌<◌, ◌≡◌, Bool, not, ◌&&◌, length, get_or, take, drop, T, if◌then◌else◌}
use Rattle.std.proofs.Math.Path.{refl, sym, ap}
use Rattle.std.proofs.Common.{◌∙◌, arith, eq-eqb, eqb-true}
use Rattle.std.proofs.Math.Bool.{true, false}
use mathlib.Core.List.{List, [], ◌∷◌}
use Rattle.std.proofs.lemmas.Bool.{eqb-false}
use Rattle.std.proofs.Math.Facts.{and_yes}
use Rattle.std.proofs.Math.Dec.{eqb}
use Rattle.rows.specs.Laws.Tests.{and_false}
use Rattle.rows.specs.Words.{Known, known, bytes, same_through, same_exactly, same_ignoring_case, lower, number_among, word_number, no_word, other_case}
use Rattle.rows.specs.WordSearch.{compared}
use Rattle.rows.specs.Laws.KnownWords.{byte_differs, nothing_yet}
use Rattle.rows.specs.declared.words.Comparison.{Comparison}
use Rattle.rows.specs.declared.words.Comparison.TheVariants.{Exact, OtherCase, Different}

-- ---- words of another length are not the same

pub lengths_differ : (fold : ℕ → ℕ) (w v : List ℕ) → (length w ≡ length v → ⊥) → same_through fold w v ≡ false
unfolding same_through
lengths_differ fold [] [] d = absurd (d refl)
lengths_differ fold [] (c ∷ v) d = refl
lengths_differ fold (b ∷ w) [] d = refl
lengths_differ fold (b ∷ w) (c ∷ v) d = rw (lengths_differ fold w v (λ e. d (ap suc e))) (and_false (eqb (fold b) (fold c)))

-- Of an entry with number n: the number that it gives, or a later one.
unfoldable pub picked : Comparison → (n later : ℕ) → ℕ
picked Exact n later = n
picked OtherCase n later = n + other_case
picked Different n later = later

picks : (w v : List ℕ) (n later : ℕ) → (if same_exactly w v then n else if same_ignoring_case w v then n + other_case else later) ≡ picked (compared w v) n later
unfolding picked compared
picks w v n later = by (same_exactly w v) (same_ignoring_case w v)
  where
    by : (a b : Bool) → (if a then n else if b then n + other_case else later) ≡ picked (if a then Exact else if b then OtherCase else Different) n later
    by true b = refl
    by false true = refl
    by false false = refl

-- As code asks.
pub picked_by : (w v : List ℕ) (n : ℕ) (c : Comparison) → c ≡ compared w v → picked c n no_word ≡ (if same_exactly w v then n else if same_ignoring_case w v then n + other_case else no_word)
picked_by w v n c e = ap (λ (d : Comparison). picked d n no_word) e ∙ sym (picks w v n no_word)

among_cons : (k : Known) (ks : List Known) (w : List ℕ) → number_among (k ∷ ks) w ≡ picked (compared w (bytes k.text)) k.number (number_among ks w)
unfolding number_among
among_cons k ks w = picks w (bytes k.text) k.number (number_among ks w)

other_length : (k : Known) (w : List ℕ) → (length (bytes k.text) ≡ length w → ⊥) → compared w (bytes k.text) ≡ Different
unfolding compared same_exactly same_ignoring_case
other_length k w d =
    let e : length w ≡ length (bytes k.text) → ⊥ = λ q. d (sym q) in
    rw (lengths_differ (λ b. b) w (bytes k.text) e, lengths_differ lower w (bytes k.text) e) refl

other_first : (k : Known) (w : List ℕ) → length (bytes k.text) ≡ length w → 0 < length w → (lower (get_or (bytes k.text) 0 0) ≡ lower (get_or w 0 0) → ⊥)
    → compared w (bytes k.text) ≡ Different
other_first k w long some d = sym (byte_differs w (bytes k.text) long true 0 (nothing_yet w (bytes k.text)) some (λ q. d (sym q)))

-- ---- entries of a table that a word cannot be

-- Those of which p holds.
unfoldable pub kept : (Known → Bool) → List Known → List Known
kept p [] = []
kept p (k ∷ ks) = let rest = kept p ks in if p k then k ∷ rest else rest

-- p holds of none.
unfoldable pub none : (Known → Bool) → List Known → Bool
none p [] = true
none p (k ∷ ks) = not (p k) && none p ks

kept_none : (p : Known → Bool) (ks : List Known) → T (none p ks) → kept p ks ≡ []
unfolding kept none
kept_none p [] t = refl
kept_none p (k ∷ ks) t = let u = and_yes (not (p k)) (none p ks) t in by (p k) u.0 (kept_none p ks u.1)
  where
    by : (b : Bool) → T (not b) → kept p ks ≡ [] → (if b then k ∷ kept p ks else kept p ks) ≡ []
    by true t e = absurd t
    by false t e = e

module _ (w : List ℕ) (p : Known → Bool) (others : (k : Known) → p k ≡ false → compared w (bytes k.text) ≡ Different) where
  kept_cons : (k : Known) (ks part : List Known) → number_among ks w ≡ number_among part w → (b : Bool) → p k ≡ b
      → number_among (k ∷ ks) w ≡ number_among (if b then k ∷ part else part) w
  unfolding picked
  kept_cons k ks part same true e = among_cons k ks w ∙ ap (λ (n : ℕ). picked (compared w (bytes k.text)) k.number n) same ∙ sym (among_cons k part w)
  kept_cons k ks part same false e = among_cons k ks w ∙ ap (λ (c : Comparison). picked c k.number (number_among ks w)) (others k e) ∙ same

  among_kept : (ks : List Known) → number_among ks w ≡ number_among (kept p ks) w
  unfolding kept
  among_kept [] = refl
  among_kept (k ∷ ks) = kept_cons k ks (kept p ks) (among_kept ks) (p k) refl

  in_none : T (none p known) → no_word ≡ word_number w
  unfolding word_number number_among
  in_none t = sym (among_kept known ∙ ap (λ (ks : List Known). number_among ks w) (kept_none p known t))

-- ---- the known words of one length, and with one first byte

-- The entry is for words of length n.
abbrev pub long_as : (n : ℕ) → Known → Bool
long_as n k = eqb (length (bytes k.text)) n

-- The entry is for words of length n that begin with f in lower case.
abbrev pub like : (n f : ℕ) → Known → Bool
like n f k = eqb (length (bytes k.text)) n && eqb (lower (get_or (bytes k.text) 0 0)) f

-- No known word is of length n.
pub no_length : (w : List ℕ) (n : ℕ) → length w ≡ n → T (none (long_as n) known) → no_word ≡ word_number w
no_length w n long = in_none w (long_as n) (λ k e. other_length k w (λ q. eqb-false (length (bytes k.text)) n e (q ∙ long)))

module _ (w : List ℕ) (n f : ℕ) (long : length w ≡ n) (some : 0 < n) (first : f ≡ lower (get_or w 0 0)) where
  unlike : (k : Known) (a b : Bool) → eqb (length (bytes k.text)) n ≡ a → eqb (lower (get_or (bytes k.text) 0 0)) f ≡ b → (a && b) ≡ false → compared w (bytes k.text) ≡ Different
  unlike k false b ea eb e = other_length k w (λ q. eqb-false (length (bytes k.text)) n ea (q ∙ long))
  unlike k true false ea eb e =
      other_first k w (eqb-true (length (bytes k.text)) n ea ∙ sym long) (omega arith) (λ q. eqb-false (lower (get_or (bytes k.text) 0 0)) f eb (q ∙ sym first))
  unlike k true true ea eb e = let z : ◌≡◌ {A = ℕ} 0 1 = cc in absurd (omega arith)

  others : (k : Known) → like n f k ≡ false → compared w (bytes k.text) ≡ Different
  others k e = unlike k (eqb (length (bytes k.text)) n) (eqb (lower (get_or (bytes k.text) 0 0)) f) refl refl e

  pub among_like : number_among (kept (like n f) known) w ≡ word_number w
  unfolding word_number
  among_like = sym (among_kept w (like n f) others known)

  -- None begins so.
  pub no_first : T (none (like n f) known) → no_word ≡ word_number w
  no_first = in_none w (like n f) others

-- ---- one entry, then the others

-- w is to be found in ks; r is what its first entry gives.
module _ (w : List ℕ) where
  pub found : (ks : List Known) {total : ℕ} → number_among ks w ≡ total → (r : ℕ) → r ≡ number_among (take 1 ks) w → (r ≡ no_word → ⊥) → r ≡ total
  unfolding number_among picked
  found [] rest r e d = absurd (d e)
  found (k ∷ ks) rest r e d = by (compared w (bytes k.text)) (e ∙ among_cons k [] w) ∙ sym (among_cons k ks w) ∙ rest
    where
      by : (c : Comparison) → r ≡ picked c k.number no_word → r ≡ picked c k.number (number_among ks w)
      by Exact q = q
      by OtherCase q = q
      by Different q = absurd (d q)

  pub not_found : (ks : List Known) {total : ℕ} → number_among ks w ≡ total → T (none (λ k. eqb k.number no_word) ks) → (r : ℕ) → r ≡ number_among (take 1 ks) w → r ≡ no_word → number_among (drop 1 ks) w ≡ total
  unfolding number_among none picked
  not_found [] rest t r e z = rest
  not_found (k ∷ ks) rest t r e z =
      let positive : k.number ≡ no_word → ⊥ = λ q. rw (eq-eqb k.number no_word q) at (and_yes (not (eqb k.number no_word)) (none (λ k. eqb k.number no_word) ks) t).0 in
      by positive (compared w (bytes k.text)) (sym z ∙ e ∙ among_cons k [] w) ∙ sym (among_cons k ks w) ∙ rest
    where
      by : (k.number ≡ no_word → ⊥) → (c : Comparison) → no_word ≡ picked c k.number no_word → number_among ks w ≡ picked c k.number (number_among ks w)
      by d Exact q = absurd (d (sym q))
      by d OtherCase q = absurd (omega arith)
      by d Different q = refl
