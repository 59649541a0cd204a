-- A builtin type word that stands alone, with any qualifiers, goes together: its combination need not be looked through. Assumes nothing.
use Rattle.std.specs.Prelude.{ℕ, zero, suc, ◌<◌, ◌≡◌, Bool, true, false, ◌&&◌, ◌||◌, not, length, get_or, replicate, leb, ltb, eqb, if◌then◌else◌}
use Rattle.std.proofs.Math.Path.{refl, ap}
use Rattle.std.proofs.Common.{sym, ◌∙◌, true≢false, arith, ltb-false, eqb-true}
use mathlib.Core.List.{List, [], ◌∷◌}
use Rattle.std.proofs.Math.Dec.{eqb-zero-suc, eqb-suc-zero, eqb-suc-suc}
use Rattle.rows.specs.Notation.{◌is_one_of◌}
use Rattle.std.proofs.Math.Bool.{or-false}
use Rattle.rows.specs.Words.{void, char, short, long, signed, unsigned, float, double}
use Rattle.type_nodes.specs.Sets.{builtin_type_words, scalar_bases, is_c_builtin_type_word}
use Rattle.type_nodes.specs.Combination.{times, has, once_more, none_seen, how_many, builtin_words, no_builtin_word, too_often, validate_c_builtin_combination, counted_words}
use Rattle.std.proofs.lemmas.Bool.{and_parts}
use Rattle.type_nodes.specs.Laws.Bounds.{all_pass, one_passes}

-- ---- counts that agree on the builtin type words

abbrev Agree : (a b : List ℕ) → Type 0
Agree a b = (w : ℕ) → is_c_builtin_type_word w ≡ true → times w a ≡ times w b

-- `validate_c_builtin_combination` by what it asks of the counts.
abbrev tests : (over s u sh l : Bool) (bases : ℕ) (v : Bool) (all : ℕ) (f d : Bool) (longs : ℕ) (c : Bool) → Bool
tests over s u sh l bases v all f d longs c =
    not over && not (s && u) && not (sh && l) && leb bases 1 && not (v && not (eqb all 1)) && not (f && (sh || l || s || u))
    && not (d && (sh || s || u || ltb 1 longs)) && not (c && (sh || l))

by_tests : {over over' s s' u u' sh sh' l l' : Bool} {bases bases' : ℕ} {v v' : Bool} {all all' : ℕ} {f f' d d' : Bool} {longs longs' : ℕ} {c c' : Bool}
    → over ≡ over' → s ≡ s' → u ≡ u' → sh ≡ sh' → l ≡ l' → bases ≡ bases' → v ≡ v' → all ≡ all' → f ≡ f' → d ≡ d' → longs ≡ longs' → c ≡ c'
    → tests over s u sh l bases v all f d longs c ≡ tests over' s' u' sh' l' bases' v' all' f' d' longs' c'
by_tests e1 e2 e3 e4 e5 e6 e7 e8 e9 e10 e11 e12 = rw (e1, e2, e3, e4, e5, e6, e7, e8, e9, e10, e11, e12) refl

module _ (a b : List ℕ) (same : Agree a b) where
  has_agrees : (w : ℕ) → is_c_builtin_type_word w ≡ true → has w a ≡ has w b
  unfolding has
  has_agrees w h = ap (ltb 0) (same w h)

  how_many_agrees : (ws : List ℕ) → all_pass is_c_builtin_type_word ws ≡ true → how_many ws a ≡ how_many ws b
  unfolding how_many all_pass
  how_many_agrees [] h = refl
  how_many_agrees (w ∷ ws) h =
      rw (has_agrees w (and_parts (is_c_builtin_type_word w) (all_pass is_c_builtin_type_word ws) h).0, how_many_agrees ws (and_parts (is_c_builtin_type_word w) (all_pass is_c_builtin_type_word ws) h).1) refl

  too_often_agrees : (ws : List ℕ) → all_pass is_c_builtin_type_word ws ≡ true → too_often ws a ≡ too_often ws b
  unfolding too_often all_pass
  too_often_agrees [] h = refl
  too_often_agrees (w ∷ ws) h =
      rw (same w (and_parts (is_c_builtin_type_word w) (all_pass is_c_builtin_type_word ws) h).0, too_often_agrees ws (and_parts (is_c_builtin_type_word w) (all_pass is_c_builtin_type_word ws) h).1) refl

  combination_agrees : validate_c_builtin_combination a ≡ validate_c_builtin_combination b
  unfolding validate_c_builtin_combination builtin_words is_c_builtin_type_word builtin_type_words scalar_bases all_pass
  combination_agrees =
      by_tests (too_often_agrees builtin_type_words refl) (has_agrees signed refl) (has_agrees unsigned refl) (has_agrees short refl) (has_agrees long refl)
      (how_many_agrees scalar_bases refl) (has_agrees void refl) (how_many_agrees builtin_type_words refl) (has_agrees float refl) (has_agrees double refl)
      (same long refl) (has_agrees char refl)

-- ---- one word more

times_once_more : (l : List ℕ) (w v : ℕ) → w < length l → times v (once_more w l) ≡ (if eqb w v then suc (times v l) else times v l)
unfolding once_more times
times_once_more [] w v h = absurd (omega arith)
times_once_more (a ∷ l) zero zero h = refl
times_once_more (a ∷ l) zero (suc v) h = rw (eqb-zero-suc v) refl
times_once_more (a ∷ l) (suc w) zero h = rw (eqb-suc-zero w) refl
times_once_more (a ∷ l) (suc w) (suc v) h = rw (eqb-suc-suc w v) (times_once_more l w v (omega arith))

-- The same word once more in both.
both_once_more : (a b : List ℕ) (w : ℕ) → w < length a → w < length b → Agree a b → Agree (once_more w a) (once_more w b)
both_once_more a b w p q same v h = rw (times_once_more a w v p, times_once_more b w v q, same v h) refl

-- Another word once more in one.
other_once_more : (a b : List ℕ) (w : ℕ) → w < length a → is_c_builtin_type_word w ≡ false → Agree a b → Agree (once_more w a) b
other_once_more a b w p n same v h =
    elim (eqb w v) as (λ t. eqb w v ≡ t → times v (once_more w a) ≡ times v b) [
      | true ↦ λ e. absurd (true≢false (sym h ∙ ap is_c_builtin_type_word (sym (eqb-true w v e)) ∙ n))
      | false ↦ λ e. rw (times_once_more a w v p, e) (same v h)
    ] refl

-- ---- no word

pub zeros : (n w : ℕ) → ◌≡◌ {A = ℕ} (get_or (replicate n 0) w 0) 0
zeros zero w = refl
zeros (suc n) zero = refl
zeros (suc n) (suc w) = zeros n w

not_met : (ws seen : List ℕ) (w : ℕ) → eqb (how_many ws seen) 0 ≡ true → (w is_one_of ws) ≡ true → times w seen ≡ 0
unfolding how_many ◌is_one_of◌ has
not_met [] seen w z h = absurd (true≢false (sym h))
not_met (v ∷ ws) seen w z h =
    elim (ltb 0 (times v seen)) as (λ t. ltb 0 (times v seen) ≡ t → times w seen ≡ 0) [
      | true ↦ λ e. absurd (true≢false (sym (rw e at z) ∙ eqb-suc-zero (how_many ws seen)))
      | false ↦ λ e. elim (eqb w v) as (λ t. eqb w v ≡ t → times w seen ≡ 0) [
        | true ↦ λ q. let u : times v seen ≡ 0 = omega (arith, ltb-false 0 (times v seen) e) in ap (λ (n : ℕ). times n seen) (eqb-true w v q) ∙ u
        | false ↦ λ q. not_met ws seen w (rw e at z) (rw q at h)
      ] refl
    ] refl

none_agrees : (seen : List ℕ) → no_builtin_word seen ≡ true → Agree seen none_seen
unfolding no_builtin_word builtin_words is_c_builtin_type_word none_seen times
none_agrees seen z w h = not_met builtin_type_words seen w z h ∙ sym (zeros counted_words w)

-- ---- `single`: one builtin type word was seen, once

pub record Alone (seen : List ℕ) : Type 0 where
  word : ℕ
  builtin : is_c_builtin_type_word word ≡ true
  agrees : Agree seen (once_more word none_seen)

abbrev pub Single : (single : Bool) (seen : List ℕ) → Type 0
Single single seen = single ≡ true → Alone seen

-- Each of the twenty.
each_alone : all_pass (λ w. validate_c_builtin_combination (once_more w none_seen)) builtin_type_words ≡ true
unfolding all_pass builtin_type_words validate_c_builtin_combination once_more none_seen
each_alone = refl

pub one_alone : (w : ℕ) → is_c_builtin_type_word w ≡ true → validate_c_builtin_combination (once_more w none_seen) ≡ true
unfolding is_c_builtin_type_word
one_alone w h = one_passes (λ v. validate_c_builtin_combination (once_more v none_seen)) w builtin_type_words each_alone h

pub single_valid : {single : Bool} (seen : List ℕ) → Single single seen → single ≡ true → validate_c_builtin_combination seen ≡ true
single_valid seen s y =
    let one : Alone seen = s y in
    combination_agrees seen (once_more one.word none_seen) one.agrees ∙ one_alone one.word one.builtin

pub no_single : (seen : List ℕ) → Single false seen
no_single seen y = absurd (true≢false (sym y))

module _ (single none : Bool) (seen : List ℕ) (w : ℕ) (p : w < length seen) (q : w < counted_words) (k : none ≡ no_builtin_word seen) (s : Single single seen) where
  first_one : (is_c_builtin_type_word w ≡ true) → Single none (once_more w seen)
  unfolding none_seen
  first_one e y = record { word = w; builtin = e; agrees = both_once_more seen none_seen w p q (none_agrees seen (sym k ∙ y)) }

  still_one : (is_c_builtin_type_word w ≡ false) → Single single (once_more w seen)
  still_one e y =
      let one : Alone seen = s y in
      record { word = one.word; builtin = one.builtin; agrees = other_once_more seen (once_more one.word none_seen) w p e one.agrees }

  pub single_once_more : (b : Bool) → b ≡ is_c_builtin_type_word w → Single ((b && none) || (not b && single)) (once_more w seen)
  single_once_more true e = rw (or-false none) (first_one (sym e))
  single_once_more false e = still_one (sym e)
