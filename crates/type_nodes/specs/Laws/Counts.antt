-- The walks over a list of words that count those seen. Assumes nothing.
use Prim.Native.Nat.{ℕ, zero, suc, ◌+◌, ◌≤◌, ◌<◌}
use Rattle.std.specs.Prelude.{◌≡◌, refl, Bool, true, false, ◌&&◌, ◌||◌, not, List, [], ◌∷◌, length, get_or, drop, ltb, eqb, if◌then◌else◌}
use Rattle.std.proofs.Common.{arith, add-one, drop_of_length-le, drop-cons, lt-ltb, le-ltb}
use Rattle.std.proofs.Math.Dec.{eqb-zero-suc, eqb-suc-zero, eqb-suc-suc}
use Rattle.rows.specs.Notation.{◌is_one_of◌}
use Rattle.rows.specs.Words.{long}
use Rattle.type_nodes.specs.Sets.{builtin_type_words, is_c_builtin_type_word}
use Rattle.type_nodes.specs.Combination.{times, has, once_more, how_many, builtin_words, no_builtin_word, too_often, counted_words}
use Rattle.type_nodes.specs.RepresentedSpecifiers.{HaveCounts}
use Rattle.type_nodes.specs.Laws.Bounds.{all_below, first_below, others_below}

pub counted : (ws : List ℕ) → all_below counted_words ws ≡ true → HaveCounts ws
counted [] h i p = absurd (omega arith)
counted (w ∷ ws) h zero p = first_below counted_words w ws h
counted (w ∷ ws) h (suc i) p = counted ws (others_below counted_words w ws h) i (omega arith)

module _ (words seen : List ℕ) (i : ℕ) where
  pub none_left : (n total : ℕ) → length words ≤ i → n + how_many (drop i words) seen ≡ total → n ≡ total
  unfolding how_many
  none_left n total h e = let f : n + 0 ≡ total = rw (drop_of_length-le words {i = i} h) at e in omega (arith, f)

  pub none_often : {total : Bool} → length words ≤ i → too_often (drop i words) seen ≡ total → false ≡ total
  unfolding too_often
  none_often h e = rw (drop_of_length-le words {i = i} h) at e

  module _ (h : i < length words) where
    pub one_met : (n total : ℕ) → has (get_or words i 0) seen ≡ true → n + how_many (drop i words) seen ≡ total
        → (n + 1) + how_many (drop (i + 1) words) seen ≡ total
    unfolding how_many
    one_met n total p e =
        let f : n + how_many (drop i words) seen ≡ n + suc (how_many (drop (suc i) words) seen) = rw (drop-cons words i 0 h, p) in
        rw (add-one i) (omega (arith, e, f))

    pub one_not_met : (n total : ℕ) → has (get_or words i 0) seen ≡ false → n + how_many (drop i words) seen ≡ total
        → n + how_many (drop (i + 1) words) seen ≡ total
    unfolding how_many
    one_not_met n total p e =
        let f : n + how_many (drop i words) seen ≡ n + how_many (drop (suc i) words) seen = rw (drop-cons words i 0 h, p) in
        rw (add-one i) (omega (arith, e, f))

    -- The first of the words left is over its limit, or the others decide.
    module _ {total : Bool} {m t : ℕ} (p : m ≡ (if eqb (get_or words i 0) long then 2 else 1)) (q : t ≡ times (get_or words i 0) seen)
        (e : too_often (drop i words) seen ≡ total) where
      first_often : (ltb m t || too_often (drop (suc i) words) seen) ≡ total
      unfolding too_often
      first_often = rw (p, q) (rw (drop-cons words i 0 h) at e)

      pub one_often : m < t → true ≡ total
      one_often o = rw (lt-ltb m t o) at first_often

      pub one_seldom : t ≤ m → too_often (drop (i + 1) words) seen ≡ total
      one_seldom o = rw (add-one i) (rw (le-ltb m t o) at first_often)

-- ---- whether any was seen

-- A word that is counted was seen.
has_once_more : (l : List ℕ) (w v : ℕ) → w < length l → has v (once_more w l) ≡ (eqb w v || has v l)
unfolding has once_more times
has_once_more [] w v h = absurd (omega arith)
has_once_more (a ∷ l) zero zero h = lt-ltb 0 (suc a) (omega arith)
has_once_more (a ∷ l) zero (suc v) h = rw (eqb-zero-suc v) refl
has_once_more (a ∷ l) (suc w) zero h = rw (eqb-suc-zero w) refl
has_once_more (a ∷ l) (suc w) (suc v) h = rw (eqb-suc-suc w v) (has_once_more l w v (omega arith))

none_of_more : (b : Bool) (n : ℕ) → eqb (if b then suc n else n) 0 ≡ (not b && eqb n 0)
none_of_more true n = eqb-suc-zero n
none_of_more false n = refl

apart : (is had none met : Bool) → (not (is || had) && (none && not met)) ≡ ((not had && none) && not (is || met))
apart true true true met = refl
apart true true false met = refl
apart true false true met = refl
apart true false false met = refl
apart false true none met = refl
apart false false none met = refl

none_once_more : (ws l : List ℕ) (w : ℕ) → w < length l → eqb (how_many ws (once_more w l)) 0 ≡ (eqb (how_many ws l) 0 && not (w is_one_of ws))
unfolding how_many ◌is_one_of◌
none_once_more [] l w h = refl
none_once_more (v ∷ ws) l w h =
    rw (none_of_more (has v (once_more w l)) (how_many ws (once_more w l)), none_of_more (has v l) (how_many ws l), has_once_more l w v h, none_once_more ws l w h)
    (apart (eqb w v) (has v l) (eqb (how_many ws l) 0) (w is_one_of ws))

-- No builtin type word was seen, and the one that is counted is none.
pub no_builtin_once_more : (l : List ℕ) (w : ℕ) → w < length l → no_builtin_word (once_more w l) ≡ (no_builtin_word l && not (is_c_builtin_type_word w))
unfolding no_builtin_word builtin_words is_c_builtin_type_word
no_builtin_once_more l w h = none_once_more builtin_type_words l w h
