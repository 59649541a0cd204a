-- The search for the next pair of rules that overlap. Assumes nothing.
use Rattle.std.specs.Prelude.{ℕ, ◌+◌, ◌≤◌, ◌<◌, max, ◌≡◌, refl, ◌⊎◌, Bool, true, false, List, get_or, T, Option, Some, None}
use Rattle.std.proofs.Common.{sym, ap, ◌∙◌, subst, inl, inr, ⊎_elim, arith, lt_of_not-le}
use Rattle.std.proofs.Math.Decide.{dec_le}
use Rattle.std.proofs.Math.Facts.{yes_and}
use Rattle.rules.specs.Rules.{Rule, good_item, good_items}
use Rattle.rules.specs.RuleTable.{TableFound, no_table, a_table, at_items}
use Rattle.rules.specs.Overlaps.{rule, After, Pair, FirstAfter, NoneAfter}
use Rattle.rules.specs.Meeting.{rules_meet}
use Rattle.rules.specs.ItemsStand.{ItemsStand, no_more, the_rest, one_more, RuleStands, SomeRule, OfRules}
use Rattle.rules.specs.TableStands.{RulesRead, OfTable, places_meet, FirstLater, LaterTold}
use Rattle.rules.specs.Laws.Overlaps.{overlap_found, overlap_meets}
use Rattle.rules.specs.Laws.Meeting.{items_there}

-- The rules that were found.
abbrev rules_in : TableFound → List Rule → List Rule
rules_in no_table rs = rs
rules_in (a_table rs) rs' = rs

so : {b : Bool} → b ≡ true → T b
so e = subst T (sym e) tt

not_so : {b : Bool} → T b → b ≡ false → ⊥
not_so t e = subst T e t

module _ (table : List ℕ) where
  -- The items of a rule that stands in a table are of the form.
  pub stand_good : {end at : ℕ} {r : Rule} → ItemsStand table end at r → T (good_items r.items)
  unfolding good_items
  stand_good (no_more e) = tt
  stand_good (the_rest b e) = tt
  stand_good (one_more {i = i} s l h) = yes_and (good_item i) _ s.good (stand_good h)

  module _ {count : ℕ} {starts : List ℕ} (t : RulesRead table count starts) where
    abbrev rs : List Rule
    rs = t.rules

    -- A table has one list of rules.
    pub of_table : {P : List Rule → Type 0} → P rs → OfTable table P
    of_table {P} h = record { says = λ rs' e. subst P (ap (λ (x : TableFound). rules_in x rs) (sym t.is ∙ e)) h }

    pub stands_at : (k : ℕ) → k < count → RuleStands table (get_or starts (k + 1) 0) (get_or starts k 0 + at_items) (rule rs k)
    stands_at k p = t.stand.each k (omega (arith, t.counted, p))

    pub some_at : (k : ℕ) → k < count → SomeRule table (get_or starts (k + 1) 0) (get_or starts k 0 + at_items)
    some_at k p = record { rule = rule rs k; stands = stands_at k p }

    pub meet_at : (i j : ℕ) → i < count → j < count → {r : Bool}
        → OfRules table (get_or starts (i + 1) 0) (get_or starts i 0 + at_items) (get_or starts (j + 1) 0) (get_or starts j 0 + at_items) (λ p q. r ≡ rules_meet p q)
        → OfTable table (λ rs'. r ≡ places_meet rs' i j)
    meet_at i j p q {r} o = of_table {P = λ rs'. r ≡ places_meet rs' i j} (o.says (rule rs i) (rule rs j) (stands_at i p) (stands_at j q))

    good_at : (k : ℕ) → k < count → T (good_items (rule rs k).items)
    good_at k p = stand_good (items_there table (stands_at k p))

    -- ---- overlap and the walk over items

    pair_of : (i j : ℕ) → i < j → j < count → places_meet rs i j ≡ true → Pair rs i j
    pair_of i j p q e = record {
      in_order = p;
      in_table = omega (arith, t.counted, q);
      overlap = overlap_found (rule rs i) (rule rs j) (good_at i (omega arith)) (good_at j q) (so e);
    }

    pair_meets : {i j : ℕ} → Pair rs i j → places_meet rs i j ≡ false → ⊥
    pair_meets {i} {j} p e = not_so (overlap_meets (rule rs i) (rule rs j) p.overlap) e

    -- ---- the loop over later places

    module _ (i from : ℕ) where
      pub record LaterLoop (j : ℕ) : Type 0 where
        pub past : from ≤ j
        pub none : (k : ℕ) → from ≤ k → k < j → places_meet rs i k ≡ false

      pub later_begins : LaterLoop from
      later_begins = record { past = omega arith; none = λ k p q. absurd (omega arith) }

      module _ {j : ℕ} (l : LaterLoop j) where
        meets_told : {r : Bool} → OfTable table (λ rs'. r ≡ places_meet rs' i j) → r ≡ places_meet rs i j
        meets_told o = o.says rs t.is

        pub later_found : j < count → {r : Bool} → OfTable table (λ rs'. r ≡ places_meet rs' i j) → r ≡ true → OfTable table (λ rs'. LaterTold rs' i from count (Some j))
        later_found p o e = of_table {P = λ rs'. LaterTold rs' i from count (Some j)} (
          p,
          record {
            bound = omega arith;
            none_before = l.none;
            found = λ _. (l.past, sym (meets_told o) ∙ e);
          },
        )

        pub later_again : {r : Bool} → OfTable table (λ rs'. r ≡ places_meet rs' i j) → r ≡ false → LaterLoop (j + 1)
        later_again o e = record {
          past = omega (arith, l.past);
          none = λ k p q. elim (dec_le j k) [
            | yes h ↦ let last : j ≡ k = omega arith in subst (λ (m : ℕ). places_meet rs i m ≡ false) last (sym (meets_told o) ∙ e)
            | no h ↦ l.none k p (lt_of_not-le h)
          ];
        }

        pub later_ends : count ≤ j → OfTable table (λ rs'. LaterTold rs' i from count None)
        later_ends p = of_table {P = λ rs'. LaterTold rs' i from count None} (record {
          bound = omega arith;
          none_before = λ k q h. l.none k q (omega arith);
          found = λ h. absurd (omega arith);
        })

    -- ---- the loop over earlier places

    module _ (e l : ℕ) where
      -- What comes after (e, l) is not before (i, from), and what is not before (i, from) comes after (e, l).
      pub record PairLoop (i from : ℕ) : Type 0 where
        pub past : e ≤ i
        pub sound : (j : ℕ) → from ≤ j → After e l i j
        pub complete : (i' j' : ℕ) → Pair rs i' j' → After e l i' j' → (i < i') ⊎ ((i ≡ i') × (from ≤ j'))

      pub pairs_begin : PairLoop e (l + 1)
      pairs_begin = record {
        past = omega arith;
        sound = λ j p. inr (refl, omega arith);
        complete = λ i' j' p a. ⊎_elim (λ h. inl h) (λ h. inr (h.0, omega (arith, h.1))) a;
      }

      module _ {i from : ℕ} (b : PairLoop i from) where
        -- The later place of a pair is behind the earlier.
        pub pairs_behind : {from' : ℕ} → from' ≡ max (i + 1) from → PairLoop i from'
        pairs_behind q = record {
          past = b.past;
          sound = λ j h. b.sound j (omega arith);
          complete = λ i' j' pr a. ⊎_elim (λ h. inl h) (λ h. inr (h.0, omega (arith, h.0, h.1, pr.in_order))) (b.complete i' j' pr a);
        }

        none_there : {r : ℕ} → FirstLater rs i from count r → (j : ℕ) → from ≤ j → j < r → Pair rs i j → ⊥
        none_there told j p q pr = pair_meets pr (told.none_before j p q)

        module _ (behind : i < from) {found : Option ℕ} (o : OfTable table (λ rs'. LaterTold rs' i from count found)) where
          pub pair_found : {r : ℕ} → found ≡ Some r → OfTable table (λ rs'. FirstAfter rs' e l i r)
          pair_found {r} s =
              let (p, told) = subst (λ (x : Option ℕ). LaterTold rs i from count x) s (o.says rs t.is) in
              let f = told.found p in
              of_table {P = λ rs'. FirstAfter rs' e l i r} (record {
                pair = pair_of i r (omega (arith, f.0)) p f.1;
                after = b.sound r f.0;
                first = λ i' j' pr a. ⊎_elim (λ h. inl h) (λ h. inr (h.0, not_before told i' j' pr h.0 h.1)) (b.complete i' j' pr a);
              })
            where
              not_before : FirstLater rs i from count r → (i' j' : ℕ) → Pair rs i' j' → i ≡ i' → from ≤ j' → r ≤ j'
              not_before told i' j' pr q h = elim (dec_le r j') [
                | yes g ↦ g
                | no g ↦ absurd (none_there told j' h (lt_of_not-le g) (subst (λ (m : ℕ). Pair rs m j') (sym q) pr))
              ]

          pub pairs_again : found ≡ None → PairLoop (i + 1) 0
          pairs_again s = record {
            past = omega (arith, b.past);
            sound = λ j q. inl (omega (arith, b.past));
            complete = λ i' j' pr a. ⊎_elim (λ h. next i' j' h) (λ h. absurd (none_there (subst (λ (x : Option ℕ). LaterTold rs i from count x) s (o.says rs t.is)) j' h.1 (omega (arith, t.counted, pr.in_table)) (subst (λ (m : ℕ). Pair rs m j') (sym h.0) pr))) (b.complete i' j' pr a);
          }
            where
              next : (i' j' : ℕ) → i < i' → (i + 1 < i') ⊎ ((i + 1 ≡ i') × (0 ≤ j'))
              next i' j' h = elim (dec_le i' (i + 1)) [
                | yes g ↦ inr (omega arith, omega arith)
                | no g ↦ inl (lt_of_not-le g)
              ]

        pub pairs_end : count ≤ i → OfTable table (λ rs'. NoneAfter rs' e l)
        pairs_end p = of_table {P = λ rs'. NoneAfter rs' e l} (λ i' j' pr a.
            ⊎_elim (λ h. absurd (omega (arith, h, t.counted, pr.in_order, pr.in_table))) (λ h. absurd (omega (arith, h.0, t.counted, pr.in_order, pr.in_table))) (b.complete i' j' pr a))
