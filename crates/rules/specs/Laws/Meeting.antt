-- The walk over the items of two rules that tells whether they overlap. Assumes nothing.
use Rattle.std.specs.Prelude.{ℕ, ◌-◌, ◌≤◌, ◌<◌, ◌≡◌, Bool, not, ◌||◌, get_or, take, drop, ltb}
use Rattle.std.proofs.Math.Path.{refl, sym}
use Rattle.std.proofs.Common.{ap, ◌∙◌, subst, arith}
use Rattle.std.proofs.Math.Bool.{true, false}
use mathlib.Core.List.{List, [], ◌∷◌}
use borrow.Author.Tests.{le-ltb, lt-ltb, eq-eqb, ne_eqb}
use Rattle.rows.specs.Words.{same_exactly}
use Rattle.rules.specs.Rules.{Item, Rule}
use Rattle.rules.specs.RuleTable.{RuleFound, no_rule, a_rule, most_items, any_byte, item_bytes}
use Rattle.rules.specs.Overlaps.{is_any}
use Rattle.rules.specs.Meeting.{agree, meets, rules_meet}
use Rattle.rules.specs.ItemsStand.{ItemStands, ItemsStand, SomeItem, RuleStands, SomeRule, OfItem, OfRules, counts}
use Rattle.rules.specs.Laws.Stand.{rule_stands, OneLeft, counts_more, counts_none, any_byte_there, item_moves}

-- The rule that was found.
abbrev rule_in : RuleFound → Rule → Rule
rule_in no_rule r = r
rule_in (a_rule r) r' = r

-- ---- what is left of two rules

module _ (p q : Rule) where
  pub rest_meets : p ≡ record { items = []; rest = true } → true ≡ rules_meet p q
  unfolding rules_meet meets
  rest_meets e = rw e (with_rest q.items)
    where
      with_rest : (js : List Item) → true ≡ meets true q.rest [] js
      with_rest [] = refl
      with_rest (j ∷ js) = refl

  pub none_meets_none : p.items ≡ [] → q.items ≡ [] → true ≡ rules_meet p q
  unfolding rules_meet meets
  none_meets_none e f = rw (e, f) refl

  pub none_meets_more : {j : Item} {js : List Item} → p ≡ record { items = []; rest = false } → q.items ≡ j ∷ js → false ≡ rules_meet p q
  unfolding rules_meet meets
  none_meets_more e f = rw (e, f) refl

  pub more_meets_none : {i : Item} {is : List Item} {r : Bool} → p.items ≡ i ∷ is → q ≡ record { items = []; rest = r } → r ≡ rules_meet p q
  unfolding rules_meet meets
  more_meets_none e f = rw (e, f) refl

  module _ {i j : Item} {is js : List Item} (e : p.items ≡ i ∷ is) (f : q.items ≡ j ∷ js) where
    pub both_more : agree i j ≡ false → rules_meet p q ≡ false
    unfolding rules_meet meets
    both_more g = rw (e, f, g) refl

    pub both_on : agree i j ≡ true → rules_meet p q ≡ rules_meet (record { items = is; rest = p.rest }) (record { items = js; rest = q.rest })
    unfolding rules_meet meets
    both_on g = rw (e, f, g) refl

module _ (table : List ℕ) where
  -- One rule stands at a byte offset.
  pub one_rule : {end at : ℕ} {p q : Rule} → RuleStands table end at p → RuleStands table end at q → p ≡ q
  one_rule {p = p} {q = q} s s' = ap (λ (x : RuleFound). rule_in x p) (sym s.is ∙ s'.is)

  pub items_there : {end at : ℕ} {p : Rule} → RuleStands table end at p → ItemsStand table end at p
  items_there s = rule_stands table _ s.inside most_items _ s.within s.is

  -- ---- two items

  module _ {x x' y y' : ℕ} {i j : Item} (s : ItemStands table x i x') (t : ItemStands table y j y') where
    pub first_any : get_or table x 0 ≡ any_byte → true ≡ agree i j
    unfolding agree
    first_any e = sym (rw (any_byte_there table s, eq-eqb (get_or table x 0) any_byte e) refl)

    pub second_any : get_or table y 0 ≡ any_byte → true ≡ agree i j
    unfolding agree
    second_any e = sym (rw (any_byte_there table t, eq-eqb (get_or table y 0) any_byte e) (or_true (is_any i)))
      where
        or_true : (b : Bool) → (b || true || same_exactly (item_bytes i) (item_bytes j)) ≡ true
        or_true true = refl
        or_true false = refl

    pub by_bytes : (get_or table x 0 ≡ any_byte → ⊥) → (get_or table y 0 ≡ any_byte → ⊥)
        → same_exactly (take (x' - x) (drop x table)) (take (y' - y) (drop y table)) ≡ agree i j
    unfolding agree
    by_bytes d d' = rw (s.is, t.is, any_byte_there table s, any_byte_there table t, ne_eqb (get_or table x 0) any_byte d, ne_eqb (get_or table y 0) any_byte d') refl

  -- ---- two rules

  module _ (a a' b b' : ℕ) where
    -- The two rules that stand there, and what is left of each from x and y on.
    pub record TwoRules (x y : ℕ) : Type 0 where
      pub first : Rule
      pub second : Rule
      pub first_stands : RuleStands table a' a first
      pub second_stands : RuleStands table b' b second
      pub left : Rule
      pub left' : Rule
      pub items : ItemsStand table a' x left
      pub items' : ItemsStand table b' y left'

    abbrev pub two_begin : SomeRule table a' a → SomeRule table b' b → TwoRules a b
    two_begin s t = record {
      first = s.rule;
      second = t.rule;
      first_stands = s.stands;
      second_stands = t.stands;
      left = s.rule;
      left' = t.rule;
      items = items_there s.stands;
      items' = items_there t.stands;
    }

    -- An item of each further.
    abbrev pub two_on : {x y x' y' : ℕ} (r : TwoRules x y) (o : OneLeft table a' x r.left) (o' : OneLeft table b' y r.left') → OfItem table x (λ i n. x' ≡ n)
        → OfItem table y (λ i n. y' ≡ n) → TwoRules x' y'
    two_on r o o' en en' = record {
      first = r.first;
      second = r.second;
      first_stands = r.first_stands;
      second_stands = r.second_stands;
      left = record { items = o.others; rest = r.left.rest };
      left' = record { items = o'.others; rest = r.left'.rest };
      items = subst (λ (n : ℕ). ItemsStand table a' n (record { items = o.others; rest = r.left.rest })) (sym (en _ _ o.item_stands)) o.later;
      items' = subst (λ (n : ℕ). ItemsStand table b' n (record { items = o'.others; rest = r.left'.rest })) (sym (en' _ _ o'.item_stands)) o'.later;
    }

    -- The items left decide.
    pub record MeetLoop (x y : ℕ) : Type 0 where
      pub rules : TwoRules x y
      pub same : rules_meet rules.first rules.second ≡ rules_meet rules.left rules.left'

    pub meet_begins : SomeRule table a' a → SomeRule table b' b → MeetLoop a b
    meet_begins s t = record { rules = two_begin s t; same = refl }

    -- What the walk finds out is said of the rules that stand there.
    pub meet_says : {x y : ℕ} {r : Bool} (m : MeetLoop x y) → r ≡ rules_meet m.rules.left m.rules.left' → OfRules table a' a b' b (λ p q. r ≡ rules_meet p q)
    meet_says m e = record {
      says = λ p q s t. e ∙ sym m.same ∙ ap (λ (z : Rule). rules_meet z m.rules.second) (one_rule m.rules.first_stands s) ∙ ap (λ (z : Rule). rules_meet p z) (one_rule m.rules.second_stands t);
    }

    module _ {x y : ℕ} (m : MeetLoop x y) where
      -- The first rule has no item left, but "the rest";
      pub first_rest : counts table a' x ≡ false → x < a' → OfRules table a' a b' b (λ p q. true ≡ rules_meet p q)
      first_rest e p = meet_says m (rest_meets m.rules.left m.rules.left' (counts_none table m.rules.items e ∙ ap (λ (z : Bool). record { items = []; rest = z }) (lt-ltb x a' p)))

      -- or nothing: then the second has no item left either.
      pub first_ends : counts table a' x ≡ false → a' ≤ x → (c : Bool) → c ≡ counts table b' y → OfRules table a' a b' b (λ p q. not c ≡ rules_meet p q)
      first_ends e p c k = meet_says m (ends c (sym k))
        where
          nothing : m.rules.left ≡ record { items = []; rest = false }
          nothing = counts_none table m.rules.items e ∙ ap (λ (z : Bool). record { items = []; rest = z }) (le-ltb x a' p)

          ends : (c : Bool) → counts table b' y ≡ c → not c ≡ rules_meet m.rules.left m.rules.left'
          ends true q = let o = counts_more table m.rules.items' q in none_meets_more m.rules.left m.rules.left' nothing o.is
          ends false q = none_meets_none m.rules.left m.rules.left' (ap (λ (z : Rule). z.items) nothing) (ap (λ (z : Rule). z.items) (counts_none table m.rules.items' q))

      module _ (e : counts table a' x ≡ true) where
        -- The second rule has no item left: "the rest", or nothing.
        pub second_ends : counts table b' y ≡ false → OfRules table a' a b' b (λ p q. ltb y b' ≡ rules_meet p q)
        second_ends k = let o = counts_more table m.rules.items e in meet_says m (more_meets_none m.rules.left m.rules.left' o.is (counts_none table m.rules.items' k))

        module _ (k : counts table b' y ≡ true) where
          pub some_first : SomeItem table x
          some_first = let o = counts_more table m.rules.items e in record { the_item = o.the_item; next = o.next; stands = o.item_stands }

          pub some_second : SomeItem table y
          some_second = let o = counts_more table m.rules.items' k in record { the_item = o.the_item; next = o.next; stands = o.item_stands }

          module _ {r : Bool} (h : OfItem table x (λ i n. OfItem table y (λ j n'. r ≡ agree i j))) where
            pub disagree : r ≡ false → OfRules table a' a b' b (λ p q. false ≡ rules_meet p q)
            disagree q =
                let o = counts_more table m.rules.items e in
                let o' = counts_more table m.rules.items' k in
                meet_says m (sym (both_more m.rules.left m.rules.left' o.is o'.is (sym (h _ _ o.item_stands _ _ o'.item_stands) ∙ q)))

            pub meet_again : r ≡ true → {x' y' : ℕ} → OfItem table x (λ i n. x' ≡ n) → OfItem table y (λ j n. y' ≡ n) → MeetLoop x' y'
            meet_again q en en' =
                let o = counts_more table m.rules.items e in
                let o' = counts_more table m.rules.items' k in
                record {
                  rules = two_on m.rules o o' en en';
                  same = m.same ∙ both_on m.rules.left m.rules.left' o.is o'.is (sym (h _ _ o.item_stands _ _ o'.item_stands) ∙ q);
                }

            pub meet_further : {x' : ℕ} → OfItem table x (λ i n. x' ≡ n) → (x < x') × (x' ≤ a')
            meet_further en =
                let o = counts_more table m.rules.items e in
                let q = en _ _ o.item_stands in
                (omega (arith, q, item_moves table o.item_stands), omega (arith, q, o.within))
