-- The items that are shown, copied one behind the other. Assumes nothing.
use Prim.Native.Nat.{ℕ, zero, suc, ◌+◌, ◌-◌, ◌*◌, ◌≤◌, ◌<◌}
use Rattle.std.proofs.Math.Path.{◌≡◌, refl, sym, ap}
use Rattle.std.proofs.Common.{◌∙◌, subst, inl, inr, true≢false}
use Rattle.std.specs.Prelude.{◌⊎◌, Bool, true, false, ◌&&◌, get_or, take, drop, T, eqb}
use Rattle.std.proofs.Math.Logic.{⊎_elim}
use mathlib.Core.List.{List, [], ◌∷◌, ◌++◌, append_assoc, append-nil}
use native.Mathlib.Omega.{arith}
use Rattle.std.proofs.Math.ListN.{length, length-append}
use Rattle.std.proofs.Math.Dec.{leb, leb→le}
use Rattle.std.proofs.Math.Facts.{and_yes}
use Rattle.rows.specs.Laws.Tests.{by_if}
use Rattle.rows.specs.Format.{longest_word}
use Rattle.rows.specs.Records.{in_range}
use Rattle.text.specs.declared.Text.{Text}
use Rattle.text.specs.Puts.{Puts}
use Rattle.text.specs.Laws.Appending.{puts_then, puts_none, puts_as}
use Rattle.rules.specs.Rules.{Item, word, kind, group, list, any, Rule, good_item, good_items, good_word}
use borrow.Author.Tests.{eq-eqb, ne_eqb}
use Rattle.rules.specs.RuleTable.{RuleFound, no_rule, a_rule, ItemFound, no_item, item, any_byte, item_bytes, items_from, item_at, rest_at, front, with_item, most_items, after_two}
use Rattle.rules.specs.Overlaps.{items_bytes, shown, shown_item, longest_shown}
use Rattle.rules.specs.ItemsStand.{ItemsStand, SomeItem, ItemRoom, ItemsRoom, OfItem, OfItems, OfRules, RuleStands, SomeRule, StandsSomewhere, counts}
use Rattle.rules.specs.Laws.Stand.{item_moves, one_list, counts_more, counts_none, any_byte_there, OneLeft, by_case}
use Rattle.rules.specs.Laws.Overlaps.{shown_good}
use Rattle.rules.specs.Laws.Meeting.{TwoRules, two_begin, two_on, items_there, one_rule}
use Rattle.rules.specs.Laws.Pairs.{stand_good}

module _ (table : List ℕ) where
  -- ---- one item

  pub item_put : {item end : ℕ} {before after : Text} → SomeItem table item → OfItem table item (λ i n. end ≡ n)
      → Puts before (take (end - item) (drop item table)) after → OfItem table item (λ i n. Puts before (item_bytes i) after)
  item_put {item} {end = end} some en h i n s = puts_as (ap (λ (m : ℕ). take (m - item) (drop item table)) (en i n s) ∙ s.is) h

  -- ---- all that count

  -- The items so far stand in the buffer, and it has room for those left.
  pub record PutLoop (before : Text) (end first : ℕ) (now : Text) (item : ℕ) : Type 0 where
    pub whole : Rule
    pub whole_stands : ItemsStand table end first whole
    pub inside : end ≤ length table
    pub left : Rule
    pub left_stands : ItemsStand table end item left
    pub done : List ℕ
    pub put : Puts before done now
    pub same : done ++ items_bytes left.items ≡ items_bytes whole.items
    pub room : now.end + length (items_bytes left.items) ≤ length now.bytes.now

  pub put_begins : {before : Text} {end first : ℕ} → ItemsRoom table end first before.end before.bytes.now → PutLoop before end first before first
  put_begins {before} r = record {
    whole = r.some;
    whole_stands = r.stands;
    inside = r.inside;
    left = r.some;
    left_stands = r.stands;
    done = [];
    put = puts_none before;
    same = refl;
    room = r.room;
  }

  module _ {before : Text} {end first : ℕ} {now : Text} {item : ℕ} (p : PutLoop before end first now item) where
    pub put_ends : counts table end item ≡ false → OfItems table end first (λ is. Puts before (items_bytes is) now)
    unfolding items_bytes
    put_ends e r s =
        let none : items_bytes p.left.items ≡ [] = ap (λ (x : Rule). items_bytes x.items) (counts_none table p.left_stands e) in
        puts_as (sym (append-nil p.done) ∙ ap (λ (l : List ℕ). p.done ++ l) (sym none) ∙ p.same ∙ ap (λ (x : Rule). items_bytes x.items) (one_list table p.whole_stands s)) p.put

    module _ (e : counts table end item ≡ true) where
      bytes_left : let o = counts_more table p.left_stands e in items_bytes p.left.items ≡ item_bytes o.the_item ++ items_bytes o.others
      unfolding items_bytes
      bytes_left = let o = counts_more table p.left_stands e in ap items_bytes o.is

      pub put_room : ItemRoom table item now.end now.bytes.now
      put_room =
          let o = counts_more table p.left_stands e in
          record {
            some = record { the_item = o.the_item; next = o.next; stands = o.item_stands };
            room = omega (arith, p.room, ap length bytes_left, length-append (item_bytes o.the_item) (items_bytes o.others));
          }

      pub put_some : SomeItem table item
      put_some = put_room.some

      pub put_again : {end' : ℕ} {after : Text} → OfItem table item (λ i n. Puts now (item_bytes i) after) → OfItem table item (λ i n. end' ≡ n) → PutLoop before end first after end'
      put_again {end'} {after} h en =
          let o = counts_more table p.left_stands e in
          let a = h o.the_item o.next o.item_stands in
          let there : end' ≡ o.next = en o.the_item o.next o.item_stands in
          record {
            whole = p.whole;
            whole_stands = p.whole_stands;
            inside = p.inside;
            left = record { items = o.others; rest = p.left.rest };
            left_stands = subst (λ (n : ℕ). ItemsStand table end n (record { items = o.others; rest = p.left.rest })) (sym there) o.later;
            done = p.done ++ item_bytes o.the_item;
            put = puts_then p.put a;
            same = append_assoc p.done (item_bytes o.the_item) (items_bytes o.others) ∙ ap (λ (l : List ℕ). p.done ++ l) (sym bytes_left) ∙ p.same;
            room = omega (arith, p.room, a.as_long, a.appended.counts, ap length bytes_left, length-append (item_bytes o.the_item) (items_bytes o.others));
          }

      pub put_further : {end' : ℕ} → OfItem table item (λ i n. end' ≡ n) → (item < end') × (end' ≤ end)
      put_further en =
          let o = counts_more table p.left_stands e in
          let there = en o.the_item o.next o.item_stands in
          (omega (arith, there, item_moves table o.item_stands), omega (arith, there, o.within))

  -- The part of the table that holds an item is as long as its bytes.
  pub item_length : {item end : ℕ} (some : SomeItem table item) → OfItem table item (λ i n. end ≡ n)
      → length (take (end - item) (drop item table)) ≡ length (item_bytes some.the_item)
  item_length {item} some en = ap (λ (m : ℕ). length (take (m - item) (drop item table))) (en _ _ some.stands) ∙ ap length some.stands.is

  -- ---- the item that is shown

  module _ {first : ℕ} where
    pub second_shown : {second : ℕ} → get_or table first 0 ≡ any_byte → OfItem table first (λ i n. OfItem table second (λ j m. StandsSomewhere table second (shown_item i j)))
    unfolding shown_item
    second_shown e i n s j m t = record { next = m; stands = rw (any_byte_there table s, eq-eqb (get_or table first 0) any_byte e) t }

    pub first_shown : (second : ℕ) → (get_or table first 0 ≡ any_byte → ⊥) → OfItem table first (λ i n. OfItem table second (λ j m. StandsSomewhere table first (shown_item i j)))
    unfolding shown_item
    first_shown second d i n s j m t = record { next = n; stands = rw (any_byte_there table s, ne_eqb (get_or table first 0) any_byte d) s }

  -- ---- how many bytes

  -- A rule that was found has at most so many items.
  abbrev Few : (most : ℕ) → RuleFound → Type 0
  Few most no_rule = Unit {0}
  Few most (a_rule r) = length r.items ≤ most

  few_in_front : (most : ℕ) (i : Item) (x : RuleFound) → Few most x → Few (suc most) (front i x)
  unfolding front
  few_in_front most i no_rule f = tt
  few_in_front most i (a_rule r) f = omega arith

  few_with : (most : ℕ) (x : ItemFound) (later : ℕ → RuleFound) → ((next : ℕ) → Few most (later next)) → Few (suc most) (with_item x later)
  unfolding with_item
  few_with most no_item later f = tt
  few_with most (item i next) later f = few_in_front most i (later next) (f next)

  few_items : (end most at : ℕ) → Few most (items_from table end most at)
  unfolding items_from
  few_items end zero at = by_if (Few zero) (eqb at end) (λ _. omega arith) (λ _. tt)
  few_items end (suc most) at =
      by_case (Few (suc most)) (eqb at end) (λ _. omega arith) λ _.
      by_case (Few (suc most)) (rest_at table end at) (λ _. omega arith) λ _.
      few_with most (item_at table end at) (λ next. items_from table end most next) (λ next. few_items end most next)

  rule_few : {end at : ℕ} {r : Rule} → RuleStands table end at r → length r.items ≤ most_items
  rule_few {end} {at} s = subst (Few most_items) s.is (few_items end most_items at)

  few_bytes : (i : Item) → T (good_item i) → length (item_bytes i) ≤ after_two + longest_word
  unfolding good_item good_word item_bytes
  few_bytes (word w) g = omega (arith, leb→le (length w) longest_word (and_yes (leb 1 (length w)) (leb (length w) longest_word) (and_yes (leb 1 (length w) && leb (length w) longest_word) (in_range w) g).0).1)
  few_bytes (kind k) g = omega arith
  few_bytes group g = omega arith
  few_bytes list g = omega arith
  few_bytes any g = omega arith

  few_in_all : (is : List Item) → T (good_items is) → length (items_bytes is) ≤ length is * (after_two + longest_word)
  unfolding good_items items_bytes
  few_in_all [] g = omega arith
  few_in_all (i ∷ is) g =
      let u = and_yes (good_item i) (good_items is) g in
      omega (arith, length-append (item_bytes i) (items_bytes is), few_bytes i u.0, few_in_all is u.1)

  shown_few : (most : ℕ) (is js : List Item) → length is ≤ most → length js ≤ most → length (shown is js) ≤ most
  unfolding shown
  shown_few most [] js p q = q
  shown_few most (i ∷ is) [] p q = p
  shown_few zero (i ∷ is) (j ∷ js) p q = absurd (omega arith)
  shown_few (suc most) (i ∷ is) (j ∷ js) p q = omega (arith, shown_few most is js (omega arith) (omega arith))

  pub shown_bound : {end at end' at' : ℕ} {p q : Rule} → RuleStands table end at p → RuleStands table end' at' q → length (items_bytes (shown p.items q.items)) ≤ longest_shown
  shown_bound {p = p} {q = q} s t =
      let good = shown_good p.items q.items (stand_good table (items_there table s)) (stand_good table (items_there table t)) in
      let few = shown_few most_items p.items q.items (rule_few s) (rule_few t) in
      omega (arith, few_in_all (shown p.items q.items) good, few)

  -- ---- two rules

  -- The items so far stand in the buffer, and it has room for those left.
  module _ (before : Text) (a a' b b' : ℕ) where
    pub record ShowLoop (now : Text) (x y : ℕ) : Type 0 where
      pub rules : TwoRules table a a' b b' x y
      pub done : List ℕ
      pub put : Puts before done now
      pub same : done ++ items_bytes (shown rules.left.items rules.left'.items) ≡ items_bytes (shown rules.first.items rules.second.items)
      pub room : now.end + length (items_bytes (shown rules.left.items rules.left'.items)) ≤ length now.bytes.now

    pub show_begins : SomeRule table a' a → SomeRule table b' b → before.end + longest_shown ≤ length before.bytes.now → ShowLoop before a b
    show_begins s t p = record {
      rules = two_begin table a a' b b' s t;
      done = [];
      put = puts_none before;
      same = refl;
      room = omega (arith, shown_bound s.stands t.stands, p);
    }

    module _ {now : Text} {x y : ℕ} (l : ShowLoop now x y) (e : (counts table a' x && counts table b' y) ≡ true) where
      both_true : (c d : Bool) → (c && d) ≡ true → (c ≡ true) × (d ≡ true)
      both_true true d h = (refl, h)
      both_true false d h = absurd (true≢false (sym h))

      one : OneLeft table a' x l.rules.left
      one = counts_more table l.rules.items (both_true (counts table a' x) (counts table b' y) e).0

      two : OneLeft table b' y l.rules.left'
      two = counts_more table l.rules.items' (both_true (counts table a' x) (counts table b' y) e).1

      pub show_first : SomeItem table x
      show_first = record { the_item = one.the_item; next = one.next; stands = one.item_stands }

      pub show_second : SomeItem table y
      show_second = record { the_item = two.the_item; next = two.next; stands = two.item_stands }

      bytes_shown : items_bytes (shown l.rules.left.items l.rules.left'.items) ≡ item_bytes (shown_item one.the_item two.the_item) ++ items_bytes (shown one.others two.others)
      unfolding items_bytes shown
      bytes_shown = ap (λ (z : List Item). items_bytes (shown z l.rules.left'.items)) one.is ∙ ap (λ (z : List Item). items_bytes (shown (one.the_item ∷ one.others) z)) two.is

      module _ {it : ℕ} (h : OfItem table x (λ i n. OfItem table y (λ j m. StandsSomewhere table it (shown_item i j)))) where
        somewhere : StandsSomewhere table it (shown_item one.the_item two.the_item)
        somewhere = h _ _ one.item_stands _ _ two.item_stands

        pub show_room : ItemRoom table it now.end now.bytes.now
        show_room = record {
          some = record { the_item = shown_item one.the_item two.the_item; next = somewhere.next; stands = somewhere.stands };
          room = omega (arith, l.room, ap length bytes_shown, length-append (item_bytes (shown_item one.the_item two.the_item)) (items_bytes (shown one.others two.others)));
        }

        pub show_again : {x' y' : ℕ} {after : Text} → OfItem table it (λ i n. Puts now (item_bytes i) after) → OfItem table x (λ i n. x' ≡ n) → OfItem table y (λ i n. y' ≡ n)
            → ShowLoop after x' y'
        show_again {x'} {y'} {after} put en en' =
            let u = put _ _ somewhere.stands in
            record {
              rules = two_on table a a' b b' l.rules one two en en';
              done = l.done ++ item_bytes (shown_item one.the_item two.the_item);
              put = puts_then l.put u;
              same =
                  append_assoc l.done (item_bytes (shown_item one.the_item two.the_item)) (items_bytes (shown one.others two.others))
                  ∙ ap (λ (z : List ℕ). l.done ++ z) (sym bytes_shown)
                  ∙ l.same;
              room = omega (arith, l.room, u.as_long, u.appended.counts, ap length bytes_shown, length-append (item_bytes (shown_item one.the_item two.the_item)) (items_bytes (shown one.others two.others)));
            }

      pub show_further : {x' : ℕ} → OfItem table x (λ i n. x' ≡ n) → (x < x') × (x' ≤ a')
      show_further en = let there = en _ _ one.item_stands in (omega (arith, there, item_moves table one.item_stands), omega (arith, there, one.within))

    -- Where one rule has no item left, the other's follow.
    joined : (is js : List Item) → (is ≡ []) ⊎ (js ≡ []) → items_bytes (shown is js) ≡ items_bytes is ++ items_bytes js
    unfolding shown items_bytes
    joined [] js h = refl
    joined (i ∷ is) [] h = sym (append-nil (items_bytes (i ∷ is)))
    joined (i ∷ is) (j ∷ js) h = ⊎_elim (λ e. absurd (some i is e)) (λ e. absurd (some j js e)) h
      where
        some : (k : Item) (ks : List Item) → k ∷ ks ≡ [] → ⊥
        some k ks e = let clash : ◌≡◌ {A = ℕ} (suc (length ks)) 0 = ap length e in absurd (omega (arith, clash))

    module _ {now : Text} {x y : ℕ} (l : ShowLoop now x y) (e : (counts table a' x && counts table b' y) ≡ false) where
      one_empty : (l.rules.left.items ≡ []) ⊎ (l.rules.left'.items ≡ [])
      one_empty = by (counts table a' x) refl
        where
          by : (c : Bool) → counts table a' x ≡ c → (l.rules.left.items ≡ []) ⊎ (l.rules.left'.items ≡ [])
          by true q = inr (ap (λ (z : Rule). z.items) (counts_none table l.rules.items' (sym (ap (λ (c : Bool). c && counts table b' y) q) ∙ e)))
          by false q = inl (ap (λ (z : Rule). z.items) (counts_none table l.rules.items q))

      follow : items_bytes (shown l.rules.left.items l.rules.left'.items) ≡ items_bytes l.rules.left.items ++ items_bytes l.rules.left'.items
      follow = joined l.rules.left.items l.rules.left'.items one_empty

      pub show_first_room : ItemsRoom table a' x now.end now.bytes.now
      show_first_room = record {
        some = l.rules.left;
        stands = l.rules.items;
        inside = l.rules.first_stands.inside;
        room = omega (arith, l.room, ap length follow, length-append (items_bytes l.rules.left.items) (items_bytes l.rules.left'.items));
      }

      module _ {mid : Text} (h : OfItems table a' x (λ is. Puts now (items_bytes is) mid)) where
        pub show_second_room : ItemsRoom table b' y mid.end mid.bytes.now
        show_second_room = let u = h l.rules.left l.rules.items in record {
          some = l.rules.left';
          stands = l.rules.items';
          inside = l.rules.second_stands.inside;
          room = omega (arith, l.room, u.as_long, u.appended.counts, ap length follow, length-append (items_bytes l.rules.left.items) (items_bytes l.rules.left'.items));
        }

        pub show_ends : {after : Text} → OfItems table b' y (λ js. Puts mid (items_bytes js) after)
            → OfRules table a' a b' b (λ p q. Puts before (items_bytes (shown p.items q.items)) after)
        show_ends {after} h' = record {
          says = λ p q s t.
              puts_as
              (append_assoc l.done (items_bytes l.rules.left.items) (items_bytes l.rules.left'.items)
              ∙ ap (λ (z : List ℕ). l.done ++ z) (sym follow)
              ∙ l.same
              ∙ ap (λ (z : Rule). items_bytes (shown z.items l.rules.second.items)) (one_rule table l.rules.first_stands s)
              ∙ ap (λ (z : Rule). items_bytes (shown p.items z.items)) (one_rule table l.rules.second_stands t))
              (puts_then (puts_then l.put (h l.rules.left l.rules.items)) (h' l.rules.left' l.rules.items'));
        }
