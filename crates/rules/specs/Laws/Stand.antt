-- What stands in a table that was read: document 02, C-11. Assumes nothing.
use Prim.Native.Nat.{ℕ, zero, suc, ◌+◌, ◌-◌, ◌≤◌, ◌<◌}
use Rattle.std.specs.Prelude.{◌≡◌, ◌≢◌, Bool, true, false, not, ◌&&◌, List, [], ◌∷◌, ◌++◌, drop, T, leb, ltb, if◌then◌else◌}
use Rattle.std.proofs.Math.Path.{refl, ap}
use Rattle.std.proofs.Common.{sym, ◌∙◌, subst, true≢false, add-one, length-take, length-drop, take-append-drop, drop-cons, get_or-take, get_or-drop, ltb→lt, lt-ltb, ltb-true, ltb-false}
use native.Mathlib.Omega.{arith}
use Rattle.std.proofs.Math.Numerals.{add-two}
use Rattle.std.proofs.Math.ListN.{length, get_or, take}
use Rattle.std.proofs.Math.Seq.{take-append_seam}
use Rattle.std.proofs.Math.Dec.{eqb, leb→le, eqb→eq}
use Rattle.std.proofs.Math.Facts.{and_yes, eqb_no}
use Rattle.rows.specs.Laws.Tests.{by_if}
use Rattle.rules.specs.Rules.{Item, word, kind, group, list, any, Rule, good_item, good_word, good_kind}
use Rattle.rules.specs.RuleTable.{ItemFound, no_item, item, RuleFound, no_rule, a_rule, word_byte, kind_byte, group_byte, list_byte, any_byte, rest_byte, after_two, item_bytes, word_item, kind_item, item_at, rest_at, items_from, front, with_item}
use Rattle.rules.specs.Overlaps.{is_any}
use Rattle.rules.specs.ItemsStand.{ItemStands, ItemsStand, no_more, the_rest, one_more, counts}

-- What holds of both cases, each where its test says so, holds of a choice.
pub by_case : (P : RuleFound → Type 0) (b : Bool) {x y : RuleFound} → (T b → P x) → (T (not b) → P y) → P (elim b as (λ _. RuleFound) [ true ↦ x | false ↦ y ])
by_case P true f g = f tt
by_case P false f g = g tt

module _ (table : List ℕ) where
  -- ---- the bytes in front

  one_front : (at : ℕ) → at < length table → take (at + 1 - at) (drop at table) ≡ get_or table at 0 ∷ []
  one_front at p =
      let size : at + 1 - at ≡ 1 = omega arith in
      rw (size, drop-cons table at 0 p) refl

  two_front : (at n : ℕ) → at + after_two ≤ length table → take (at + after_two + n - at) (drop at table) ≡ get_or table at 0 ∷ get_or table (at + 1) 0 ∷ take n (drop (at + after_two) table)
  two_front at n p =
      let size : at + after_two + n - at ≡ suc (suc n) = omega arith in
      rw (size, drop-cons table at 0 (omega arith), drop-cons table (suc at) 0 (omega arith), add-one at, add-two at) refl

  -- ---- an item found

  -- What is found stands there, within the record.
  abbrev Stood : (end at : ℕ) → ItemFound → Type 0
  Stood end at no_item = Unit {0}
  Stood end at (item i next) = ItemStands table at i next × (at < next) × (next ≤ end)

  module _ (end at : ℕ) (before : at < end) (whole : end ≤ length table) where
    plain_stands : (i : Item) (b : ℕ) → item_bytes i ≡ b ∷ [] → T (good_item i) → T (eqb (get_or table at 0) b) → Stood end at (item i (at + 1))
    plain_stands i b e g t = (
      record {
        good = g;
        ends = rw e refl;
        inside = omega arith;
        is = one_front at (omega arith) ∙ ap (λ (x : ℕ). x ∷ []) (eqb→eq (get_or table at 0) b t) ∙ sym e;
      },
      omega arith,
      omega arith,
    )

    kind_stands : T (eqb (get_or table at 0) kind_byte) → Stood end at (kind_item table end at)
    unfolding kind_item item_bytes good_item
    kind_stands b =
        by_if (Stood end at) (leb (at + after_two) end && good_kind (get_or table (at + 1) 0))
        (λ t.
        let u = and_yes (leb (at + after_two) end) _ t in
        let fit = leb→le (at + after_two) end u.0 in (
          record {
            good = u.1;
            ends = refl;
            inside = omega (arith, fit);
            is = rw (← add_zero' (at + after_two)) (two_front at 0 (omega (arith, fit))) ∙ ap (λ (x : ℕ). x ∷ get_or table (at + 1) 0 ∷ []) (eqb→eq (get_or table at 0) kind_byte b);
          },
          omega (arith, fit),
          fit,
        ))
        (λ _. tt)
      where
        add_zero' : (n : ℕ) → n + 0 ≡ n
        add_zero' n = omega arith

    word_stands : T (eqb (get_or table at 0) word_byte) → Stood end at (word_item table end at)
    unfolding word_item item_bytes good_item
    word_stands b =
        by_if (Stood end at) (leb (at + after_two + get_or table (at + 1) 0) end && good_word (take (get_or table (at + 1) 0) (drop (at + after_two) table)))
        (λ t.
        let u = and_yes (leb (at + after_two + get_or table (at + 1) 0) end) _ t in
        let fit = leb→le (at + after_two + get_or table (at + 1) 0) end u.0 in
        let long : length (take (get_or table (at + 1) 0) (drop (at + after_two) table)) ≡ get_or table (at + 1) 0 = simp (length-take, length-drop) (omega (arith, fit, whole)) in (
          record {
            good = u.1;
            ends = rw long (omega arith);
            inside = omega (arith, fit);
            is = two_front at (get_or table (at + 1) 0) (omega (arith, fit)) ∙ rw (long, eqb→eq (get_or table at 0) word_byte b) refl;
          },
          omega (arith, fit),
          fit,
        ))
        (λ _. tt)

    item_stood : Stood end at (item_at table end at)
    unfolding item_at item_bytes good_item
    item_stood =
        by_if (Stood end at) (eqb (get_or table at 0) word_byte) word_stands λ _.
        by_if (Stood end at) (eqb (get_or table at 0) kind_byte) kind_stands λ _.
        by_if (Stood end at) (eqb (get_or table at 0) group_byte) (plain_stands group group_byte refl tt) λ _.
        by_if (Stood end at) (eqb (get_or table at 0) list_byte) (plain_stands list list_byte refl tt) λ _.
        by_if (Stood end at) (eqb (get_or table at 0) any_byte) (plain_stands any any_byte refl tt) λ _. tt

    pub item_found : {i : Item} {next : ℕ} → item_at table end at ≡ item i next → ItemStands table at i next × (at < next) × (next ≤ end)
    item_found e = subst (Stood end at) e item_stood

  -- ---- a rule found

  module _ (end : ℕ) (whole : end ≤ length table) where
    abbrev StoodRule : (at : ℕ) → RuleFound → Type 0
    StoodRule at no_rule = Unit {0}
    StoodRule at (a_rule r) = ItemsStand table end at r

    in_front : (at next : ℕ) (i : Item) → ItemStands table at i next → next ≤ end → (x : RuleFound) → StoodRule next x → StoodRule at (front i x)
    unfolding front
    in_front at next i s l no_rule h = tt
    in_front at next i s l (a_rule r) h = one_more s l h

    with_found : (at : ℕ) (x : ItemFound) → Stood end at x → (later : ℕ → RuleFound) → ((next : ℕ) → next ≤ end → StoodRule next (later next)) → StoodRule at (with_item x later)
    unfolding with_item
    with_found at no_item f later h = tt
    with_found at (item i next) f later h = in_front at next i f.0 f.2 (later next) (h next f.2)

    pub items_stood : (most at : ℕ) → at ≤ end → StoodRule at (items_from table end most at)
    unfolding items_from rest_at
    items_stood zero at p = by_if (StoodRule at) (eqb at end) (λ t. no_more (eqb→eq at end t)) (λ _. tt)
    items_stood (suc most) at p =
        by_case (StoodRule at) (eqb at end) (λ t. no_more (eqb→eq at end t)) λ no_end.
        by_case (StoodRule at) (eqb (get_or table at 0) rest_byte && eqb (at + 1) end)
        (λ t. let u = and_yes (eqb (get_or table at 0) rest_byte) _ t in the_rest (eqb→eq (get_or table at 0) rest_byte u.0) (eqb→eq (at + 1) end u.1)) λ _.
        with_found at (item_at table end at) (item_stood end at (omega (arith, p, eqb_no {a = at} {b = end} no_end)) whole) (λ next. items_from table end most next) (λ next l. items_stood most next l)

    pub rule_stands : (most at : ℕ) → at ≤ end → {r : Rule} → items_from table end most at ≡ a_rule r → ItemsStand table end at r
    rule_stands most at p e = subst (StoodRule at) e (items_stood most at p)

  -- ---- which item stands at a byte offset

  here : (at : ℕ) → at + 0 ≡ at
  here at = omega arith

  -- The byte by which an item begins.
  unfoldable pub first_byte : Item → ℕ
  first_byte i = get_or (item_bytes i) 0 0

  counted_byte : (i : Item) → first_byte i ≤ any_byte
  unfolding first_byte item_bytes
  counted_byte (word w) = omega arith
  counted_byte (kind k) = omega arith
  counted_byte group = omega arith
  counted_byte list = omega arith
  counted_byte any = omega arith

  some_bytes : (i : Item) → 0 < length (item_bytes i)
  unfolding item_bytes
  some_bytes (word w) = omega arith
  some_bytes (kind k) = omega arith
  some_bytes group = omega arith
  some_bytes list = omega arith
  some_bytes any = omega arith

  module _ {at next : ℕ} {i : Item} (s : ItemStands table at i next) where
    pub item_moves : at < next
    item_moves = omega (arith, s.ends, some_bytes i)

    -- Its bytes one by one.
    pub byte_at : (k : ℕ) → k < length (item_bytes i) → get_or table (at + k) 0 ≡ get_or (item_bytes i) k 0
    byte_at k p =
        sym (get_or-take (next - at) (drop at table) k 0 (omega (arith, s.ends)) ∙ get_or-drop at table k 0) ∙ ap (λ (l : List ℕ). get_or l k 0) s.is

    pub byte_there : get_or table at 0 ≡ first_byte i
    unfolding first_byte
    byte_there = rw (here at) at (byte_at 0 (some_bytes i))

  -- Where the record ends, nothing is left;
  pub none_left : {end at : ℕ} {r : Rule} → ItemsStand table end at r → at ≡ end → r ≡ record { items = []; rest = false }
  none_left (no_more e) q = refl
  none_left (the_rest b e) q = absurd (omega (arith, e, q))
  none_left (one_more s l h) q = absurd (omega (arith, l, q, item_moves s))

  -- before it, the byte 5 is "the rest",
  pub rest_left : {end at : ℕ} {r : Rule} → ItemsStand table end at r → at ≢ end → get_or table at 0 ≡ rest_byte → r ≡ record { items = []; rest = true }
  rest_left (no_more e) d b = absurd (d e)
  rest_left (the_rest b e) d b' = refl
  rest_left (one_more {i = i} s l h) d b = absurd (omega (arith, byte_there s, b, counted_byte i))

  -- and any other an item that counts.
  pub record OneLeft (end at : ℕ) (r : Rule) : Type 0 where
    pub the_item : Item
    pub next : ℕ
    pub others : List Item
    pub item_stands : ItemStands table at the_item next
    pub within : next ≤ end
    pub later : ItemsStand table end next (record { items = others; rest = r.rest })
    pub is : r.items ≡ the_item ∷ others

  pub one_left : {end at : ℕ} {r : Rule} → ItemsStand table end at r → at ≢ end → get_or table at 0 ≢ rest_byte → OneLeft end at r
  one_left (no_more e) d b = absurd (d e)
  one_left (the_rest b e) d b' = absurd (b' b)
  one_left (one_more {next = next} {i = i} {is = is} s l h) d b = record {
    the_item = i;
    next = next;
    others = is;
    item_stands = s;
    within = l;
    later = h;
    is = refl;
  }

  -- ---- where an item ends, by its byte

  module _ {at next : ℕ} where
    -- A word's length is its second byte;
    pub word_ends : {i : Item} → ItemStands table at i next → get_or table at 0 ≡ word_byte → at + after_two + get_or table (at + 1) 0 ≡ next
    unfolding first_byte item_bytes
    word_ends {i = word w} s b = omega (arith, s.ends, byte_at s 1 (omega arith))
    word_ends {i = kind k} s b = absurd (omega (arith, byte_there s, b))
    word_ends {i = group} s b = absurd (omega (arith, byte_there s, b))
    word_ends {i = list} s b = absurd (omega (arith, byte_there s, b))
    word_ends {i = any} s b = absurd (omega (arith, byte_there s, b))

    -- a kind is one byte more,
    pub kind_ends : {i : Item} → ItemStands table at i next → get_or table at 0 ≡ kind_byte → at + after_two ≡ next
    unfolding first_byte item_bytes
    kind_ends {i = word w} s b = absurd (omega (arith, byte_there s, b))
    kind_ends {i = kind k} s b = omega (arith, s.ends)
    kind_ends {i = group} s b = absurd (omega (arith, byte_there s, b))
    kind_ends {i = list} s b = absurd (omega (arith, byte_there s, b))
    kind_ends {i = any} s b = absurd (omega (arith, byte_there s, b))

    -- and all others are their byte alone.
    pub plain_ends : {i : Item} → ItemStands table at i next → get_or table at 0 ≢ word_byte → get_or table at 0 ≢ kind_byte → at + 1 ≡ next
    unfolding first_byte item_bytes
    plain_ends {i = word w} s d d' = absurd (d (byte_there s))
    plain_ends {i = kind k} s d d' = absurd (d' (byte_there s))
    plain_ends {i = group} s d d' = omega (arith, s.ends)
    plain_ends {i = list} s d d' = omega (arith, s.ends)
    plain_ends {i = any} s d d' = omega (arith, s.ends)

    -- It is "any one node" by its byte.
    pub any_byte_there : {i : Item} → ItemStands table at i next → is_any i ≡ eqb (get_or table at 0) any_byte
    unfolding is_any first_byte item_bytes
    any_byte_there {i = word w} s = rw (byte_there s) refl
    any_byte_there {i = kind k} s = rw (byte_there s) refl
    any_byte_there {i = group} s = rw (byte_there s) refl
    any_byte_there {i = list} s = rw (byte_there s) refl
    any_byte_there {i = any} s = rw (byte_there s) refl

  pub stands_within : {end at : ℕ} {r : Rule} → ItemsStand table end at r → at ≤ end
  stands_within (no_more e) = omega (arith, e)
  stands_within (the_rest b e) = omega (arith, e)
  stands_within (one_more s l h) = omega (arith, l, item_moves s)

  -- ---- the tests of `counts`

  module _ {end at : ℕ} where
    pub counted : counts table end at ≡ true → (at < end) × (get_or table at 0 ≢ rest_byte)
    counted e =
        let u = and_yes (ltb at end) (not (eqb (get_or table at 0) rest_byte)) (subst T (sym e) tt) in
        (ltb→lt at end u.0, eqb_no {a = get_or table at 0} {b = rest_byte} u.1)

    pub not_counted : counts table end at ≡ false → at < end → get_or table at 0 ≡ rest_byte
    not_counted e p = not_so (eqb (get_or table at 0) rest_byte) refl (rw (lt-ltb at end p) at e)
      where
        not_so : (b : Bool) → eqb (get_or table at 0) rest_byte ≡ b → (true && not b) ≡ false → get_or table at 0 ≡ rest_byte
        not_so true q h = eqb→eq (get_or table at 0) rest_byte (subst T (sym q) tt)
        not_so false q h = absurd (true≢false h)

  -- What `counts` says of the rule that stands there: it has items left, or none.
  pub counts_more : {end at : ℕ} {r : Rule} → ItemsStand table end at r → counts table end at ≡ true → OneLeft end at r
  counts_more {end} {at} s e = let c = counted {end = end} {at = at} e in one_left s (λ q. absurd (omega (arith, c.0, q))) c.1

  pub counts_none : {end at : ℕ} {r : Rule} → ItemsStand table end at r → counts table end at ≡ false → r ≡ record { items = []; rest = ltb at end }
  counts_none {end} {at} {r} s e = by_test (ltb at end) refl
    where
      by_test : (b : Bool) → ltb at end ≡ b → r ≡ record { items = []; rest = b }
      by_test true q = rest_left s (λ x. absurd (omega (arith, ltb-true at end q, x))) (not_counted e (ltb-true at end q))
      by_test false q = none_left s (omega (arith, ltb-false at end q, stands_within s))

  -- ---- one item stands at a byte offset, and one rule

  -- The item by which a list of bytes begins.
  item_here : List ℕ → Item
  item_here [] = any
  item_here (b ∷ bs) =
      if eqb b word_byte then word (take (get_or bs 0 0) (drop 1 bs))
      else if eqb b kind_byte then kind (get_or bs 0 0)
      else if eqb b group_byte then group
      else if eqb b list_byte then list
      else any

  begins : (i : Item) (bs : List ℕ) → item_here (item_bytes i ++ bs) ≡ i
  unfolding item_here item_bytes
  begins (word w) bs = ap word (take-append_seam w bs)
  begins (kind k) bs = refl
  begins group bs = refl
  begins list bs = refl
  begins any bs = refl

  there : {at next : ℕ} {i : Item} → ItemStands table at i next → item_here (drop at table) ≡ i
  there {at} {next} {i} s =
      ap item_here (sym (take-append-drop (next - at) (drop at table)) ∙ ap (λ (l : List ℕ). l ++ drop (next - at) (drop at table)) s.is)
      ∙ begins i (drop (next - at) (drop at table))

  pub one_item : {at next next' : ℕ} {i j : Item} → ItemStands table at i next → ItemStands table at j next' → (i ≡ j) × (next ≡ next')
  one_item {at} {next} {next'} {i} {j} s s' =
      let same : i ≡ j = sym (there s) ∙ there s' in
      (same, s.ends ∙ ap (λ (k : Item). at + length (item_bytes k)) same ∙ sym s'.ends)

  pub one_list : {end at : ℕ} {p q : Rule} → ItemsStand table end at p → ItemsStand table end at q → p ≡ q
  one_list (no_more e) h = sym (none_left h e)
  one_list (the_rest b e) h = sym (rest_left h (λ q. absurd (omega (arith, q, e))) b)
  one_list {end} {at} {p} {q} (one_more {next = next} {i = i} {is = is} {rest = rest} s l h) h' =
      let o = one_left h' (λ x. absurd (omega (arith, x, l, item_moves s))) (λ b. absurd (omega (arith, b, byte_there s, counted_byte i))) in
      let same = one_item s o.item_stands in
      let rest_same : ◌≡◌ {A = Rule} (record { items = is; rest = rest }) (record { items = o.others; rest = q.rest }) = one_list h (subst (λ (n : ℕ). ItemsStand table end n (record { items = o.others; rest = q.rest })) (sym same.1) o.later) in
      ap (λ (x : Rule). record { items = i ∷ x.items; rest = x.rest }) rest_same
      ∙ ap (λ (x : List Item). record { items = x; rest = q.rest }) (ap (λ (k : Item). k ∷ o.others) same.0 ∙ sym o.is)

  -- ---- a word's bytes

  pub word_text : {at next : ℕ} (v : List ℕ) → ItemStands table at (word v) next → take (next - (at + after_two)) (drop (at + after_two) table) ≡ v
  unfolding item_bytes
  word_text {at} {next} v s =
      let size : next - (at + after_two) ≡ length v = omega (arith, s.ends) in
      let whole : next - at ≡ at + after_two + length v - at = omega (arith, s.ends) in
      rw size (ap (drop 2) (sym (two_front at (length v) (omega (arith, s.ends, s.inside))) ∙ ap (λ (n : ℕ). take n (drop at table)) (sym whole) ∙ s.is))
