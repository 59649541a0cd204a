-- The loops that read a rule's items and a table's rules. Assumes nothing.
use Prim.Native.Nat.{ℕ, zero, suc, ◌+◌, ◌-◌, ◌≤◌, ◌<◌}
use Rattle.std.specs.Prelude.{◌≡◌, ◌≢◌, ◌&&◌, length, get_or, set, leb, eqb, T, if◌then◌else◌, None, Option, Some}
use Rattle.std.proofs.Math.Path.{refl, sym, ap}
use Rattle.std.proofs.Common.{◌∙◌, subst, arith, lt_of_not-le, length-append, length-set, get_or-set_other, leb→le}
use Rattle.std.proofs.Math.Bool.{Bool, true, false}
use mathlib.Core.List.{List, [], ◌∷◌, ◌++◌, append_assoc, append-nil}
use Rattle.std.proofs.Math.Decide.{dec_le}
use Rattle.std.proofs.Math.ListN.{get_or-append}
use Rattle.std.proofs.Math.Seq.{get_or-set_same, get_or-append_seam}
use Rattle.std.proofs.Math.Facts.{and_yes}
use Rattle.rows.specs.Laws.Tests.{by_if}
use borrow.Author.Tests.{le-leb, lt-leb, eq-eqb, ne_eqb}
use Rattle.rows.specs.Format.{short_bytes, at_kind}
use Rattle.rows.specs.Records.{little_endian}
use Rattle.rules.specs.Rules.{Item, Rule}
use Rattle.rules.specs.RuleTable.{ItemFound, no_item, item, RuleFound, no_rule, a_rule, TableFound, no_table, a_table, rest_byte, rule_kind, at_items, most_items, most_rules, item_at, rest_at, front, with_item, with_rule, items_from, rule_length, rule_head, rule_at, rules_from, table_of}
use Rattle.rules.specs.Overlaps.{rule}
use Rattle.rules.specs.ItemsStand.{item_read, RuleStands}
use Rattle.rules.specs.Laws.Stand.{item_found}
use Rattle.rules.specs.TableStands.{is_rule, rule_read, RulesStand, RulesRead}

-- ---- what was read

abbrev is_item : Option ℕ → ℕ
is_item (Some next) = 1
is_item None = 0

abbrev end_in : Option ℕ → ℕ
end_in (Some next) = next
end_in None = 0

pub none_read : (x : ItemFound) → None ≡ item_read x → x ≡ no_item
none_read no_item e = refl
none_read (item i next) e = let clash : ◌≡◌ {A = ℕ} 0 1 = ap is_item e in absurd (omega (arith, clash))

pub item_was_read : (x : ItemFound) {next : ℕ} → Some next ≡ item_read x → (i : Item) × (x ≡ item i next)
item_was_read no_item e = let clash : ◌≡◌ {A = ℕ} 1 0 = ap is_item e in absurd (omega (arith, clash))
item_was_read (item i n) e = (i, ap (λ (m : ℕ). item i m) (sym (ap end_in e)))

front_is : (i : Item) (x : RuleFound) → is_rule (front i x) ≡ is_rule x
unfolding front
front_is i no_rule = refl
front_is i (a_rule r) = refl

-- ---- a rule's items

module _ (table : List ℕ) (end at : ℕ) where
  items_ended : (left : ℕ) → at ≡ end → items_from table end left at ≡ a_rule (record { items = []; rest = false })
  unfolding items_from
  items_ended zero e = rw (eq-eqb at end e) refl
  items_ended (suc left) e = rw (eq-eqb at end e, items_from) refl

  items_full : at ≢ end → items_from table end 0 at ≡ no_rule
  unfolding items_from
  items_full d = rw (ne_eqb at end d) refl

  -- The byte of "the rest" begins no item that counts.
  rest_no_item : get_or table at 0 ≡ rest_byte → item_at table end at ≡ no_item
  unfolding item_at
  rest_no_item e = rw e refl

  items_open : (left : ℕ) → at ≢ end → items_from table end (suc left) at
      ≡ elim (rest_at table end at) as (λ _. RuleFound) [ true ↦ a_rule (record { items = []; rest = true }) | false ↦ with_item (item_at table end at) (λ next. items_from table end left next) ]
  unfolding items_from
  items_open left d = rw (ne_eqb at end d, items_from) refl

  rest_byte_there : get_or table at 0 ≡ rest_byte → rest_at table end at ≡ eqb (at + 1) end
  unfolding rest_at
  rest_byte_there e = rw e refl

  no_rest_byte : get_or table at 0 ≢ rest_byte → rest_at table end at ≡ false
  unfolding rest_at
  no_rest_byte d = rw (ne_eqb (get_or table at 0) rest_byte d) refl

  items_rest : (left : ℕ) → at ≢ end → get_or table at 0 ≡ rest_byte → eqb (at + 1) end ≡ is_rule (items_from table end (suc left) at)
  unfolding with_item
  items_rest left d e =
      by (eqb (at + 1) end)
      ∙ sym (ap is_rule (items_open left d)
      ∙ ap (λ (b : Bool). is_rule (or_else b (with_item (item_at table end at) (λ next. items_from table end left next)))) (rest_byte_there e)
      ∙ ap (λ (x : ItemFound). is_rule (or_else (eqb (at + 1) end) (with_item x (λ next. items_from table end left next)))) (rest_no_item e))
    where
      or_else : Bool → RuleFound → RuleFound
      or_else b x = elim b as (λ _. RuleFound) [ true ↦ a_rule (record { items = []; rest = true }) | false ↦ x ]

      by : (b : Bool) → b ≡ is_rule (or_else b no_rule)
      by true = refl
      by false = refl

  items_item : (left : ℕ) → at ≢ end → get_or table at 0 ≢ rest_byte
      → items_from table end (suc left) at ≡ with_item (item_at table end at) (λ next. items_from table end left next)
  items_item left d e = items_open left d ∙ rw (no_rest_byte e) refl

module _ (table : List ℕ) (end begin : ℕ) where
  -- The items left decide; so many more may come.
  pub record FillLoop (at count : ℕ) : Type 0 where
    pub within : at ≤ end
    pub left : ℕ
    pub counted : count + left ≡ most_items
    pub same : is_rule (items_from table end most_items begin) ≡ is_rule (items_from table end left at)

  pub fill_begins : begin ≤ end → FillLoop begin 0
  fill_begins p = record { within = p; left = most_items; counted = refl; same = refl }

  module _ {at count : ℕ} (f : FillLoop at count) where
    pub fill_ends : end ≤ at → true ≡ is_rule (items_from table end most_items begin)
    fill_ends p = sym (f.same ∙ ap is_rule (items_ended table end at f.left (omega (arith, f.within))))

    module _ (p : at < end) where
      pub fill_full : count ≡ most_items → false ≡ is_rule (items_from table end most_items begin)
      fill_full e =
          sym (f.same ∙ ap (λ (n : ℕ). is_rule (items_from table end n at)) none ∙ ap is_rule (items_full table end at (λ q. absurd (omega (arith, q)))))
        where
          none : f.left ≡ 0
          none = omega (arith, f.counted, e)

      module _ (more : count ≢ most_items) where
        one : f.left ≡ suc (f.left - 1)
        one = omega (arith, f.counted, more)

        pub fill_rest : get_or table at 0 ≡ rest_byte → eqb (at + 1) end ≡ is_rule (items_from table end most_items begin)
        fill_rest e = items_rest table end at (f.left - 1) (λ q. absurd (omega (arith, q))) e ∙ sym (f.same ∙ ap (λ (n : ℕ). is_rule (items_from table end n at)) one)

        module _ (d : get_or table at 0 ≢ rest_byte) where
          goes_on : is_rule (items_from table end most_items begin) ≡ is_rule (with_item (item_at table end at) (λ next. items_from table end (f.left - 1) next))
          goes_on =
              f.same ∙ ap (λ (n : ℕ). is_rule (items_from table end n at)) one ∙ ap is_rule (items_item table end at (f.left - 1) (λ q. absurd (omega (arith, q))) d)

          pub fill_malformed : {r : Option ℕ} → r ≡ item_read (item_at table end at) → r ≡ None → false ≡ is_rule (items_from table end most_items begin)
          unfolding with_item
          fill_malformed h e = sym (goes_on ∙ ap (λ (x : ItemFound). is_rule (with_item x (λ next. items_from table end (f.left - 1) next))) (none_read (item_at table end at) (sym e ∙ h)))

          module _ {r : Option ℕ} {next : ℕ} (h : r ≡ item_read (item_at table end at)) (e : r ≡ Some next) (whole : end ≤ length table) where
            pub fill_further : (at < next) × (next ≤ end)
            fill_further = let x = item_was_read (item_at table end at) (sym e ∙ h) in let y = item_found table end at p whole x.1 in (y.1, y.2)

            pub fill_again : FillLoop next (count + 1)
            unfolding with_item
            fill_again =
                let x = item_was_read (item_at table end at) (sym e ∙ h) in
                record {
                  within = fill_further.1;
                  left = f.left - 1;
                  counted = omega (arith, f.counted, one);
                  same = goes_on ∙ ap (λ (y : ItemFound). is_rule (with_item y (λ n. items_from table end (f.left - 1) n))) x.1 ∙ front_is x.0 (items_from table end (f.left - 1) next);
                }

-- ---- a rule's record

module _ (table : List ℕ) (at size : ℕ) (is_size : size ≡ rule_length table at) where
  abbrev told : Option ℕ
  told = rule_read (at + rule_length table at) (rule_at table at)

  pub head_cut_off : length table < at + at_items → None ≡ told
  unfolding rule_at rule_head
  head_cut_off p = sym (rw (lt-leb (at + at_items) (length table) p) refl)

  module _ (whole : at + at_items ≤ length table) where
    pub other_kind : little_endian short_bytes table (at + at_kind) ≢ rule_kind → None ≡ told
    unfolding rule_at rule_head
    other_kind d = sym (rw (le-leb (at + at_items) (length table) whole, ne_eqb (little_endian short_bytes table (at + at_kind)) rule_kind d) refl)

    module _ (kind : little_endian short_bytes table (at + at_kind) ≡ rule_kind) where
      pub no_items : size ≤ at_items → None ≡ told
      unfolding rule_at rule_head
      no_items p =
          sym (rw (le-leb (at + at_items) (length table) whole, eq-eqb (little_endian short_bytes table (at + at_kind)) rule_kind kind, lt-leb (at_items + 1) (rule_length table at) (omega (arith, is_size, p))) refl)

      module _ (some : at_items < size) where
        pub record_cut_off : length table < at + size → None ≡ told
        unfolding rule_at rule_head
        record_cut_off p =
            sym (rw (le-leb (at + at_items) (length table) whole, eq-eqb (little_endian short_bytes table (at + at_kind)) rule_kind kind, le-leb (at_items + 1) (rule_length table at) (omega (arith, is_size, some)), lt-leb (at + rule_length table at) (length table) (omega (arith, is_size, p))) refl)

        pub record_whole : at + size ≤ length table → (b : Bool) → b ≡ is_rule (items_from table (at + size) most_items (at + at_items))
            → (if b then Some (at + size) else None) ≡ told
        unfolding rule_at rule_head
        record_whole p b e =
            rw (le-leb (at + at_items) (length table) whole, eq-eqb (little_endian short_bytes table (at + at_kind)) rule_kind kind, le-leb (at_items + 1) (rule_length table at) (omega (arith, is_size, some)), le-leb (at + rule_length table at) (length table) (omega (arith, is_size, p)), ← is_size, e) (by (items_from table (at + size) most_items (at + at_items)))
          where
            by : (x : RuleFound) → (if is_rule x then Some (at + size) else None) ≡ rule_read (at + size) x
            by no_rule = refl
            by (a_rule r) = refl

-- ---- a table's rules

abbrev is_read : Option ℕ → ℕ
is_read (Some end) = 1
is_read None = 0

abbrev rule_end_in : Option ℕ → ℕ
rule_end_in (Some end) = end
rule_end_in None = 0

no_rule_read : (end : ℕ) (x : RuleFound) → None ≡ rule_read end x → x ≡ no_rule
no_rule_read end no_rule e = refl
no_rule_read end (a_rule r) e = let clash : ◌≡◌ {A = ℕ} 0 1 = ap is_read e in absurd (omega (arith, clash))

rule_was_read : (end : ℕ) {end' : ℕ} (x : RuleFound) → Some end' ≡ rule_read end x → (r : Rule) × (x ≡ a_rule r) × (end' ≡ end)
rule_was_read end no_rule e = let clash : ◌≡◌ {A = ℕ} 1 0 = ap is_read e in absurd (omega (arith, clash))
rule_was_read end (a_rule r) e = (r, refl, ap rule_end_in e)

-- Rules in front of those that a table has from a byte offset on.
pub ahead : List Rule → TableFound → TableFound
ahead rs no_table = no_table
ahead rs (a_table rs') = a_table (rs ++ rs')

one_ahead : (rs : List Rule) (r : Rule) (x : TableFound) → ahead rs (with_rule (a_rule r) x) ≡ ahead (rs ++ (r ∷ [])) x
unfolding ahead with_rule
one_ahead rs r no_table = refl
one_ahead rs r (a_table rs') = ap a_table (sym (append_assoc rs (r ∷ []) rs'))

-- A rule that was found lies within the table.
pub rule_within : (table : List ℕ) (at : ℕ) {r : Rule} → rule_at table at ≡ a_rule r → RuleStands table (at + rule_length table at) (at + at_items) r
unfolding rule_at rule_head
rule_within table at {r} e = by_if Whole (rule_head table at) formed (λ _ q. let clash : ◌≡◌ {A = ℕ} 0 1 = ap found q in absurd (omega (arith, clash))) e
  where
    found : RuleFound → ℕ
    found no_rule = 0
    found (a_rule x) = 1

    Whole : RuleFound → Type 0
    Whole x = x ≡ a_rule r → RuleStands table (at + rule_length table at) (at + at_items) r

    formed : T (rule_head table at) → Whole (items_from table (at + rule_length table at) most_items (at + at_items))
    formed t q =
        let whole = leb (at + at_items) (length table) in
        let kind = eqb (little_endian short_bytes table (at + at_kind)) rule_kind in
        let some = leb (at_items + 1) (rule_length table at) in
        let u = and_yes (whole && kind && some) (leb (at + rule_length table at) (length table)) t in
        let v = and_yes (whole && kind) some u.0 in
        record {
          is = q;
          within = omega (arith, leb→le (at_items + 1) (rule_length table at) v.1);
          inside = leb→le (at + rule_length table at) (length table) u.1;
        }

module _ (table : List ℕ) where
  -- The rules so far stand there, and so many more may come.
  pub record TableLoop (size : ℕ) (starts : List ℕ) (at count : ℕ) : Type 0 where
    pub so_far : List Rule
    pub left : ℕ
    pub counted : count + left ≡ most_rules
    pub long : length so_far ≡ count
    pub room : most_rules < size
    pub kept : length starts ≡ size
    pub here : get_or starts count 0 ≡ at
    pub within : at ≤ length table
    pub stand : RulesStand table starts so_far
    pub is : table_of table ≡ ahead so_far (rules_from table left at)

  module _ (at : ℕ) where
    rules_ended : (left : ℕ) → length table ≤ at → rules_from table left at ≡ a_table []
    unfolding rules_from
    rules_ended zero p = rw (le-leb (length table) at p) refl
    rules_ended (suc left) p = rw (le-leb (length table) at p, rules_from) refl

    rules_full : at < length table → rules_from table 0 at ≡ no_table
    unfolding rules_from
    rules_full p = rw (lt-leb (length table) at p) refl

    rules_open : (left : ℕ) → at < length table → rules_from table (suc left) at ≡ with_rule (rule_at table at) (rules_from table left (at + rule_length table at))
    unfolding rules_from
    rules_open left p = rw (lt-leb (length table) at p, rules_from) refl

  pub table_begins : (starts : List ℕ) → most_rules < length starts → TableLoop (length (set starts 0 0)) (set starts 0 0) 0 0
  unfolding table_of ahead
  table_begins starts p = record {
    so_far = [];
    left = most_rules;
    counted = refl;
    long = refl;
    room = rw (length-set starts 0 0) p;
    kept = refl;
    here = get_or-set_same starts 0 0 0 (omega arith);
    within = omega arith;
    stand = record { each = λ k q. absurd (omega arith) };
    is = same (rules_from table most_rules 0);
  }
    where
      same : (x : TableFound) → x ≡ ahead [] x
      same no_table = refl
      same (a_table rs) = refl

  module _ {size : ℕ} {starts : List ℕ} {at count : ℕ} (l : TableLoop size starts at count) where
    pub table_ends : length table ≤ at → RulesRead table count starts
    unfolding ahead
    table_ends p = record {
      rules = l.so_far;
      is = l.is ∙ ap (ahead l.so_far) (rules_ended at l.left p) ∙ ap a_table (append-nil l.so_far);
      counted = l.long;
      few = omega (arith, l.counted);
      room = omega (arith, l.counted, l.room, l.kept);
      stand = l.stand;
    }

    module _ (p : at < length table) where
      pub table_full : count ≡ most_rules → table_of table ≡ no_table
      unfolding ahead
      table_full e =
          let none : l.left ≡ 0 = omega (arith, l.counted, e) in
          l.is ∙ ap (λ (n : ℕ). ahead l.so_far (rules_from table n at)) none ∙ ap (ahead l.so_far) (rules_full at p)

      module _ (more : count ≢ most_rules) where
        opened : table_of table ≡ ahead l.so_far (with_rule (rule_at table at) (rules_from table (l.left - 1) (at + rule_length table at)))
        opened =
            let one : l.left ≡ suc (l.left - 1) = omega (arith, l.counted, more) in
            l.is ∙ ap (λ (n : ℕ). ahead l.so_far (rules_from table n at)) one ∙ ap (ahead l.so_far) (rules_open at (l.left - 1) p)

        pub table_malformed : {r : Option ℕ} → r ≡ rule_read (at + rule_length table at) (rule_at table at) → r ≡ None → table_of table ≡ no_table
        unfolding ahead with_rule
        table_malformed h e =
            opened
            ∙ ap (λ (x : RuleFound). ahead l.so_far (with_rule x (rules_from table (l.left - 1) (at + rule_length table at)))) (no_rule_read (at + rule_length table at) (rule_at table at) (sym e ∙ h))

        module _ {r : Option ℕ} {end : ℕ} (h : r ≡ rule_read (at + rule_length table at) (rule_at table at)) (e : r ≡ Some end) where
          read : (x : Rule) × (rule_at table at ≡ a_rule x) × (end ≡ at + rule_length table at)
          read = rule_was_read (at + rule_length table at) (rule_at table at) (sym e ∙ h)

          stands : RuleStands table end (at + at_items) read.0
          stands = subst (λ (n : ℕ). RuleStands table n (at + at_items) read.0) (sym read.2) (rule_within table at read.1)

          pub table_further : (at < end) × (end ≤ length table)
          table_further = (omega (arith, stands.within), stands.inside)

          each_stands : (k : ℕ) → k < length (l.so_far ++ (read.0 ∷ []))
              → RuleStands table (get_or (set starts (count + 1) end) (k + 1) 0) (get_or (set starts (count + 1) end) k 0 + at_items) (rule (l.so_far ++ (read.0 ∷ [])) k)
          each_stands k q =
              elim (dec_le count k) [
                | no n ↦
                    let p' = lt_of_not-le n in
                    let end_kept : get_or (set starts (count + 1) end) (k + 1) 0 ≡ get_or starts (k + 1) 0 = get_or-set_other starts (count + 1) (k + 1) end 0 (λ c. absurd (omega (arith, c, p'))) in
                    let begin_kept : get_or (set starts (count + 1) end) k 0 ≡ get_or starts k 0 = get_or-set_other starts (count + 1) k end 0 (λ c. absurd (omega (arith, c, p'))) in
                    let rule_kept : rule (l.so_far ++ (read.0 ∷ [])) k ≡ rule l.so_far k = get_or-append l.so_far (read.0 ∷ []) _ k (omega (arith, l.long, p')) in
                    rw (end_kept, begin_kept, rule_kept) (l.stand.each k (omega (arith, l.long, p')))
                | yes p' ↦
                    let last : k ≡ count = omega (arith, length-append l.so_far (read.0 ∷ []), l.long, q, p') in
                    let end_there : get_or (set starts (count + 1) end) (k + 1) 0 ≡ end = ap (λ (n : ℕ). get_or (set starts (count + 1) end) (n + 1) 0) last ∙ get_or-set_same starts (count + 1) end 0 (omega (arith, l.counted, l.room, l.kept, more)) in
                    let begin_there : get_or (set starts (count + 1) end) k 0 ≡ at = get_or-set_other starts (count + 1) k end 0 (λ c. absurd (omega (arith, c, last))) ∙ ap (λ (n : ℕ). get_or starts n 0) last ∙ l.here in
                    let rule_there : rule (l.so_far ++ (read.0 ∷ [])) k ≡ read.0 = ap (λ (n : ℕ). rule (l.so_far ++ (read.0 ∷ [])) n) (last ∙ sym l.long) ∙ get_or-append_seam l.so_far read.0 [] _ in
                    rw (end_there, begin_there, rule_there) stands
              ]

          pub table_again : TableLoop size (set starts (count + 1) end) end (count + 1)
          table_again = record {
            so_far = l.so_far ++ (read.0 ∷ []);
            left = l.left - 1;
            counted = omega (arith, l.counted, more);
            long = simp length-append (omega (arith, l.long));
            room = l.room;
            kept = length-set starts (count + 1) end ∙ l.kept;
            here = get_or-set_same starts (count + 1) end 0 (omega (arith, l.counted, l.room, l.kept, more));
            within = stands.inside;
            stand = record { each = each_stands };
            is =
                opened
                ∙ ap (λ (x : RuleFound). ahead l.so_far (with_rule x (rules_from table (l.left - 1) (at + rule_length table at)))) read.1
                ∙ one_ahead l.so_far read.0 (rules_from table (l.left - 1) (at + rule_length table at))
                ∙ ap (λ (n : ℕ). ahead (l.so_far ++ (read.0 ∷ [])) (rules_from table (l.left - 1) n)) (sym read.2);
          }
