-- Where items and rules stand in a table's bytes: what contracts say of byte offsets. Document 02, C-11.
-- Assumes nothing.
use Rattle.std.specs.Prelude.{ℕ, ◌+◌, ◌-◌, ◌≤◌, ◌≡◌, Bool, true, false, not, ◌&&◌, List, [], ◌∷◌, length, get_or, take, drop, T, eqb, ltb, None, Option, Some}
use Rattle.rules.specs.Rules.{Item, Rule, good_item}
use Rattle.rules.specs.RuleTable.{ItemFound, no_item, item, a_rule, most_items, item_bytes, items_from, rest_byte}
use Rattle.rules.specs.Overlaps.{items_bytes}

-- What `item_at` says of the item found.
abbrev pub item_read : ItemFound → Option ℕ
item_read no_item = None
item_read (item i next) = Some next

module _ (table : List ℕ) where
  -- The bytes of an item stand from `at` up to `next`.
  pub record ItemStands (at : ℕ) (i : Item) (next : ℕ) : Type 0 where
    pub good : T (good_item i)
    pub ends : next ≡ at + length (item_bytes i)
    pub inside : next ≤ length table
    pub is : take (next - at) (drop at table) ≡ item_bytes i

  -- The items of a rule, and "the rest" if it has it, stand from `at` up to `end`.
  pub data ItemsStand (end : ℕ) : (at : ℕ) → Rule → Type 0 where
    no_more : {at : ℕ} → at ≡ end → ItemsStand end at (record { items = []; rest = false })
    the_rest : {at : ℕ} → get_or table at 0 ≡ rest_byte → at + 1 ≡ end → ItemsStand end at (record { items = []; rest = true })
    one_more : {at next : ℕ} {i : Item} {is : List Item} {rest : Bool} → ItemStands at i next → next ≤ end
        → ItemsStand end next (record { items = is; rest = rest }) → ItemsStand end at (record { items = i ∷ is; rest = rest })

  -- Some item stands there: what a function requires of a byte offset.
  pub record SomeItem (at : ℕ) : Type 0 where
    pub the_item : Item
    pub next : ℕ
    pub stands : ItemStands at the_item next

  -- This item stands there, wherever it ends.
  pub record StandsSomewhere (at : ℕ) (i : Item) : Type 0 where
    pub next : ℕ
    pub stands : ItemStands at i next

  -- What a function says of the item that stands there, and of where it ends.
  abbrev pub OfItem : (at : ℕ) → (Item → (next : ℕ) → Type 0) → Type 0
  OfItem at P = (i : Item) (next : ℕ) → ItemStands at i next → P i next

  -- The items of this rule stand there, all of a record's, inside the table.
  pub record RuleStands (end at : ℕ) (r : Rule) : Type 0 where
    pub is : items_from table end most_items at ≡ a_rule r
    pub within : at ≤ end
    pub inside : end ≤ length table

  -- Some rule's.
  pub record SomeRule (end at : ℕ) : Type 0 where
    pub rule : Rule
    pub stands : RuleStands end at rule

  -- What a function says of the rule that stands there.
  abbrev pub OfRule : (end at : ℕ) → (Rule → Type 0) → Type 0
  OfRule end at P = (p : Rule) → RuleStands end at p → P p

  -- What a function says of the rules that stand at two byte offsets.
  pub record OfRules (end at end' at' : ℕ) (P : Rule → Rule → Type 0) : Type 0 where
    pub says : (p q : Rule) → RuleStands end at p → RuleStands end' at' q → P p q

  -- An item that counts stands there, before the record's end.
  abbrev pub counts : (end at : ℕ) → Bool
  counts end at = ltb at end && not (eqb (get_or table at 0) rest_byte)

  -- Some item stands there, and the buffer has room for its bytes.
  pub record ItemRoom (item at : ℕ) (output : List ℕ) : Type 0 where
    pub some : SomeItem item
    pub room : at + length (item_bytes some.the_item) ≤ length output

  -- The items of some rule stand there, up to its record's end, and the buffer has room for their bytes.
  pub record ItemsRoom (end item at : ℕ) (output : List ℕ) : Type 0 where
    pub some : Rule
    pub stands : ItemsStand end item some
    pub inside : end ≤ length table
    pub room : at + length (items_bytes some.items) ≤ length output

  -- What a function says of the items that stand there.
  abbrev pub OfItems : (end at : ℕ) → (List Item → Type 0) → Type 0
  OfItems end at P = (r : Rule) → ItemsStand end at r → P r.items
