-- The rule table's file: document 02, C-11: "A table is a file of records, one a rule: length, kind 272 (2 bytes each), then the items."
-- Assumes nothing.
use Rattle.std.specs.Prelude.{ℕ, zero, suc, ◌+◌, Bool, true, false, ◌&&◌, List, [], ◌∷◌, length, get_or, take, drop, leb, eqb, if◌then◌else◌}
use Rattle.rows.specs.Format.{short_bytes, at_kind}
use Rattle.rows.specs.Records.{little_endian}
use Rattle.rules.specs.Rules.{Item, word, kind, group, list, any, Rule, good_word, good_kind}

-- ---- the numbers of the format

-- "kind 272".
abbrev pub rule_kind : ℕ
rule_kind = 272

-- "length, kind 272 (2 bytes each)": where the items begin.
abbrev pub at_items : ℕ
at_items = short_bytes + short_bytes

-- "1 to 16 items".
abbrev pub most_items : ℕ
most_items = 16

-- "50 rule table not of this form or of over 256 rules".
abbrev pub most_rules : ℕ
most_rules = 256

-- "An item is a byte, 0 to 5 in the order just given": a T of a given word,
abbrev pub word_byte : ℕ
word_byte = 0

-- a T of a given kind,
abbrev pub kind_byte : ℕ
kind_byte = 1

-- a group,
abbrev pub group_byte : ℕ
group_byte = 2

-- a list,
abbrev pub list_byte : ℕ
list_byte = 3

-- any one node,
abbrev pub any_byte : ℕ
any_byte = 4

-- the rest.
abbrev pub rest_byte : ℕ
rest_byte = 5

-- "after 0 come a length byte and the word": where the word begins, from the item's byte on; and "after 1 the kind as a byte": where the item ends.
abbrev pub after_two : ℕ
after_two = 2

-- "An item is a byte, 0 to 5 ..; after 0 come a length byte and the word .., after 1 the kind as a byte".
unfoldable pub item_bytes : Item → List ℕ
item_bytes (word w) = word_byte ∷ length w ∷ w
item_bytes (kind k) = kind_byte ∷ k ∷ []
item_bytes group = group_byte ∷ []
item_bytes list = list_byte ∷ []
item_bytes any = any_byte ∷ []

-- ---- what stands in a table

-- An item that counts and the byte offset behind it, or that none stands there.
pub data ItemFound : Type 0 where
  no_item : ItemFound
  item : Item → (next : ℕ) → ItemFound

-- A rule, or that its record is not of the form.
pub data RuleFound : Type 0 where
  no_rule : RuleFound
  a_rule : Rule → RuleFound

-- The rules of a table, or "50 rule table not of this form".
pub data TableFound : Type 0 where
  no_table : TableFound
  a_table : List Rule → TableFound

-- One item more in front of a rule's.
unfoldable pub front : Item → RuleFound → RuleFound
front i no_rule = no_rule
front i (a_rule r) = a_rule (record { items = i ∷ r.items; rest = r.rest })

-- The item found, if one was, in front of those after it.
unfoldable pub with_item : ItemFound → (ℕ → RuleFound) → RuleFound
unfolding front
with_item no_item later = no_rule
with_item (item i next) later = front i (later next)

-- The rule found, if one was, in front of those after it.
unfoldable pub with_rule : RuleFound → TableFound → TableFound
with_rule no_rule later = no_table
with_rule (a_rule r) no_table = no_table
with_rule (a_rule r) (a_table rs) = a_table (r ∷ rs)

module _ (table : List ℕ) where
  -- "after 0 come a length byte and the word (1 to 255 bytes, each 33 to 126)", within the record, which ends at `end`.
  unfoldable pub word_item : (end at : ℕ) → ItemFound
  word_item end at =
      let size = get_or table (at + 1) 0 in
      let text = take size (drop (at + after_two) table) in
      if leb (at + after_two + size) end && good_word text then item (word text) (at + after_two + size) else no_item

  -- "after 1 the kind as a byte from 1 to 57".
  unfoldable pub kind_item : (end at : ℕ) → ItemFound
  kind_item end at =
      let number = get_or table (at + 1) 0 in
      if leb (at + after_two) end && good_kind number then item (kind number) (at + after_two) else no_item

  -- "An item is a byte, 0 to 5 in the order just given": the item at a byte offset, if it is one that counts.
  unfoldable pub item_at : (end at : ℕ) → ItemFound
  item_at end at =
      let byte = get_or table at 0 in
      if eqb byte word_byte then word_item end at
      else if eqb byte kind_byte then kind_item end at
      else if eqb byte group_byte then item group (at + 1)
      else if eqb byte list_byte then item list (at + 1)
      else if eqb byte any_byte then item any (at + 1)
      else no_item

  -- "as last item 'the rest'".
  unfoldable pub rest_at : (end at : ℕ) → Bool
  rest_at end at = eqb (get_or table at 0) rest_byte && eqb (at + 1) end

  -- The items from a byte offset to the record's end, at most so many, "the rest" among them.
  unfoldable pub items_from : (end most at : ℕ) → RuleFound
  items_from end zero at = if eqb at end then a_rule (record { items = []; rest = false }) else no_rule
  items_from end (suc most) at =
      elim (eqb at end) as (λ _. RuleFound) [
        | true ↦ a_rule (record { items = []; rest = false })
        | false ↦ elim (rest_at end at) as (λ _. RuleFound) [
          | true ↦ a_rule (record { items = []; rest = true })
          | false ↦ with_item (item_at end at) (λ next. items_from end most next)
        ]
      ]

  -- "length .. (2 bytes ..)" of the record at a byte offset, "counting the whole record" as in document 01.
  unfoldable pub rule_length : (at : ℕ) → ℕ
  rule_length at = little_endian short_bytes table at

  -- The record at a byte offset has its length and kind, at least one item, and lies within the file.
  unfoldable pub rule_head : (at : ℕ) → Bool
  rule_head at =
      leb (at + at_items) (length table)
      && eqb (little_endian short_bytes table (at + at_kind)) rule_kind
      && leb (at_items + 1) (rule_length at)
      && leb (at + rule_length at) (length table)

  -- "one a rule: length, kind 272 (2 bytes each), then the items": 1 to 16 that fill the record.
  unfoldable pub rule_at : (at : ℕ) → RuleFound
  rule_at at = if rule_head at then items_from (at + rule_length at) most_items (at + at_items) else no_rule

  -- The rules from a byte offset to the file's end, at most so many.
  unfoldable pub rules_from : (most at : ℕ) → TableFound
  rules_from zero at = if leb (length table) at then a_table [] else no_table
  rules_from (suc most) at =
      elim (leb (length table) at) as (λ _. TableFound) [
        | true ↦ a_table []
        | false ↦ with_rule (rule_at at) (rules_from most (at + rule_length at))
      ]

  -- "A table is a file of records, one a rule", not "of over 256 rules".
  unfoldable pub table_of : TableFound
  table_of = rules_from most_rules 0
