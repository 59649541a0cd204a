-- Which rules overlap, and the sequence that is shown: document 02, C-11.
-- Assumes nothing.
use Rattle.std.specs.Prelude.{ℕ, ◌+◌, ◌*◌, ◌≤◌, ◌<◌, ◌≡◌, ◌⊎◌, Bool, true, false, List, [], ◌∷◌, ◌++◌, length, get_or, T, if◌then◌else◌}
use Rattle.rows.specs.Format.{longest_word}
use Rattle.rules.specs.RuleTable.{most_items, after_two, item_bytes}
use Rattle.rules.specs.Rules.{Node, Item, word, kind, group, list, any, Rule, good_nodes, matches}

-- "pairs of rules that some sequence of nodes, from a row or not, matches together".
pub record Overlap (r s : Rule) : Type 0 where
  pub nodes : List Node
  pub good : T (good_nodes nodes)
  pub by_first : T (matches r nodes)
  pub by_second : T (matches s nodes)

-- ---- the sequence that is shown

-- "any one node".
unfoldable pub is_any : Item → Bool
is_any (word w) = false
is_any (kind k) = false
is_any group = false
is_any list = false
is_any any = true

-- "at each place the earlier rule's item, or the later's counted one, if any, where the earlier has 'any one node' or none": at a place where both
-- have an item that counts.
unfoldable pub shown_item : (earlier later : Item) → Item
unfolding is_any
shown_item i j = if is_any i then j else i

-- "One sequence is shown, as items ..: as long as the longer rule, 'the rest' not counted": of two rules' counted items.
unfoldable pub shown : (earlier later : List Item) → List Item
unfolding shown_item
shown [] js = js
shown (i ∷ is) [] = i ∷ is
shown (i ∷ is) (j ∷ js) = shown_item i j ∷ shown is js

-- "as items in a lent buffer".
unfoldable pub items_bytes : List Item → List ℕ
unfolding item_bytes
items_bytes [] = []
items_bytes (i ∷ is) = item_bytes i ++ items_bytes is

-- No sequence that is shown has more bytes: 16 words of 255.
abbrev pub longest_shown : ℕ
longest_shown = most_items * (after_two + longest_word)

-- ---- the pairs, in order

-- What stands where a table has no rule; no place below its length has this.
abbrev no_rule : Rule
no_rule = record { items = []; rest = false }

-- The rule at a place, "by place from 0".
abbrev pub rule : List Rule → (place : ℕ) → Rule
rule rs place = get_or rs place no_rule

-- "by earlier, then later place": the pair (i, j) comes after the pair (e, l).
abbrev pub After : (e l i j : ℕ) → Type 0
After e l i j = (e < i) ⊎ ((e ≡ i) × (l < j))

-- The rules at places i and j, an earlier and a later one, overlap.
pub record Pair (rs : List Rule) (i j : ℕ) : Type 0 where
  pub in_order : i < j
  pub in_table : j < length rs
  pub overlap : Overlap (rule rs i) (rule rs j)

-- "one a call, by earlier, then later place": the pair (i, j) is the first that comes after (e, l).
pub record FirstAfter (rs : List Rule) (e l i j : ℕ) : Type 0 where
  pub pair : Pair rs i j
  pub after : After e l i j
  pub first : (i' j' : ℕ) → Pair rs i' j' → After e l i' j' → (i < i') ⊎ ((i ≡ i') × (j ≤ j'))

-- No pair comes after (e, l).
abbrev pub NoneAfter : (rs : List Rule) (e l : ℕ) → Type 0
NoneAfter rs e l = (i j : ℕ) → Pair rs i j → After e l i j → ⊥

-- ---- all pairs, one call after the other

-- A pair of places, the earlier first.
pub record Places : Type 0 where
  pub earlier : ℕ
  pub later : ℕ

-- "one a call": what the calls report, each handed the pair before, from (e, l) until there is no further pair.
pub data Walk (rs : List Rule) : (e l : ℕ) → List Places → Type 0 where
  ends : {e l : ℕ} → NoneAfter rs e l → Walk rs e l []
  goes : {e l i j : ℕ} {ps : List Places} → FirstAfter rs e l i j → Walk rs i j ps → Walk rs e l (record { earlier = i; later = j } ∷ ps)
