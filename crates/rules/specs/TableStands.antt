-- Where the rules of a table stand, and what the code says of it. Document 02, C-11.
-- Assumes nothing.
use Rattle.rules.specs.declared.pairs.PairPlaces.{PairPlaces}
use Rattle.std.specs.Prelude.{ℕ, ◌+◌, ◌≤◌, ◌<◌, ◌≡◌, Bool, true, false, List, length, get_or, None, Option, Some}
use Rattle.rules.specs.Rules.{Rule, Winner, no_winner, wins}
use Rattle.rules.specs.RuleTable.{RuleFound, no_rule, a_rule, no_table, a_table, at_items, most_rules, table_of}
use Rattle.rules.specs.Overlaps.{rule, FirstAfter, NoneAfter}
use Rattle.rules.specs.Meeting.{rules_meet}
use Rattle.rules.specs.ItemsStand.{RuleStands}

-- A rule was found.
abbrev pub is_rule : RuleFound → Bool
is_rule no_rule = false
is_rule (a_rule r) = true

-- What `rule_at` says of the rule found, whose record ends at `end`.
abbrev pub rule_read : (end : ℕ) → RuleFound → Option ℕ
rule_read end no_rule = None
rule_read end (a_rule r) = Some end

-- The records of these rules begin at the byte offsets `starts`, one after the other, and the last ends at the one behind them.
pub record RulesStand (table starts : List ℕ) (rs : List Rule) : Type 0 where
  pub each : (k : ℕ) → k < length rs → RuleStands table (get_or starts (k + 1) 0) (get_or starts k 0 + at_items) (rule rs k)

-- The table's rules, so many, and where they stand.
pub record RulesRead (table : List ℕ) (count : ℕ) (starts : List ℕ) : Type 0 where
  pub rules : List Rule
  pub is : table_of table ≡ a_table rules
  pub counted : length rules ≡ count
  pub few : count ≤ most_rules
  pub room : count < length starts
  pub stand : RulesStand table starts rules

-- The rules, or that the table is not of the form.
abbrev pub TableTold : (table : List ℕ) → Option ℕ → (starts : List ℕ) → Type 0
TableTold table (Some count) starts = RulesRead table count starts
TableTold table None starts = table_of table ≡ no_table

-- `read_table`. What the lent array holds behind the last rule's end, and after `None`, is free.
pub record ReadsTable (table : List ℕ) (r : Option ℕ) (starts : List ℕ) : Type 0 where
  pub told : TableTold table r starts

-- What a function says of the rules of a table.
pub record OfTable (table : List ℕ) (P : List Rule → Type 0) : Type 0 where
  pub says : (rs : List Rule) → table_of table ≡ a_table rs → P rs

-- The rules at two places overlap, as code finds it.
abbrev pub places_meet : (rs : List Rule) (i j : ℕ) → Bool
places_meet rs i j = rules_meet (rule rs i) (rule rs j)

-- r is the first place from `from` on, below `count`, at which the rule overlaps that at place i; `count` if there is none.
pub record FirstLater (rs : List Rule) (i from count r : ℕ) : Type 0 where
  pub bound : r ≤ count
  pub none_before : (j : ℕ) → from ≤ j → j < r → places_meet rs i j ≡ false
  pub found : r < count → (from ≤ r) × (places_meet rs i r ≡ true)

-- `first_later`: where there is such a place, it.
abbrev pub LaterTold : (rs : List Rule) (i from count : ℕ) → Option ℕ → Type 0
LaterTold rs i from count (Some j) = (j < count) × FirstLater rs i from count j
LaterTold rs i from count None = FirstLater rs i from count count

-- A pair of places, as code finds it.
abbrev pub pair : (earlier later : ℕ) → Option PairPlaces
pair earlier later = Some (record { earlier = earlier; later = later })

-- `next_pair`.
abbrev pub PairTold : (rs : List Rule) (e l : ℕ) → Option PairPlaces → Type 0
PairTold rs e l (Some p) = FirstAfter rs e l p.earlier p.later
PairTold rs e l None = NoneAfter rs e l

-- What `find_winner` says of the winner.
abbrev pub winner_of : Option ℕ → Winner
winner_of (Some place) = wins place
winner_of None = no_winner
