-- Which pair of rules is reported, and the final buffer: document 02, C-11: "exactly the pairs of rules that some sequence of nodes .. matches together,
-- one a call, by earlier, then later place".
-- Assumes nothing.
use Rattle.rule_answers.specs.OverlapAnswer.{overlap_refuses, OverlapAnswer}
use Rattle.std.specs.Prelude.{ℕ, ◌≤◌, ◌<◌, ◌≡◌, List, ◌++◌, length, drop, Err, None, Ok, Some}
use Rattle.rows.specs.declared.answer.TypeNameError.TheVariants.{InvalidRuleTable, ShortBuffer}
use Rattle.rules.specs.Rules.{Item, Rule}
use Rattle.rules.specs.RuleTable.{TableFound, no_table, a_table, table_of}
use Rattle.rules.specs.Overlaps.{shown, items_bytes, rule, FirstAfter, NoneAfter}

-- "One sequence is shown, as items": for the rules at two places.
abbrev pub shown_items : List Rule → (i j : ℕ) → List Item
shown_items rs i j = shown (rule rs i).items (rule rs j).items

-- "as items in a lent buffer": its bytes.
unfoldable pub shown_bytes : List Rule → (i j : ℕ) → List ℕ
shown_bytes rs i j = items_bytes (shown_items rs i j)

-- The first pair that comes after (e, l) is shown in more bytes than the lent buffer has.
pub record TooShort (rs : List Rule) (e l : ℕ) (before : List ℕ) : Type 0 where
  pub earlier : ℕ
  pub later : ℕ
  pub first : FirstAfter rs e l earlier later
  pub short : length before < length (shown_bytes rs earlier later)

-- What is answered to a table of these rules after the pair (e, l), with a lent buffer that held `before`, and holds `after` in the end.
abbrev pub Reports : List Rule → (e l : ℕ) (before : List ℕ) → OverlapAnswer → (after : List ℕ) → Type 0
-- The first pair that comes after (e, l), and how many bytes are shown; "bytes past the output stay".
Reports rs e l before (Ok (Some o)) after =
    FirstAfter rs e l o.earlier o.later × (o.bytes ≡ length (shown_bytes rs o.earlier o.later)) × (o.bytes ≤ length before) × (after ≡ shown_bytes rs o.earlier o.later ++ drop o.bytes before)
-- There is no further pair.
Reports rs e l before (Ok None) after = NoneAfter rs e l × (after ≡ before)
-- "A short byte buffer for output is 6, checked last, and no refusal touches it".
Reports rs e l before (Err error) after = (error ≡ ShortBuffer) × TooShort rs e l before × (after ≡ before)

-- "50 rule table not of this form or of over 256 rules"; "no refusal touches it".
abbrev pub OverlapSays : TableFound → (e l : ℕ) (before : List ℕ) → OverlapAnswer → (after : List ℕ) → Type 0
OverlapSays no_table e l before a after = (a ≡ overlap_refuses InvalidRuleTable) × (after ≡ before)
OverlapSays (a_table rs) e l before a after = Reports rs e l before a after

-- The answer to any table after any pair of numbers, with any lent buffer.
pub record OverlapTold (rules : List ℕ) (e l : ℕ) (before : List ℕ) (a : OverlapAnswer) (after : List ℕ) : Type 0 where
  pub says : OverlapSays (table_of rules) e l before a after
