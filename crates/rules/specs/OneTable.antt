-- A table has one list of rules, so that it was read is a fact with one proof. Assumes nothing.
use Rattle.std.specs.Prelude.{ℕ, ◌≤◌, ◌<◌, ◌≡◌, List, length}
use Rattle.std.proofs.Common.{sym, ap, ◌∙◌}
use Rattle.std.proofs.Props.{props}
use mathlib.Core.HLevel.{is_prop→PathP}
use Rattle.rules.specs.Rules.{Item, Rule}
use Rattle.rules.specs.RuleTable.{RuleFound, TableFound, no_table, a_table, table_of, most_rules}
use Rattle.rules.specs.TableStands.{RulesStand, RulesRead}

Item-set : IsSet Item
Item-set = hlevel props

Rule-set : IsSet Rule
Rule-set = hlevel (props, Item-set)

RuleFound-set : IsSet RuleFound
RuleFound-set = hlevel (props, Rule-set)

TableFound-set : IsSet TableFound
TableFound-set = hlevel (props, Rule-set)

abbrev rules_in : TableFound → List Rule → List Rule
rules_in no_table rs = rs
rules_in (a_table rs) rs' = rs

module _ (table : List ℕ) (count : ℕ) (starts : List ℕ) where
  is-prop : (rs : List Rule) → IsProp (table_of table ≡ a_table rs)
  is-prop rs = hlevel (props, TableFound-set)

  counted-prop : (rs : List Rule) → IsProp (length rs ≡ count)
  counted-prop rs = hlevel props

  few-prop : IsProp (count ≤ most_rules)
  few-prop = hlevel props

  room-prop : IsProp (count < length starts)
  room-prop = hlevel props

  stand-prop : (rs : List Rule) → IsProp (RulesStand table starts rs)
  stand-prop rs = hlevel (props, RuleFound-set)

  pub RulesRead-prop : IsProp (RulesRead table count starts)
  RulesRead-prop x y =
      let e : x.rules ≡ y.rules = ap (λ (t : TableFound). rules_in t x.rules) (sym x.is ∙ y.is) in
      λ i. record {
        rules = e i;
        is = is_prop→PathP (λ j. table_of table ≡ a_table (e j)) (λ j. is-prop (e j)) x.is y.is i;
        counted = is_prop→PathP (λ j. length (e j) ≡ count) (λ j. counted-prop (e j)) x.counted y.counted i;
        few = few-prop x.few y.few i;
        room = room-prop x.room y.room i;
        stand = is_prop→PathP (λ j. RulesStand table starts (e j)) (λ j. stand-prop (e j)) x.stand y.stand i;
      }
