-- The rules of a table: how many there are, that each stands in it, and what `read_table` says of them. Assumes nothing.
use Prim.Native.Nat.{ℕ, zero, suc, ◌+◌, ◌≤◌, ◌<◌}
use Rattle.std.specs.Prelude.{◌≡◌, Bool, true, false, List, [], ◌∷◌, leb, None, Option, Some}
use Rattle.std.proofs.Math.Path.{refl, subst}
use Rattle.std.proofs.Common.{arith}
use Rattle.std.proofs.Math.ListN.{length}
use Rattle.rows.specs.Laws.Tests.{by_if}
use Rattle.rules.specs.Rules.{Rule}
use Rattle.rules.specs.RuleTable.{RuleFound, no_rule, a_rule, TableFound, no_table, a_table, at_items, most_rules, with_rule, rule_at, rule_length, rules_from, table_of}
use Rattle.rules.specs.Overlaps.{rule}
use Rattle.rules.specs.ItemsStand.{RuleStands}
use Rattle.rules.specs.TableStands.{RulesRead, TableTold, ReadsTable}
use Rattle.rules.specs.Laws.Tables.{rule_within}

by_case : (P : TableFound → Type 0) (b : Bool) {x y : TableFound} → P x → P y → P (elim b as (λ _. TableFound) [ true ↦ x | false ↦ y ])
by_case P true p q = p
by_case P false p q = q

module _ (table : List ℕ) where
  -- The rule stands in the table.
  pub record StandsInTable (r : Rule) : Type 0 where
    pub end : ℕ
    pub at : ℕ
    pub stands : RuleStands table end at r

  -- At most so many rules, each of which stands in the table.
  pub record RulesThere (most : ℕ) (rs : List Rule) : Type 0 where
    pub few : length rs ≤ most
    pub each : (k : ℕ) → k < length rs → StandsInTable (rule rs k)

  abbrev OfRulesFound : (most : ℕ) → TableFound → Type 0
  OfRulesFound most no_table = Unit {0}
  OfRulesFound most (a_table rs) = RulesThere most rs

  none_there : (most : ℕ) → RulesThere most []
  none_there most = record { few = omega arith; each = λ k p. absurd (omega arith) }

  one_more_there : (most : ℕ) (x : RuleFound) (y : TableFound) → ((r : Rule) → x ≡ a_rule r → StandsInTable r) → OfRulesFound most y → OfRulesFound (suc most) (with_rule x y)
  unfolding with_rule
  one_more_there most no_rule y s h = tt
  one_more_there most (a_rule r) no_table s h = tt
  one_more_there most (a_rule r) (a_table rs) s h = record { few = omega (arith, h.few); each = by }
    where
      by : (k : ℕ) → k < length (r ∷ rs) → StandsInTable (rule (r ∷ rs) k)
      by zero p = s r refl
      by (suc k) p = h.each k (omega arith)

  all_there : (most at : ℕ) → OfRulesFound most (rules_from table most at)
  unfolding rules_from
  all_there zero at = by_if (OfRulesFound zero) (leb (length table) at) (λ _. none_there zero) (λ _. tt)
  all_there (suc most) at =
      by_case (OfRulesFound (suc most)) (leb (length table) at) (none_there (suc most))
      (one_more_there most (rule_at table at) (rules_from table most (at + rule_length table at))
      (λ r e. record { end = at + rule_length table at; at = at + at_items; stands = rule_within table at e })
      (all_there most (at + rule_length table at)))

  pub rules_there : {rs : List Rule} → table_of table ≡ a_table rs → RulesThere most_rules rs
  unfolding table_of
  rules_there e = subst (OfRulesFound most_rules) e (all_there most_rules 0)

-- ---- what `read_table` says, by its cases

module _ {rules starts : List ℕ} {r : Option ℕ} (h : ReadsTable rules r starts) where
  pub table_malformed : r ≡ None → table_of rules ≡ no_table
  table_malformed q = subst (λ (x : Option ℕ). TableTold rules x starts) q h.told

  pub table_there : {count : ℕ} → r ≡ Some count → RulesRead rules count starts
  table_there q = subst (λ (x : Option ℕ). TableTold rules x starts) q h.told
