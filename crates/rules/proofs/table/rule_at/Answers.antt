-- `rule_at` meets its contract. Assumes nothing.
use native.Mathlib.Omega.{arith}
use mathlib.Core.Path.{refl, sym, ◌∙◌}
use mathlib.Core.Bool.{true, false}
use Rattle.rules.specs.RuleTable.{rule_length}
use Rattle.rules.specs.Laws.Tables.{head_cut_off, other_kind, no_items, record_cut_off, record_whole}
use Rattle.rules.proofs.table.rule_at.Goals as goal

pub returns-then-table-at-lt-AT_ITEMS : goal.returns-then-table-at-lt-AT_ITEMS
returns-then-table-at-lt-AT_ITEMS c = head_cut_off _ _ _ refl (omega arith)

pub returns-then-two_bytes-ne-RULE_KIND : goal.returns-then-two_bytes-ne-RULE_KIND
returns-then-two_bytes-ne-RULE_KIND c = other_kind _ _ _ refl (omega arith) (λ e. c.if-two_bytes-ne-RULE_KIND.true (c.two_bytes.ensures.value ∙ e))

pub returns-then-size-le-AT_ITEMS : goal.returns-then-size-le-AT_ITEMS
unfolding rule_length
returns-then-size-le-AT_ITEMS c = no_items _ _ _ c.two_bytes-size.ensures.value (omega arith) (sym c.two_bytes.ensures.value ∙ c.if-two_bytes-ne-RULE_KIND.false) c.if-size-le-AT_ITEMS.true

pub returns-then-table-at : goal.returns-then-table-at
unfolding rule_length
returns-then-table-at c = record_cut_off _ _ _ c.two_bytes-size.ensures.value (omega arith) (sym c.two_bytes.ensures.value ∙ c.if-two_bytes-ne-RULE_KIND.false) c.if-size-le-AT_ITEMS.false (omega arith)

pub returns-then-items_fill : goal.returns-then-items_fill
unfolding rule_length
returns-then-items_fill c = record_whole _ _ _ c.two_bytes-size.ensures.value (omega arith) (sym c.two_bytes.ensures.value ∙ c.if-two_bytes-ne-RULE_KIND.false) c.if-size-le-AT_ITEMS.false (omega arith) true (sym c.if-items_fill.true ∙ c.items_fill.ensures)

pub returns : goal.returns
unfolding rule_length
returns c = record_whole _ _ _ c.two_bytes-size.ensures.value (omega arith) (sym c.two_bytes.ensures.value ∙ c.if-two_bytes-ne-RULE_KIND.false) c.if-size-le-AT_ITEMS.false (omega arith) false (sym c.if-items_fill.false ∙ c.items_fill.ensures)
