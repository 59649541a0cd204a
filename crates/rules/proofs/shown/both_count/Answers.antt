-- `both_count` meets its contract. Assumes nothing.
use mathlib.Core.Path.{sym, refl, ◌∙◌}
use Rattle.rules.proofs.shown.both_count.Goals as goal

pub item_counts-requires : goal.item_counts-requires
item_counts-requires c = c.requires.0

pub item_counts-requires-then-item_counts : goal.item_counts-requires-then-item_counts
item_counts-requires-then-item_counts c = c.requires.1

pub returns-then-item_counts : goal.returns-then-item_counts
returns-then-item_counts c = c.item_counts-then-item_counts.ensures ∙ sym (rw (sym c.item_counts.ensures ∙ c.if-item_counts.true) refl)

pub returns : goal.returns
returns c = sym (rw (sym c.item_counts.ensures ∙ c.if-item_counts.false) refl)
