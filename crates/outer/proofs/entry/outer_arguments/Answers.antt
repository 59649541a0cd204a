-- `outer_arguments` meets its contract. Assumes nothing.
use mathlib.Core.Path.{sym, ◌∙◌}
use native.Mathlib.Omega.{arith}
use Rattle.outer.specs.Laws.Promised.{promised, too_short, no_word, no_list, has_list, list_there}
use Rattle.outer.proofs.entry.outer_arguments.Goals as goal

pub returns-then-tree : goal.returns-then-tree
returns-then-tree c = promised _ _ (too_short _ (omega arith))

pub returns-then-not-word_at_0 : goal.returns-then-not-word_at_0
returns-then-not-word_at_0 c = promised _ _ (no_word _ (sym c.word_at_0.ensures ∙ c.if-not-word_at_0.true))

pub returns-then-not-list_at_1 : goal.returns-then-not-list_at_1
returns-then-not-list_at_1 c = promised _ _ (no_list _ (sym c.list_at_1.ensures ∙ c.if-not-list_at_1.true))

pub count_arguments-requires : goal.count_arguments-requires
count_arguments-requires c = let l = list_there _ (sym c.list_at_1.ensures ∙ c.if-not-list_at_1.false) in (omega (arith, l.0, c.node_extent.ensures.value), omega (arith, c.node_extent.ensures.small), omega (arith, l.1, c.node_extent.ensures.value))

pub returns : goal.returns
returns c = promised _ _ (c.count_arguments.ensures ∙ rw c.node_extent.ensures.value (has_list _ (sym c.word_at_0.ensures ∙ c.if-not-word_at_0.false) (sym c.list_at_1.ensures ∙ c.if-not-list_at_1.false)))
