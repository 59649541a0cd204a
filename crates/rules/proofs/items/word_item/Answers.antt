-- `word_item` meets its contract. Assumes nothing.
use native.Mathlib.Omega.{arith}
use mathlib.Core.Path.{refl, sym, ◌∙◌}
use mathlib.Core.Bool.{true, false}
use Rattle.rules.specs.Laws.Items.{word_cut_off, word_empty, word_whole}
use Rattle.rules.proofs.items.word_item.Goals as goal

pub returns-then-end-at-lt-AFTER_TWO : goal.returns-then-end-at-lt-AFTER_TWO
returns-then-end-at-lt-AFTER_TWO c = word_cut_off _ _ _ _ refl (omega arith)

pub returns-then-end-from : goal.returns-then-end-from
returns-then-end-from c = word_cut_off _ _ _ _ c.from-size.ensures (omega arith)

pub returns-then-size-eq0 : goal.returns-then-size-eq0
returns-then-size-eq0 c = word_empty _ _ _ _ c.from-size.ensures (omega arith) c.if-size-eq0.true

pub returns-then-is_word : goal.returns-then-is_word
returns-then-is_word c = word_whole _ _ _ _ c.from-size.ensures (omega arith) c.requires.1 c.if-size-eq0.false (omega (arith, c.from-size.ensures)) true (sym c.if-is_word.true ∙ c.is_word.ensures)

pub returns : goal.returns
returns c = word_whole _ _ _ _ c.from-size.ensures (omega arith) c.requires.1 c.if-size-eq0.false (omega (arith, c.from-size.ensures)) false (sym c.if-is_word.false ∙ c.is_word.ensures)
