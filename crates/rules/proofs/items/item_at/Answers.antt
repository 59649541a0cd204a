-- `item_at` meets its contract. Assumes nothing.
use mathlib.Core.Path.{◌∙◌}
use Rattle.rules.specs.Laws.Items.{item_is_word, item_is_kind, item_is_plain, item_is_none}
use Rattle.rules.proofs.items.item_at.Goals as goal

pub returns-then-byte-eq-WORD : goal.returns-then-byte-eq-WORD
returns-then-byte-eq-WORD c = c.word_item.ensures ∙ item_is_word _ _ _ c.if-byte-eq-WORD.true

pub returns-then-byte-eq-KIND : goal.returns-then-byte-eq-KIND
returns-then-byte-eq-KIND c = c.kind_item.ensures ∙ item_is_kind _ _ _ c.if-byte-eq-KIND.true

pub returns-then-byte-le-ANY : goal.returns-then-byte-le-ANY
returns-then-byte-le-ANY c = item_is_plain _ _ _ c.if-byte-eq-WORD.false c.if-byte-eq-KIND.false c.if-byte-le-ANY.true

pub returns : goal.returns
returns c = item_is_none _ _ _ c.if-byte-eq-WORD.false c.if-byte-eq-KIND.false c.if-byte-le-ANY.false
