-- `kind_item` meets its contract. Assumes nothing.
use native.Mathlib.Omega.{arith}
use Rattle.rules.specs.Laws.Items.{kind_cut_off, kind_nought, kind_too_great, kind_whole}
use Rattle.rules.proofs.items.kind_item.Goals as goal

pub returns-then-end-at-lt-AFTER_TWO : goal.returns-then-end-at-lt-AFTER_TWO
returns-then-end-at-lt-AFTER_TWO c = kind_cut_off _ _ _ (omega arith)

pub returns-then-kind-eq0 : goal.returns-then-kind-eq0
returns-then-kind-eq0 c = kind_nought _ _ _ (omega arith) c.if-kind-eq0.true

pub returns-then-kind-gt-END : goal.returns-then-kind-gt-END
returns-then-kind-gt-END c = kind_too_great _ _ _ (omega arith) c.if-kind-gt-END.true

pub returns : goal.returns
returns c = kind_whole _ _ _ (omega arith) c.if-kind-eq0.false c.if-kind-gt-END.false
