-- `item_counts` meets its contract. Assumes nothing.
use mathlib.Core.Path.{refl, sym}
use borrow.Author.Tests.{le-ltb, lt-ltb}
use Rattle.rules.proofs.overlaps.item_counts.Goals as goal

pub returns-then-end-at : goal.returns-then-end-at
returns-then-end-at c = sym (rw (le-ltb _ _ c.if-end-at.true) refl)

pub returns : goal.returns
returns c = sym (rw (lt-ltb _ _ c.if-end-at.false) refl)
