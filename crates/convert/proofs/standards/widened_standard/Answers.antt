-- `widened_standard` meets its contract. Assumes nothing.
use mathlib.Core.Path.{refl}
use borrow.Author.Tests.{ne_eqb}
use Rattle.convert.specs.Standards.{widened_standard}
use Rattle.convert.proofs.standards.widened_standard.Goals as goal

pub returns-then-standard-eq-STANDARD_255 : goal.returns-then-standard-eq-STANDARD_255
unfolding widened_standard
returns-then-standard-eq-STANDARD_255 c = rw c.if-standard-eq-STANDARD_255.true refl

pub returns : goal.returns
unfolding widened_standard
returns c = rw (ne_eqb _ _ c.if-standard-eq-STANDARD_255.false) refl
