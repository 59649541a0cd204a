-- `narrowed_standard` meets its contract. Assumes nothing.
use mathlib.Core.Path.{refl}
use borrow.Author.Tests.{ne_eqb}
use Rattle.convert.specs.Standards.{narrowed_standard}
use Rattle.convert.specs.Laws.Standards.{own_or}
use Rattle.convert.proofs.standards.narrowed_standard.Goals as goal

pub returns-then-standard-eq-STANDARD_254 : goal.returns-then-standard-eq-STANDARD_254
unfolding narrowed_standard
returns-then-standard-eq-STANDARD_254 c = rw c.if-standard-eq-STANDARD_254.true refl

pub returns-then-standard-eq-STANDARD_255 : goal.returns-then-standard-eq-STANDARD_255
unfolding narrowed_standard
returns-then-standard-eq-STANDARD_255 c = rw (c.unwrap_or.ensures, own_or, c.meant_standard.ensures, c.current.ensures, c.if-standard-eq-STANDARD_255.true) refl

pub returns : goal.returns
unfolding narrowed_standard
returns c = rw (ne_eqb _ _ c.if-standard-eq-STANDARD_254.false, ne_eqb _ _ c.if-standard-eq-STANDARD_255.false) refl
