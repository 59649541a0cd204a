-- `meant_standard` meets its contract. Assumes nothing.
use borrow.Author.Tests.{lt-ltb, le-ltb, eq-eqb, ne_eqb}
use Rattle.rows.specs.Format.{meant}
use Rattle.rows.proofs.head.meant_standard.Goals as goal

pub returns-then-standard-declared_standards : goal.returns-then-standard-declared_standards
unfolding meant
returns-then-standard-declared_standards c = simp (meant, lt-ltb _ _ (rw c.declared_standards.ensures at c.if-standard-declared_standards.true))

pub returns-then-standard-eq-STANDARD_255 : goal.returns-then-standard-eq-STANDARD_255
unfolding meant
returns-then-standard-eq-STANDARD_255 c = simp (meant, le-ltb _ _ (rw c.declared_standards.ensures at c.if-standard-declared_standards.false), eq-eqb _ _ c.if-standard-eq-STANDARD_255.true) c.stands_for.ensures

pub returns-then-standard-eq-STANDARD_254 : goal.returns-then-standard-eq-STANDARD_254
unfolding meant
returns-then-standard-eq-STANDARD_254 c = simp (meant, le-ltb _ _ (rw c.declared_standards.ensures at c.if-standard-declared_standards.false), ne_eqb _ _ c.if-standard-eq-STANDARD_255.false, eq-eqb _ _ c.if-standard-eq-STANDARD_254.true) c.stands_for-then-standard-eq-STANDARD_254.ensures

pub returns : goal.returns
unfolding meant
returns c = simp (meant, le-ltb _ _ (rw c.declared_standards.ensures at c.if-standard-declared_standards.false), ne_eqb _ _ c.if-standard-eq-STANDARD_255.false, ne_eqb _ _ c.if-standard-eq-STANDARD_254.false)
