-- `declared_standards` meets its contract. Assumes nothing.
use mathlib.Core.Path.{refl}
use borrow.Author.Tests.{ne_eqb}
use Rattle.rows.specs.Format.{declared}
use Rattle.rows.proofs.head.declared_standards.Goals as goal

pub returns-then-language-eq-C : goal.returns-then-language-eq-C
unfolding declared
returns-then-language-eq-C c = rw c.if-language-eq-C.true refl

pub returns-then-language-eq-CPP : goal.returns-then-language-eq-CPP
unfolding declared
returns-then-language-eq-CPP c = rw c.if-language-eq-CPP.true refl

pub returns-then-language-eq-FORTRAN : goal.returns-then-language-eq-FORTRAN
unfolding declared
returns-then-language-eq-FORTRAN c = rw c.if-language-eq-FORTRAN.true refl

pub returns : goal.returns
unfolding declared
returns c = simp (declared, ne_eqb _ _ c.if-language-eq-C.false, ne_eqb _ _ c.if-language-eq-CPP.false, ne_eqb _ _ c.if-language-eq-FORTRAN.false)
