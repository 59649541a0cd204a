-- `stands_for` meets its contract. Assumes nothing.
use Rattle.std.proofs.Common.{refl}
use borrow.Author.Tests.{ne_eqb}
use Rattle.rows.specs.Format.{stands_for}
use Rattle.rows.proofs.head.stands_for.Goals as goal

pub returns-in_err-c : goal.returns-in_err-c
unfolding stands_for
returns-in_err-c c = rw c.in_err-c.was c.from_residual.ensures

pub returns-then-language-eq-C : goal.returns-then-language-eq-C
unfolding stands_for
returns-then-language-eq-C c = rw (c.in_ok-c.was, c.if-language-eq-C.true) refl

pub returns-then-language-eq-CPP : goal.returns-then-language-eq-CPP
unfolding stands_for
returns-then-language-eq-CPP c = rw (c.in_ok-c.was, c.if-language-eq-CPP.true) refl

pub returns-then-language-eq-FORTRAN : goal.returns-then-language-eq-FORTRAN
unfolding stands_for
returns-then-language-eq-FORTRAN c = rw (c.in_ok-c.was, c.if-language-eq-FORTRAN.true) refl

pub returns : goal.returns
unfolding stands_for
returns c = rw c.in_ok-c.was (simp (ne_eqb _ _ c.if-language-eq-C.false, ne_eqb _ _ c.if-language-eq-CPP.false, ne_eqb _ _ c.if-language-eq-FORTRAN.false))
