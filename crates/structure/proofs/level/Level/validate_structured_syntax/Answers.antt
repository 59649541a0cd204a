-- `validate_structured_syntax` meets its contract. Assumes nothing.
use borrow.Author.Tests.{eq-eqb, ne_eqb}
use Rattle.structure.specs.Syntax.{validate_structured_syntax}
use Rattle.structure.specs.Laws.Inside.{by_name}
use Rattle.structure.proofs.level.Level.validate_structured_syntax.Goals as goal

pub returns-then-self-eq-FORTRAN : goal.returns-then-self-eq-FORTRAN
unfolding validate_structured_syntax
returns-then-self-eq-FORTRAN c = by_name _ (λ x. rw (eq-eqb _ _ c.if-self-eq-FORTRAN.true)) c.validate_fortran_type.ensures

pub returns : goal.returns
unfolding validate_structured_syntax
returns c = by_name _ (λ x. rw (ne_eqb _ _ c.if-self-eq-FORTRAN.false)) c.validate_c_family_type.ensures
