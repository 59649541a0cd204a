-- `is_binary_or_assignment_operator` meets its contract. Assumes nothing.
use mathlib.Core.Path.{◌∙◌}
use borrow.Author.Tests.{eq-eqb, ne_eqb}
use Rattle.type_nodes.specs.Ranges.{operator_ranges}
use Rattle.type_nodes.specs.Laws.OperatorRanges.{ranges_decide}
use Rattle.type_nodes.proofs.sets.is_binary_or_assignment_operator.Goals as goal

pub returns-then-language-eq-FORTRAN : goal.returns-then-language-eq-FORTRAN
unfolding operator_ranges
returns-then-language-eq-FORTRAN c = c.is_fortran_operator.ensures ∙ (rw (eq-eqb _ _ c.if-language-eq-FORTRAN.true) at (ranges_decide c.args.language c.args.kind))

pub returns : goal.returns
unfolding operator_ranges
returns c = c.is_c_family_operator.ensures ∙ (rw (ne_eqb _ _ c.if-language-eq-FORTRAN.false) at (ranges_decide c.args.language c.args.kind))
