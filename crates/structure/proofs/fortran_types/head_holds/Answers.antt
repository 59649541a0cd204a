-- `head_holds` meets its contract. Assumes nothing.
use mathlib.Core.Path.{sym, ◌∙◌}
use borrow.Author.Tests.{eq-eqb, ne_eqb}
use Rattle.structure.specs.FortranTypes.{fortran_head}
use Rattle.structure.proofs.fortran_types.head_holds.Goals as goal

pub returns-then-shape-ne-IDENTIFIER : goal.returns-then-shape-ne-IDENTIFIER
unfolding fortran_head
returns-then-shape-ne-IDENTIFIER c = rw (ne_eqb _ _ c.if-shape-ne-IDENTIFIER.true)

pub returns-then-is_derived_type_word : goal.returns-then-is_derived_type_word
unfolding fortran_head
returns-then-is_derived_type_word c = rw (eq-eqb _ _ c.if-shape-ne-IDENTIFIER.false, sym c.is_derived_type_word.ensures ∙ c.if-is_derived_type_word.true)

pub returns-then-word-eq-DOUBLE : goal.returns-then-word-eq-DOUBLE
unfolding fortran_head
returns-then-word-eq-DOUBLE c = rw (eq-eqb _ _ c.if-shape-ne-IDENTIFIER.false, sym c.is_derived_type_word.ensures ∙ c.if-is_derived_type_word.false, eq-eqb _ _ c.if-word-eq-DOUBLE.true) c.is_word_after_double.ensures

pub returns : goal.returns
unfolding fortran_head
returns c = rw (eq-eqb _ _ c.if-shape-ne-IDENTIFIER.false, sym c.is_derived_type_word.ensures ∙ c.if-is_derived_type_word.false, ne_eqb _ _ c.if-word-eq-DOUBLE.false)
