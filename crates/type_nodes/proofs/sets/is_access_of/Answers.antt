-- `is_access_of` meets its contract. Assumes nothing.
use Rattle.rows.specs.Notation.{◌is_one_of◌}
use Rattle.std.proofs.Math.Bool.{or-false}
use borrow.Author.Tests.{eq-eqb, ne_eqb}
use Rattle.type_nodes.specs.Sets.{accesses_of}
use Rattle.type_nodes.proofs.sets.is_access_of.Goals as goal

pub returns-then-language-eq-FORTRAN : goal.returns-then-language-eq-FORTRAN
unfolding ◌is_one_of◌ accesses_of
returns-then-language-eq-FORTRAN c = simp (accesses_of, or-false, eq-eqb _ _ c.if-language-eq-FORTRAN.true)

pub returns : goal.returns
unfolding ◌is_one_of◌ accesses_of
returns c = simp (accesses_of, or-false, ne_eqb _ _ c.if-language-eq-FORTRAN.false)
