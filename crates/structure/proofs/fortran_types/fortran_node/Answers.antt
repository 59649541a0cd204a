-- `fortran_node` meets its contract: an arm of the table at each way out. Assumes nothing.
use Rattle.structure.specs.Laws.Tables.{fortran_1, fortran_2, fortran_3, fortran_4}
use Rattle.structure.proofs.fortran_types.fortran_node.Goals as goal

pub returns-then-shape-eq-IDENTIFIER : goal.returns-then-shape-eq-IDENTIFIER
returns-then-shape-eq-IDENTIFIER c = (fortran_1 _ _ _ _ c.if-shape-eq-IDENTIFIER.true)

pub returns-then-shape-st : goal.returns-then-shape-st
returns-then-shape-st c = (fortran_2 _ _ _ _ c.if-shape-eq-IDENTIFIER.false c.if-shape-st.true)

pub returns-then-shape-st-2 : goal.returns-then-shape-st-2
returns-then-shape-st-2 c = (fortran_3 _ _ _ _ c.if-shape-eq-IDENTIFIER.false c.if-shape-st.false c.if-shape-st-2.true)

pub returns : goal.returns
returns c = (fortran_4 _ _ _ _ c.if-shape-eq-IDENTIFIER.false c.if-shape-st.false c.if-shape-st-2.false)
