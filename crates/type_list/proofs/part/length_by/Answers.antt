-- `length_by` meets its contract. Assumes nothing.
use Rattle.type_list.proofs.part.length_by.Goals as goal

pub returns-in-Err : goal.returns-in-Err
returns-in-Err c = rw c.in-Err.is c.up_to_cut.ensures
