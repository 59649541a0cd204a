-- `settle_list` meets its contract. Assumes nothing.
use Rattle.type_list.proofs.entry.settle_list.Goals as goal

pub settle-requires : goal.settle-requires
settle-requires c = rw c.in-Ok.is at c.requires

pub returns-in-Ok : goal.returns-in-Ok
returns-in-Ok c = rw c.in-Ok.is c.settle.ensures

pub returns-in-Err : goal.returns-in-Err
returns-in-Err c = rw c.in-Err.is c.settle-in-Err.ensures
