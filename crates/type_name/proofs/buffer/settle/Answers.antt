-- `settle` meets its contract. Assumes nothing.
use Rattle.type_name.specs.Laws.FinalBuffer.{accepted_fits, settled_tree, settled_refused}
use Rattle.type_name.proofs.buffer.settle.Goals as goal

pub returns-in-Ok : goal.returns-in-Ok
returns-in-Ok c = settled_tree c.args.tree.now c.in-Ok.is (accepted_fits c.args.tree.now c.in-Ok.is c.requires) (c.fill.ensures.after (λ y e. e))

pub returns-in-Err : goal.returns-in-Err
returns-in-Err c = settled_refused c.args.tree.now c.in-Err.is (c.fill-in-Err.ensures.after (λ y e. e))
