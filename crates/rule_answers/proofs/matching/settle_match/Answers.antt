-- `settle_match` meets its contract. Assumes nothing.
use Rattle.rule_answers.proofs.matching.settle_match.Goals as goal

pub returns-in-Err : goal.returns-in-Err
returns-in-Err c = rw c.in-Err.is c.settle.ensures
