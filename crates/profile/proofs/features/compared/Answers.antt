-- `compared` meets its contract. Assumes nothing.
use Rattle.profile.proofs.features.compared.Goals as goal

pub returns-then-ignoring : goal.returns-then-ignoring
returns-then-ignoring c = rw c.if-ignoring.true c.ignoring_case.ensures

pub returns : goal.returns
returns c = rw c.if-ignoring.false c.exactly.ensures
