-- `leading_global_scope` meets its contract. Assumes nothing.
use Rattle.type_nodes.specs.Specifiers.{leading_global_scope}
use Rattle.type_nodes.proofs.specifiers.leading_global_scope.Goals as goal

pub returns : goal.returns
unfolding leading_global_scope
returns c = λ seen e. rw e
