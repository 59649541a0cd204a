-- `specifier_scope` meets its contract. Assumes nothing.
use Rattle.type_nodes.specs.Specifiers.{specifier_scope}
use Rattle.type_nodes.specs.Laws.SpecifierTables.{moved}
use Rattle.type_nodes.proofs.specifiers.specifier_scope.Goals as goal

pub returns : goal.returns
unfolding specifier_scope
returns c = λ seen e. moved (c.on_if.ensures seen) (rw (c.is_keyword.ensures, c.leading_global_scope-leading.ensures seen e))
