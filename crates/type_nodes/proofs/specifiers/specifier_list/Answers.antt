-- `specifier_list` meets its contract. Assumes nothing.
use mathlib.Core.Path.{refl}
use Rattle.type_nodes.specs.Specifiers.{specifier_list}
use Rattle.type_nodes.specs.Laws.SpecifierTables.{moved}
use Rattle.type_nodes.proofs.specifiers.specifier_list.Goals as goal

pub returns : goal.returns
unfolding specifier_list
returns c = λ seen. moved (c.on_if.ensures seen) refl
