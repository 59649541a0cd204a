-- `name_word` meets its contract. Assumes nothing.
use Rattle.type_nodes.specs.Specifiers.{name_word}
use Rattle.type_nodes.specs.Laws.SpecifierTables.{moved}
use Rattle.type_nodes.proofs.specifiers.name_word.Goals as goal

pub returns : goal.returns
unfolding name_word
returns c = λ seen e. moved (c.on_if.ensures seen) (rw e)
