-- `qualifier_word` meets its contract. Assumes nothing.
use Rattle.type_nodes.specs.Specifiers.{qualifier_word}
use Rattle.type_nodes.specs.Laws.SpecifierTables.{moved}
use Rattle.type_nodes.proofs.specifiers.qualifier_word.Goals as goal

pub returns : goal.returns
unfolding qualifier_word
returns c = moved (c.count_if.ensures _) (rw c.has-new.ensures)
