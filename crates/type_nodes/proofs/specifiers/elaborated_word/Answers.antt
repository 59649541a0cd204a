-- `elaborated_word` meets its contract. Assumes nothing.
use Rattle.type_nodes.specs.Specifiers.{elaborated_word}
use Rattle.type_nodes.specs.Laws.SpecifierTables.{moved}
use Rattle.type_nodes.proofs.specifiers.elaborated_word.Goals as goal

pub returns : goal.returns
unfolding elaborated_word
returns c = λ seen e. moved (c.on_if.ensures seen) (rw (c.is_cpp_elaborated_word.ensures, e))
