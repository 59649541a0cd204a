-- `parenthesis_word` meets its contract. Assumes nothing.
use Rattle.type_nodes.specs.Specifiers.{parenthesis_word}
use Rattle.type_nodes.specs.Laws.SpecifierTables.{moved}
use Rattle.type_nodes.proofs.specifiers.parenthesis_word.Goals as goal

pub returns : goal.returns
unfolding parenthesis_word
returns c = moved (c.on_if.ensures _) (rw c.builtin_words_are_valid-valid.ensures)
