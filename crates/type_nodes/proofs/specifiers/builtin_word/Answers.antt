-- `builtin_word` meets its contract. Assumes nothing.
use Rattle.type_nodes.specs.Specifiers.{builtin_word}
use Rattle.type_nodes.specs.Laws.SpecifierTables.{moved}
use Rattle.type_nodes.proofs.specifiers.builtin_word.Goals as goal

pub returns : goal.returns
unfolding builtin_word
returns c = λ seen. moved (c.count_if.ensures seen) (rw c.is_sign.ensures)
