-- `is_cpp_elaborated_word` meets its contract. Assumes nothing.
use Rattle.type_nodes.specs.Sets.{cpp_elaborated_words}
use Rattle.type_nodes.specs.Laws.Chains.{tests, tests_after, chain}
use Rattle.type_nodes.proofs.sets.is_cpp_elaborated_word.Goals as goal

pub returns : goal.returns
unfolding cpp_elaborated_words tests tests_after
returns c = chain c.args.word cpp_elaborated_words
