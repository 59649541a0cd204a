-- `is_word_after_double` meets its contract. Assumes nothing.
use Rattle.type_nodes.specs.Sets.{words_after_double}
use Rattle.type_nodes.specs.Laws.Chains.{tests, tests_after, chain}
use Rattle.type_nodes.proofs.sets.is_word_after_double.Goals as goal

pub returns : goal.returns
unfolding words_after_double tests tests_after
returns c = chain c.args.word words_after_double
