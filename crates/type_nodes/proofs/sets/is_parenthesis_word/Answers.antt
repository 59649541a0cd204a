-- `is_parenthesis_word` meets its contract. Assumes nothing.
use Rattle.type_nodes.specs.Sets.{parenthesis_words}
use Rattle.type_nodes.specs.Laws.Chains.{tests, tests_after, chain}
use Rattle.type_nodes.proofs.sets.is_parenthesis_word.Goals as goal

pub returns : goal.returns
unfolding parenthesis_words tests tests_after
returns c = chain c.args.word parenthesis_words
