-- `is_typeof_word` meets its contract. Assumes nothing.
use Rattle.type_nodes.specs.Sets.{typeof_words}
use Rattle.type_nodes.specs.Laws.Chains.{tests, tests_after, chain}
use Rattle.type_nodes.proofs.sets.is_typeof_word.Goals as goal

pub returns : goal.returns
unfolding typeof_words tests tests_after
returns c = chain c.args.word typeof_words
