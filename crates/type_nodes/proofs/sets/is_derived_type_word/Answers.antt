-- `is_derived_type_word` meets its contract. Assumes nothing.
use Rattle.type_nodes.specs.Sets.{derived_type_words}
use Rattle.type_nodes.specs.Laws.Chains.{tests, tests_after, chain}
use Rattle.type_nodes.proofs.sets.is_derived_type_word.Goals as goal

pub returns : goal.returns
unfolding derived_type_words tests tests_after
returns c = chain c.args.word derived_type_words
