-- `is_c_builtin_type_word` meets its contract. Assumes nothing.
use Rattle.type_nodes.specs.Sets.{builtin_type_words, is_c_builtin_type_word}
use Rattle.type_nodes.specs.Laws.Chains.{tests, tests_after, chain}
use Rattle.type_nodes.proofs.sets.is_c_builtin_type_word.Goals as goal

pub returns : goal.returns
unfolding builtin_type_words is_c_builtin_type_word tests tests_after
returns c = chain c.args.word builtin_type_words
