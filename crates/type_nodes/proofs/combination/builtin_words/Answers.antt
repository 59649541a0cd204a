-- `builtin_words` meets its contract. Assumes nothing.
use Rattle.type_nodes.specs.Sets.{builtin_type_words}
use Rattle.type_nodes.specs.Combination.{builtin_words}
use Rattle.type_nodes.proofs.combination.builtin_words.Goals as goal

pub returns : goal.returns
unfolding builtin_words builtin_type_words
returns c = c.how_many.ensures
