-- `validate_c_bit_int_sign` meets its contract. Assumes nothing.
use Rattle.type_nodes.specs.Combination.{no_builtin_word, validate_c_bit_int_sign}
use Rattle.type_nodes.proofs.combination.validate_c_bit_int_sign.Goals as goal

pub returns : goal.returns
unfolding validate_c_bit_int_sign no_builtin_word
returns c = rw (c.builtin_words-words.ensures, c.times.ensures, c.times-2.ensures)
