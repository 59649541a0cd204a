-- `validate_c_builtin_combination` meets its contract. Assumes nothing.
use Rattle.type_nodes.specs.Sets.{builtin_type_words, scalar_bases}
use Rattle.type_nodes.specs.Combination.{builtin_words, validate_c_builtin_combination}
use Rattle.type_nodes.proofs.combination.validate_c_builtin_combination.Goals as goal

pub returns : goal.returns
unfolding validate_c_builtin_combination builtin_words builtin_type_words scalar_bases
returns c = simp (c.too_often.ensures, c.how_many.ensures, c.how_many-2.ensures, c.has-short.ensures, c.has-long.ensures, c.has-signed.ensures, c.has-unsigned.ensures, c.has.ensures, c.has-2.ensures, c.has-3.ensures, c.has-4.ensures, c.times.ensures)
