-- `is_keyword` meets its contract. Assumes nothing.
use Rattle.type_nodes.specs.Sets.{is_keyword}
use Rattle.type_nodes.proofs.sets.is_keyword.Goals as goal

pub returns : goal.returns
unfolding is_keyword
returns c = rw (c.is_c_builtin_type_word.ensures, c.is_c_family_declarator_qualifier.ensures, c.is_elaborated_word.ensures, c.is_parenthesis_word.ensures)
