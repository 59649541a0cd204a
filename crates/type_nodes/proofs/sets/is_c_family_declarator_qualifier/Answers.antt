-- `is_c_family_declarator_qualifier` meets its contract. Assumes nothing.
use Rattle.type_nodes.specs.Sets.{declarator_qualifiers, is_c_family_declarator_qualifier}
use Rattle.type_nodes.specs.Laws.Chains.{tests, tests_after, chain}
use Rattle.type_nodes.proofs.sets.is_c_family_declarator_qualifier.Goals as goal

pub returns : goal.returns
unfolding declarator_qualifiers is_c_family_declarator_qualifier tests tests_after
returns c = chain c.args.word declarator_qualifiers
