-- The proof of the checks that call one another. The measure is eight for each node of the range, and a rank: a check of the nodes below has fewer
-- nodes, and one of the same nodes a lower rank.
-- Assumes nothing.
use Prim.Native.Nat.{◌+◌, ◌*◌, ◌-◌}
use Rattle.type_nodes.specs.Moves.{arguments}
use Rattle.structure.specs.Checks.{checked, test, validate_cpp_template_argument, validate_parameter, validate_parameter_type_list}
use Rattle.structure.specs.Laws.Checks.{InType, InDeclarator, InExpression}
use Rattle.structure.specs.Laws.Every.{InElements, InArguments}
use Rattle.structure.proofs.level.Level.+validation.Given as goal

abbrev pub decreases-arguments : goal.decreases-arguments
decreases-arguments l = 8 * (l.self.now.to - l.self.now.from) + 3

abbrev pub decreases-either : goal.decreases-either
decreases-either l = 8 * (l.self.now.to - l.self.now.from) + 1

abbrev pub decreases-parameter : goal.decreases-parameter
decreases-parameter l = 8 * (l.self.now.to - l.self.now.from) + 1

abbrev pub decreases-test : goal.decreases-test
decreases-test l = 8 * (l.self.now.to - l.self.now.from) + 5

abbrev pub decreases-validate_abstract_declarator : goal.decreases-validate_abstract_declarator
decreases-validate_abstract_declarator l = 8 * (l.self.now.to - l.self.now.from)

abbrev pub decreases-validate_c_family_type : goal.decreases-validate_c_family_type
decreases-validate_c_family_type l = 8 * (l.self.now.to - l.self.now.from)

abbrev pub decreases-validate_cpp_template_argument : goal.decreases-validate_cpp_template_argument
decreases-validate_cpp_template_argument l = 8 * (l.self.now.to - l.self.now.from) + 2

abbrev pub decreases-validate_expression : goal.decreases-validate_expression
decreases-validate_expression l = 8 * (l.self.now.to - l.self.now.from)

abbrev pub decreases-validate_parameter_type_list : goal.decreases-validate_parameter_type_list
decreases-validate_parameter_type_list l = 8 * (l.self.now.to - l.self.now.from) + 3

abbrev pub invariant-arguments-loop-at : goal.invariant-arguments-loop-at
invariant-arguments-loop-at l = InArguments (validate_cpp_template_argument l.self.row.now.language l.self.row.now.kinds.now l.self.row.now.words.now (checked l.self.row.now.language l.self.row.now.kinds.now l.self.row.now.words.now)) (test l.self.row.now.language l.self.row.now.kinds.now l.self.row.now.words.now (checked l.self.row.now.language l.self.row.now.kinds.now l.self.row.now.words.now) arguments) l.self.row.now.tree.now l.self.row.now.kinds.now l.self.from l.self.to l.allowed l.left l.at

abbrev pub decreases-arguments-loop-at : goal.decreases-arguments-loop-at
decreases-arguments-loop-at l = l.self.to - l.at

abbrev pub invariant-validate_abstract_declarator-loop-at : goal.invariant-validate_abstract_declarator-loop-at
invariant-validate_abstract_declarator-loop-at l = InDeclarator l.self.row.now.language l.self.row.now.tree.now l.self.row.now.kinds.now l.self.row.now.words.now l.self.from l.self.to l.allowed l.left l.st l.before l.at

abbrev pub decreases-validate_abstract_declarator-loop-at : goal.decreases-validate_abstract_declarator-loop-at
decreases-validate_abstract_declarator-loop-at l = l.self.to - l.at

abbrev pub invariant-validate_c_family_type-loop-at : goal.invariant-validate_c_family_type-loop-at
invariant-validate_c_family_type-loop-at l = InType l.self.row.now.language l.self.row.now.tree.now l.self.row.now.kinds.now l.self.row.now.words.now l.self.from l.self.to l.allowed l.left l.st l.before l.word_before l.at

abbrev pub decreases-validate_c_family_type-loop-at : goal.decreases-validate_c_family_type-loop-at
decreases-validate_c_family_type-loop-at l = l.self.to - l.at

abbrev pub invariant-validate_expression-loop-at : goal.invariant-validate_expression-loop-at
invariant-validate_expression-loop-at l = InExpression l.self.row.now.language l.self.row.now.tree.now l.self.row.now.kinds.now l.self.row.now.words.now l.self.from l.self.to l.allowed l.left l.st l.at

abbrev pub decreases-validate_expression-loop-at : goal.decreases-validate_expression-loop-at
decreases-validate_expression-loop-at l = l.self.to - l.at

abbrev pub invariant-validate_parameter_type_list-loop-left : goal.invariant-validate_parameter_type_list-loop-left
invariant-validate_parameter_type_list-loop-left l = InElements (validate_parameter l.self.row.now.language l.self.row.now.kinds.now l.self.row.now.words.now (checked l.self.row.now.language l.self.row.now.kinds.now l.self.row.now.words.now)) (validate_parameter_type_list l.self.row.now.language l.self.row.now.kinds.now l.self.row.now.words.now (checked l.self.row.now.language l.self.row.now.kinds.now l.self.row.now.words.now)) l.self.row.now.tree.now l.self.row.now.kinds.now l.self.from l.self.to l.allowed l.left l.at

abbrev pub decreases-validate_parameter_type_list-loop-left : goal.decreases-validate_parameter_type_list-loop-left
decreases-validate_parameter_type_list-loop-left l = l.self.to - l.at
