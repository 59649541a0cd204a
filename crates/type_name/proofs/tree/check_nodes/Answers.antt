-- `check_nodes` meets its contract. Assumes nothing.
use mathlib.Core.Path.{sym, ap, ◌∙◌}
use Rattle.std.specs.Prelude.{Err}
use native.Mathlib.Omega.{arith}
use Rattle.type_name.specs.Laws.Entry.{left_within, tree_ready, steps_added, unchecked, verdict_told}
use Rattle.type_name.proofs.tree.check_nodes.Goals as goal

pub overflow_cast-count : goal.overflow_cast-count
overflow_cast-count c = omega (arith, c.requires.tree_in.few, c.requires.few)

pub returns-then-not-asks_structure : goal.returns-then-not-asks_structure
returns-then-not-asks_structure c = record { says = λ x t. c.check_profile.ensures ∙ unchecked c.args.head.language c.args.head.standard c.args.head.flag c.args.head.allowance c.args.kinds.now c.args.words.now t (sym c.asks_structure.ensures ∙ c.if-not-asks_structure.true) }

pub overflow_sub-allowed : goal.overflow_sub-allowed
overflow_sub-allowed c = omega (arith, c.requires.tree_in.allowed)

pub invariant_of-level : goal.invariant_of-level
invariant_of-level c = record { stands = tree_ready c.requires.tree_in c.requires.worded c.requires.few }

pub overflow_cast-left : goal.overflow_cast-left
overflow_cast-left c = omega (arith, left_within _ _ (sym c.in-Ok.is ∙ steps_added c.requires.tree_in c.validate_structured_syntax-verdict.ensures))

pub overflow_sub-head : goal.overflow_sub-head
overflow_sub-head c = omega (arith, left_within _ _ (sym c.in-Ok.is ∙ steps_added c.requires.tree_in c.validate_structured_syntax-verdict.ensures))

pub overflow_cast-result : goal.overflow_cast-result
overflow_cast-result c = omega (arith, left_within _ _ (sym (c.in-Err-Fails.is ∙ ap Err (rw c.in-Err-Fails.is at c.in-Err-Fails.field-0-is)) ∙ steps_added c.requires.tree_in c.validate_structured_syntax-verdict.ensures))

pub overflow_sub-result : goal.overflow_sub-result
overflow_sub-result c = omega (arith, left_within _ _ (sym (c.in-Err-Fails.is ∙ ap Err (rw c.in-Err-Fails.is at c.in-Err-Fails.field-0-is)) ∙ steps_added c.requires.tree_in c.validate_structured_syntax-verdict.ensures))

pub returns-in-Ok : goal.returns-in-Ok
returns-in-Ok c = record { says = λ x t. c.check_profile-in-Ok.ensures ∙ verdict_told c.args.head.language c.args.head.standard c.args.head.flag c.args.head.allowance c.args.kinds.now c.args.words.now t (sym c.asks_structure.ensures ∙ c.if-not-asks_structure.false) (sym c.in-Ok.is ∙ steps_added t c.validate_structured_syntax-verdict.ensures) }

pub returns-in-Err-Fails : goal.returns-in-Err-Fails
returns-in-Err-Fails c = record { says = λ x t. verdict_told c.args.head.language c.args.head.standard c.args.head.flag c.args.head.allowance c.args.kinds.now c.args.words.now t (sym c.asks_structure.ensures ∙ c.if-not-asks_structure.false) (sym (c.in-Err-Fails.is ∙ ap Err (rw c.in-Err-Fails.is at c.in-Err-Fails.field-0-is)) ∙ steps_added t c.validate_structured_syntax-verdict.ensures) }

pub returns-in-Err-Spent : goal.returns-in-Err-Spent
returns-in-Err-Spent c = record { says = λ x t. verdict_told c.args.head.language c.args.head.standard c.args.head.flag c.args.head.allowance c.args.kinds.now c.args.words.now t (sym c.asks_structure.ensures ∙ c.if-not-asks_structure.false) (sym (c.in-Err-Spent.is ∙ ap Err (rw c.in-Err-Spent.is at c.in-Err-Spent.field-0-is)) ∙ steps_added t c.validate_structured_syntax-verdict.ensures) }
