-- `check_tree` meets its contract. Assumes nothing.
use mathlib.Core.Path.{ap, ◌∙◌}
use Rattle.std.specs.Prelude.{Err}
use Rattle.type_name.specs.Laws.Entry.{nodes_ready, says_tree, says_refused, says_over}
use Rattle.type_name.proofs.tree.check_tree.Goals as goal

pub check_nodes-requires : goal.check_nodes-requires
check_nodes-requires c = nodes_ready c.in-Ok.is c.requires.few c.requires.worded c.requires.tree_says

pub returns-in-Ok : goal.returns-in-Ok
returns-in-Ok c = says_tree c.args.head c.args.kinds.now c.args.words.now c.in-Ok.is c.check_nodes.ensures

pub returns-in-Err-Refused : goal.returns-in-Err-Refused
returns-in-Err-Refused c = says_refused c.args.head c.args.kinds.now c.args.words.now (c.in-Err-Refused.is ∙ ap Err (rw c.in-Err-Refused.is at c.in-Err-Refused.field-0-is))

pub returns-in-Err-AllowancePassed : goal.returns-in-Err-AllowancePassed
returns-in-Err-AllowancePassed c = says_over c.args.head c.args.kinds.now c.args.words.now (c.in-Err-AllowancePassed.is ∙ ap Err (rw c.in-Err-AllowancePassed.is at c.in-Err-AllowancePassed.field-0-is))
