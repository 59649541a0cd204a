-- `read_checked` meets its contract. Assumes nothing.
use Rattle.type_name.specs.Answers.{answer_of, unlimited}
use Rattle.type_name.proofs.tree.read_checked.Goals as goal

pub read_tree-parsed-requires : goal.read_tree-parsed-requires
read_tree-parsed-requires c = (c.requires.few, c.requires.room)

pub check_tree-requires : goal.check_tree-requires
check_tree-requires c = record { few = c.requires.few; worded = c.requires.worded; reading = _; tree_says = c.read_tree-parsed.ensures }

pub returns : goal.returns
unfolding answer_of unlimited
returns c = c.check_tree.ensures.says _ c.read_tree-parsed.ensures
