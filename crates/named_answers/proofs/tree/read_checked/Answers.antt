-- `read_checked` meets its contract. Assumes nothing.
use native.Mathlib.Omega.{arith}
use Rattle.named_answers.specs.Laws.Entry.{row_known, other_language, names_malformed, names_checked}
use Rattle.named_answers.proofs.tree.read_checked.Goals as goal

pub returns-then-head-ne-CPP : goal.returns-then-head-ne-CPP
returns-then-head-ne-CPP c = rw c.from.ensures (other_language c.args.head c.args.file.now c.args.kinds.now c.args.words.now c.args.names.now c.if-head-ne-CPP.true)

pub find_names-requires : goal.find_names-requires
find_names-requires c = record { tokens = c.requires.tokens; of_row = c.requires.row_in.of_row; for_marks = omega (arith, c.requires.ready.few) }

pub returns-then-not-find_names : goal.returns-then-not-find_names
returns-then-not-find_names c = rw c.from-then-not-find_names.ensures (names_malformed c.args.head c.args.file.now c.args.kinds.now c.args.words.now c.args.names.now c.if-head-ne-CPP.false c.if-not-find_names.true c.find_names.ensures)

pub read_tree-parsed-requires : goal.read_tree-parsed-requires
read_tree-parsed-requires c = record { few = c.requires.ready.few; room = c.requires.ready.room; known = row_known c.requires.row_in }

pub check_tree-requires : goal.check_tree-requires
check_tree-requires c = record { few = c.requires.ready.few; worded = c.requires.ready.worded; reading = _; tree_says = c.read_tree-parsed.ensures }

pub returns : goal.returns
returns c = names_checked c.args.head c.args.file.now c.args.kinds.now c.args.words.now c.args.names.now c.if-head-ne-CPP.false c.if-not-find_names.false c.find_names.ensures c.read_tree-parsed.ensures c.check_tree.ensures
