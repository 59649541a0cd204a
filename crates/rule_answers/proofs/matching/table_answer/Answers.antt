-- `table_answer` meets its contract. Assumes nothing.
use Rattle.std.proofs.lemmas.Result.{err_from_is_err_and}
use Rattle.rule_answers.specs.Laws.Tables.{table_malformed, table_there}
use Rattle.rule_answers.specs.Laws.Matching.{table_refused, row_refused, row_accepted}
use Rattle.rule_answers.proofs.matching.table_answer.Goals as goal

pub returns-in_default : goal.returns-in_default
returns-in_default c = rw c.from.ensures (table_refused c.args.file.now c.args.rules.now c.args.tree.now c.requires (table_malformed c.read_table-read.ensures c.in_default.is))

pub winner_answer-requires : goal.winner_answer-requires
winner_answer-requires c = c.requires.left _ _ c.in_ok-nodes.was

pub returns-in_err-nodes : goal.returns-in_err-nodes
returns-in_err-nodes c = let p = err_from_is_err_and c.from_residual.result c.from_residual.ensures.1 in rw (p.1, p.2) (row_refused c.args.file.now c.args.rules.now c.args.tree.now c.requires (table_there c.read_table-read.ensures c.in-Some.is).is c.in_err-nodes.was)

pub returns : goal.returns
returns c = row_accepted c.args.file.now c.args.rules.now c.args.tree.now c.requires (table_there c.read_table-read.ensures c.in-Some.is).is c.in_ok-nodes.was c.winner_answer.ensures
