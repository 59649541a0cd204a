-- `group_kind` meets its contract. Assumes nothing.
use Rattle.reader.specs.Nodes.{number}
use Rattle.reader.proofs.tables.group_kind.Goals as goal

pub returns-in-Parenthesis : goal.returns-in-Parenthesis
unfolding number
returns-in-Parenthesis c = simp c.in-Parenthesis.is

pub returns-in-Bracket : goal.returns-in-Bracket
unfolding number
returns-in-Bracket c = simp c.in-Bracket.is
