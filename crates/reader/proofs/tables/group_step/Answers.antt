-- `group_step` meets its contract. Assumes nothing.
use Rattle.reader.specs.Laws.TableWays.{round_plans, square_plans}
use Rattle.reader.proofs.tables.group_step.Goals as goal

pub returns-in-Some-Parenthesis : goal.returns-in-Some-Parenthesis
returns-in-Some-Parenthesis c = round_plans c.in-Some-Parenthesis.is (rw c.in-Some-Parenthesis.is at c.in-Some-Parenthesis.field-0-is) c.bracket_step.ensures

pub returns-in-Some-Bracket : goal.returns-in-Some-Bracket
returns-in-Some-Bracket c = square_plans c.in-Some-Bracket.is (rw c.in-Some-Bracket.is at c.in-Some-Bracket.field-0-is) c.bracket_step-in-Some-Bracket.ensures
