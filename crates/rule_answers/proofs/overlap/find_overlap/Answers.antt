-- `find_overlap` meets its contract. Assumes nothing.
use Rattle.rule_answers.specs.Laws.Tables.{table_malformed, table_there}
use Rattle.rule_answers.specs.Laws.Overlaps.{malformed_told, none_further, pair_inside, pair_told}
use borrow.Author.Rules.{rules}
use Rattle.rule_answers.proofs.overlap.find_overlap.Goals as goal

pub returns-in_default : goal.returns-in_default
returns-in_default c = malformed_told (table_malformed c.read_table-read.ensures c.in_default.is)

pub next_pair-found-requires : goal.next_pair-found-requires
next_pair-found-requires c = search rules

pub show_pair-requires : goal.show_pair-requires
show_pair-requires c = let inside = pair_inside (table_there c.read_table-read.ensures c.in-Some.is) _ _ _ c.next_pair-found.ensures c.in-Some-found.is in (inside.0, inside.1)

pub returns-in-None : goal.returns-in-None
returns-in-None c = none_further (table_there c.read_table-read.ensures c.in-Some.is) _ _ _ c.next_pair-found.ensures c.in-None.is

pub returns-in-Some-found : goal.returns-in-Some-found
returns-in-Some-found c = pair_told (table_there c.read_table-read.ensures c.in-Some.is) _ _ _ c.next_pair-found.ensures c.in-Some-found.is c.show_pair.ensures
