-- `find_names` meets its contract. Assumes nothing.
use native.Mathlib.Omega.{arith}
use mathlib.Core.Path.{refl}
use Rattle.names.specs.Laws.Tables.{some_table}
use Rattle.names.specs.Laws.Told.{listed_there, malformed_there, marks_of_row}
use Rattle.named_answers.proofs.name_marks.find_names.Goals as goal

pub invariant_of-table : goal.invariant_of-table
invariant_of-table c = record { held = some_table (record { no_heads = refl; for_links = omega arith; for_places = omega arith }) }

pub mark_names-requires : goal.mark_names-requires
mark_names-requires c = record { tokens = c.requires.tokens; of_row = c.requires.of_row; for_marks = c.requires.for_marks }

pub returns-then-not-read_names : goal.returns-then-not-read_names
returns-then-not-read_names c = record { told = malformed_there c.read_names.ensures.told c.if-not-read_names.true }

pub returns : goal.returns
returns c = let l = listed_there c.read_names.ensures.told c.if-not-read_names.false in record { told = (l.names, l.is, marks_of_row l (rw c.read_names.ensures.kept at c.mark_names.ensures) l.names l.is) }
