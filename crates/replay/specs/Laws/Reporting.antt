-- How long the lines of a report are.
-- Assumes nothing.
use Rattle.std.specs.Prelude.{ℕ, ◌+◌, ◌≤◌, List, length}
use Rattle.std.proofs.Common.{arith, length-append}
use Rattle.rows.specs.Words.{bytes}
use Rattle.text.specs.Text.{most_digits}
use Rattle.text.specs.Laws.Appending.{decimal_long}
use Rattle.replay.specs.Report.{labelled, place_text, values_text, part_length, place_length, values_length}

pub labelled_long : (label : List ℕ) (n : ℕ) → length (labelled label n) ≤ length label + most_digits
unfolding labelled
labelled_long label n = simp length-append (omega (arith, decimal_long n))

pub place_long : (case : ℕ) (part : List ℕ) (place : ℕ) → length part ≤ part_length → length (place_text case part place) ≤ place_length
unfolding place_text bytes
place_long case part place short = simp length-append (omega (arith, short, labelled_long (bytes "case ") case, labelled_long (bytes " ") place))

pub values_long : (expected given : ℕ) → length (values_text expected given) ≤ values_length
unfolding values_text bytes
values_long expected given = simp length-append (omega (arith, labelled_long (bytes ": expected ") expected, labelled_long (bytes ", got ") given))
