-- `letter` meets its contract. Assumes nothing.
use native.Mathlib.Omega.{arith}
use Rattle.rows.specs.Words.{bytes}
use Rattle.listing.specs.Listing.{letter}
use Rattle.listing.specs.Laws.Lines.{letter_same, letter_none}
use Rattle.listing.proofs.lines.letter.Goals as goal

pub returns-in-0 : goal.returns-in-0
unfolding letter bytes
returns-in-0 c = letter_same 0 c.args.kind (omega arith)

pub returns-in-1 : goal.returns-in-1
unfolding letter bytes
returns-in-1 c = letter_same 1 c.args.kind (omega arith)

pub returns-in-2 : goal.returns-in-2
unfolding letter bytes
returns-in-2 c = letter_same 2 c.args.kind (omega arith)

pub returns-in-3 : goal.returns-in-3
unfolding letter bytes
returns-in-3 c = letter_same 3 c.args.kind (omega arith)

pub returns-in-4 : goal.returns-in-4
unfolding letter bytes
returns-in-4 c = letter_same 4 c.args.kind (omega arith)

pub returns-in_default : goal.returns-in_default
returns-in_default c = letter_none _ (omega arith)
