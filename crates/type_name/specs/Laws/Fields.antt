-- The parts of answers, heads and rows: where two are the same, so are their parts.
-- Assumes nothing.
use Rattle.rows.specs.Answer.{Answer}
use Rattle.std.specs.Prelude.{ℕ, ◌≤◌, ◌≡◌, Bool, true, false, ◌&&◌, List, T, leb, Ok, Result, Err}
use Rattle.std.proofs.Common.{arith, leb→le, le→leb}
use Rattle.std.proofs.Math.Facts.{and_yes}
use Rattle.rows.specs.Records.{RowToken, Row, row}
use Rattle.rows.specs.Refusals.{refusal_of}
use Rattle.rows.specs.Laws.Numbered.{Between}
use Rattle.rows.specs.declared.answer.TypeNameError.{TypeNameError}
use Rattle.rows.specs.declared.head.Head.{Head}

-- 1 if the answer is refused.
abbrev pub is_refused : Answer → ℕ
is_refused (Ok a) = 0
is_refused (Err r) = 1

-- The refusal's number, 0 if the answer is accepted.
abbrev pub number_in : Answer → ℕ
number_in (Ok a) = 0
number_in (Err r) = (refusal_of r.error).number

-- The node count, 0 if the answer is refused.
abbrev pub nodes_in : Answer → ℕ
nodes_in (Ok a) = a.nodes
nodes_in (Err r) = 0

abbrev pub steps_in : Answer → ℕ
steps_in (Ok a) = a.steps
steps_in (Err r) = r.steps

pub bounds : (low high : ℕ) (e : TypeNameError) → Between low high e → (low ≤ (refusal_of e).number) × ((refusal_of e).number ≤ high)
bounds low high e t =
    let u = and_yes (leb low (refusal_of e).number) (leb (refusal_of e).number high) t in
    (leb→le low (refusal_of e).number u.0, leb→le (refusal_of e).number high u.1)

-- A wider range.
pub wider : (low high low' high' : ℕ) → low' ≤ low → high ≤ high' → (e : TypeNameError) → Between low high e → Between low' high' e
wider low high low' high' p q e t =
    let u = bounds low high e t in
    both (leb low' (refusal_of e).number) (leb (refusal_of e).number high')
    (le→leb low' (refusal_of e).number (omega (arith, u.0)))
    (le→leb (refusal_of e).number high' (omega (arith, u.1)))
  where
    both : (a b : Bool) → T a → T b → T (a && b)
    both true true u v = tt
    both false b u v = elim u [ ]
    both true false u v = elim v [ ]

-- A file has one row and one head.
pub one_row : (r : Row) (ts ts' : List RowToken) → r ≡ row ts → r ≡ row ts' → ts ≡ ts'
one_row r ts ts' p q = cc

pub one_head : (g : Result Head TypeNameError) (h h' : Head) → g ≡ Ok h → g ≡ Ok h' → h ≡ h'
one_head g h h' p q = cc
