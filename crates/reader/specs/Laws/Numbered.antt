-- The reading's refusals are those from 20 to 22.
-- Assumes nothing.
use Rattle.std.specs.Prelude.{ℕ, ◌≡◌, refl, Bool, List}
use Rattle.rows.specs.Laws.Numbered.{Between}
use Rattle.reader.specs.Reading.{Fault, refusal, no_list, Got, got, bad, reading}
use Rattle.reader.specs.Laws.Refusals.{Refuses, too_deep, not_closed, wrong_closer, refuses}

abbrev pub FaultNumbered : Fault → Type 0
FaultNumbered (refusal e) = Between 20 22 e
FaultNumbered no_list = Unit {0}

abbrev pub Numbered : Got → Type 0
Numbered (got x a h m) = Unit {0}
Numbered (bad e m) = FaultNumbered e

refuses_numbered : {e : Fault} → Refuses e → FaultNumbered e
refuses_numbered too_deep = tt
refuses_numbered not_closed = tt
refuses_numbered wrong_closer = tt

module _ (cpp : Bool) (row : List ℕ) where
  by_got : (g : Got) → reading cpp row ≡ g → Numbered g
  by_got (got x a h m) p = tt
  by_got (bad e m) p = refuses_numbered (refuses cpp row p)

  pub reading_numbered : Numbered (reading cpp row)
  reading_numbered = by_got (reading cpp row) refl
