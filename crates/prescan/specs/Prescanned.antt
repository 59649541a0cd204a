-- What the prescan's code answers, beside what the definition says.
-- Assumes nothing.
use Rattle.std.specs.Prelude.{◌≡◌, Result, Ok, Err}
use Rattle.rows.specs.declared.answer.TypeNameError.{TypeNameError}
use Rattle.prescan.specs.Prescan.{Scan, Scanned, passed, refused}

-- Passed where the definition passes, and its refusal where it refuses.
abbrev pub Same : Result (Unit {0}) TypeNameError → Scanned → Type 0
Same (Ok u) d = (s : Scan) × (d ≡ passed s)
Same (Err e) d = d ≡ refused e

-- The answer is the definition's.
pub record PrescanSays (r : Result (Unit {0}) TypeNameError) (d : Scanned) : Type 0 where
  pub same : Same r d
