-- Steps of the code that change no bracket.
-- Assumes nothing.
use Rattle.std.specs.Prelude.{ℕ, suc, ◌≤◌, ◌≡◌, List, [], Ok, Err}
use Rattle.std.proofs.Common.{sym, ap, ◌∙◌}
use Rattle.rows.specs.declared.answer.TypeNameError.{TypeNameError}
use Rattle.prescan.specs.Matcher.{Opener}
use Rattle.prescan.specs.Prescan.{Scan, Scanned, passed, refused, past}
use Rattle.prescan.specs.ScanState.{scan_of, Past, Steps}
use Rattle.prescan.specs.declared.scan.ScanState.{ScanState}

pub goes_on : {held : List Opener} {s r : ScanState} {k angles first : ℕ} {d : Scanned} → Past s k s.depth angles first r
    → d ≡ passed (past k (scan_of [] s) held angles first) → angles ≤ suc s.angles → Steps held s (Ok r) d
unfolding past
goes_on {held} p e few = record { says = ap passed (p.is held) ∙ sym e; keeps = (p.same_depth, rw (ap (λ (c : Scan). c.angle_depth) (p.is [])) few) }

pub stops : {held : List Opener} {s : ScanState} {e : TypeNameError} {d : Scanned} → d ≡ refused e → Steps held s (Err e) d
stops e = record { says = sym e; keeps = tt }
