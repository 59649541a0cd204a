-- `all_fit` meets its contract. The loop's invariant: what is passed fits, and what is left decides. Assumes nothing.
use Prim.Native.Nat.{◌≤◌}
use mathlib.Core.Path.{◌≡◌}
use mathlib.Core.Bool.{◌&&◌}
use lib.ListN.{length, drop}
use Rattle.rows.specs.Records.{in_range}
use Rattle.rows.proofs.token.all_fit.Given as goal

abbrev pub invariant-loop-byte : goal.invariant-loop-byte
invariant-loop-byte l = (l.byte-index ≤ length l.word) × ((l.fits && in_range (drop l.byte-index l.word)) ≡ in_range l.word)
