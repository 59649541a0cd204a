-- `read_names` meets its contract. The loop's invariant: the names so far are distinct and in the table. Assumes nothing.
use Prim.Native.Nat.{◌-◌}
use mathlib.Core.Path.{◌≡◌}
use lib.ListN.{length}
use Rattle.names.specs.Laws.ReadLoop.{NamesLoop}
use Rattle.names.proofs.table.NameTable.read_names.Given as goal

abbrev pub invariant-loop-at : goal.invariant-loop-at
invariant-loop-at l = NamesLoop l.names l.self.heads.now l.self.links.now l.self.places.now l.at l.self.count × (l.self.names ≡ l.initial.self.names)
    × ((l.self.heads.ghost_name ≡ l.initial.self.heads.ghost_name) × (l.self.links.ghost_name ≡ l.initial.self.links.ghost_name) × (l.self.places.ghost_name ≡ l.initial.self.places.ghost_name))
    × ((length l.self.heads.now ≡ length l.initial.self.heads.now) × (length l.self.links.now ≡ length l.initial.self.links.now) × (length l.self.places.now ≡ length l.initial.self.places.now))

abbrev pub decreases-loop-at : goal.decreases-loop-at
decreases-loop-at l = length l.names - l.at
