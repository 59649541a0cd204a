-- Nodes before what comes of the rest of their level, under the steps left: what a loop over nodes keeps, and one turn of it.
-- Assumes nothing.
use Rattle.std.specs.Prelude.{ℕ, ◌≤◌, ◌<◌, ◌≡◌, refl, Bool, false, List, length, leb}
use Rattle.std.proofs.Common.{sym, ◌∙◌, le-leb}
use Rattle.std.proofs.Math.Path.{ap}
use Rattle.std.proofs.Math.Nat.{sub-zero}
use Rattle.std.proofs.lemmas.Bool.{lt-leb}
use Rattle.std.proofs.Math.Dec.{leb-zero}
use Rattle.rows.specs.declared.answer.TypeNameError.TheVariants.{NestingLimitExceeded}
use Rattle.reader.specs.Nodes.{NodeKind, Nodes, none, node}
use Rattle.reader.specs.Reading.{Region, Fault, refusal, Next, ends, stops, next, kind_at, MAX_NESTING_DEPTH, down, go, turn, read}
use Rattle.reader.specs.Laws.Loops.{◌then◌, then_assoc}
use Rattle.reader.specs.Allowance.{Limited, done, denied, spent, reading_within, behind}
use Rattle.reader.specs.Laws.Allowance.{limited_ends, limited_stops}
use Rattle.reader.specs.Laws.Fixed.{fixed}

unfoldable pub ahead : Nodes → Limited → Limited
unfolding ◌then◌
ahead x (done y at half left) = done (x then y) at half left
ahead x (denied e left) = denied e left
ahead x spent = spent

pub then_none : (x : Nodes) → x then none ≡ x
unfolding ◌then◌
then_none none = refl
then_none (node k i b x) = ap (node k i b) (then_none x)

pub ahead_none : (o : Limited) → o ≡ ahead none o
unfolding ahead ◌then◌
ahead_none (done y at half left) = refl
ahead_none (denied e left) = refl
ahead_none spent = refl

pub ahead_behind : (x : Nodes) (k : NodeKind) (i : ℕ) (b : Nodes) (o : Limited) → ahead x (behind k i b o) ≡ ahead (x then node k i b none) o
unfolding ahead behind ◌then◌
ahead_behind x k i b (done y at half left) = ap (λ (z : Nodes). done z at half left) (sym (then_assoc x (node k i b none) y))
ahead_behind x k i b (denied e left) = refl
ahead_behind x k i b spent = refl

pub ahead_done : (x y : Nodes) (at : ℕ) (half : Bool) (left : ℕ) → ahead x (done y at half left) ≡ done (x then y) at half left
unfolding ahead
ahead_done x y at half left = refl

pub ahead_denied : (x : Nodes) (e : Fault) (left : ℕ) → ahead x (denied e left) ≡ denied e left
unfolding ahead
ahead_denied x e left = refl

pub ahead_spent : (x : Nodes) → ahead x spent ≡ spent
unfolding ahead
ahead_spent x = refl

module _ (cpp : Bool) (row : List ℕ) (l : Region) (lists nesting : ℕ) where
  -- One level down.
  pub down_deep : (left at : ℕ) (half : Bool) → MAX_NESTING_DEPTH < nesting
      → reading_within left (down cpp row (read cpp row) (leb nesting MAX_NESTING_DEPTH) l lists nesting at half) ≡ denied (refusal NestingLimitExceeded) left
  unfolding down reading_within
  down_deep left at half h = rw (lt-leb nesting MAX_NESTING_DEPTH h, leb-zero, sub-zero)

  pub down_read : (left at : ℕ) (half : Bool) → nesting ≤ MAX_NESTING_DEPTH
      → reading_within left (down cpp row (read cpp row) (leb nesting MAX_NESTING_DEPTH) l lists nesting at half) ≡ reading_within left (read cpp row l lists nesting false at half)
  unfolding down
  down_read left at half h = rw (le-leb nesting MAX_NESTING_DEPTH h)

  -- One turn of the level, by what is to be done.
  module _ (after_identifier : Bool) (at : ℕ) (half : Bool) (i : at ≤ length row) (left : ℕ) where
    pub turned : (nx : Next) → nx ≡ next cpp l lists after_identifier (kind_at row at) at half
        → reading_within left (read cpp row l lists nesting after_identifier at half) ≡ reading_within left (go cpp row (read cpp row) l lists nesting nx at half)
    unfolding turn
    turned nx e = ap (reading_within left) (fixed cpp row l lists nesting after_identifier at half i) ∙ ap (λ (x : Next). reading_within left (go cpp row (read cpp row) l lists nesting x at half)) (sym e)

    pub turned_ends : (at' : ℕ) → ends at' ≡ next cpp l lists after_identifier (kind_at row at) at half → reading_within left (read cpp row l lists nesting after_identifier at half) ≡ done none at' half left
    turned_ends at' e = turned (ends at') e ∙ limited_ends cpp row (read cpp row) l lists nesting at half left at'

    pub turned_stops : (x : Fault) → stops x ≡ next cpp l lists after_identifier (kind_at row at) at half → reading_within left (read cpp row l lists nesting after_identifier at half) ≡ denied x left
    turned_stops x e = turned (stops x) e ∙ limited_stops cpp row (read cpp row) l lists nesting at half left x
