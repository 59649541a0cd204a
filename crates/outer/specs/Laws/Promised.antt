-- The answer keeps what C-15 promises.
-- Assumes nothing.
use Rattle.std.specs.Prelude.{ℕ, ◌+◌, ◌*◌, ◌-◌, ◌≤◌, ◌<◌, ◌≡◌, true, false, ◌&&◌, List, length, eqb}
use Rattle.std.proofs.Math.Path.{refl}
use Rattle.std.proofs.Common.{sym, ap, subst}
use native.Mathlib.Omega.{arith}
use Rattle.std.proofs.Math.Facts.{and_yes}
use Rattle.std.proofs.Math.Dec.{leb, leb→le}
use Rattle.rows.specs.Laws.Tests.{and_false}
use Rattle.reader.specs.Nodes.{l_node, number, node_width, kind_of, extent_of}
use Rattle.outer.specs.ByExtents.{word_at_0, list_at_1, arguments_from, outer_by_extents}
use Rattle.outer.specs.OuterPromises.{ArgumentsFill, nothing_left, argument, OuterPromised}
use Rattle.outer.specs.Laws.Lists.{list_counted, list_found, list_none}
use Rattle.outer.specs.Laws.Counted.{counted}

-- Nodes that are left are filled by one argument at least.
some_fill : (numbers : List ℕ) {at left many : ℕ} → ArgumentsFill numbers at left many → 0 < left → 0 < many
some_fill numbers nothing_left p = absurd (omega arith)
some_fill numbers (argument k e f r) p = omega arith

promised_of : (numbers : List ℕ) → OuterPromised numbers (outer_by_extents numbers)
promised_of numbers =
    record {
      answered = refl;
      counted = counted numbers;
      some_list = list_found numbers;
      no_list = λ e many b. omega (arith, e, list_counted numbers many b, some_fill numbers b.filled (omega (arith, b.list_extent)));
    }

pub promised : (numbers : List ℕ) (answer : ℕ) → answer ≡ outer_by_extents numbers → OuterPromised numbers answer
promised numbers answer e = subst (OuterPromised numbers) (sym e) (promised_of numbers)

-- ---- the ways through `outer_arguments`

module _ (numbers : List ℕ) where
  -- Fewer than two whole nodes.
  pub too_short : length numbers < node_width * 2 → 0 ≡ outer_by_extents numbers
  too_short p = sym (list_none numbers (λ many b. omega (arith, p, b.within, b.list_extent)))

  pub no_word : word_at_0 numbers ≡ false → 0 ≡ outer_by_extents numbers
  unfolding outer_by_extents
  no_word e = rw (e, outer_by_extents) refl

  pub no_list : list_at_1 numbers ≡ false → 0 ≡ outer_by_extents numbers
  unfolding outer_by_extents
  no_list e = rw (e, and_false (word_at_0 numbers), outer_by_extents) refl

  pub has_list : word_at_0 numbers ≡ true → list_at_1 numbers ≡ true → arguments_from numbers (1 + extent_of numbers 1 - 2) 0 2 0 ≡ outer_by_extents numbers
  unfolding outer_by_extents
  has_list e f =
      let left : 1 + extent_of numbers 1 - 2 ≡ extent_of numbers 1 - 1 = omega arith in
      rw (e, f, outer_by_extents) (ap (λ (n : ℕ). arguments_from numbers n 0 2 0) left)

  pub list_there : list_at_1 numbers ≡ true → (2 ≤ extent_of numbers 1) × (node_width * (1 + extent_of numbers 1) ≤ length numbers)
  unfolding list_at_1
  list_there e =
      let both = and_yes (eqb (kind_of numbers 1) (number l_node) && leb 2 (extent_of numbers 1)) (leb (node_width * (1 + extent_of numbers 1)) (length numbers)) (rw e tt) in
      (leb→le _ _ (and_yes (eqb (kind_of numbers 1) (number l_node)) (leb 2 (extent_of numbers 1)) both.0).1, leb→le _ _ both.1)
