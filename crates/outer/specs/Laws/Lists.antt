-- The walk finds a list exactly where one stands.
-- Assumes nothing.
use Rattle.std.specs.Prelude.{ℕ, zero, suc, ◌+◌, ◌*◌, ◌-◌, ◌≤◌, ◌<◌, ◌≡◌, refl, Bool, true, false, ◌&&◌, List, length, eqb}
use Rattle.std.proofs.Common.{◌∙◌, lt_of_not-le}
use Rattle.std.proofs.Math.Path.{subst}
use native.Mathlib.Omega.{arith}
use Rattle.std.proofs.Math.Decide.{dec_le}
use borrow.Author.Tests.{eq-eqb, le-leb}
use Rattle.std.proofs.Math.Facts.{and_yes}
use Rattle.std.proofs.Math.Dec.{leb, eqb→eq, leb→le}
use Rattle.rows.specs.Laws.Tests.{by_if}
use Rattle.reader.specs.Nodes.{t_node, l_node, number, node_width, kind_of, extent_of}
use Rattle.outer.specs.ByExtents.{word_at_0, list_at_1, is_argument, arguments_from, outer_by_extents}
use Rattle.outer.specs.OuterPromises.{ArgumentsFill, nothing_left, argument, BeginsWith}
use Rattle.outer.specs.Laws.Walk.{argument_is, is_one, goes_on, ends_there}

module _ (numbers : List ℕ) where
  -- Arguments that fill the nodes left are counted.
  pub fill_counted : {at left many : ℕ} → ArgumentsFill numbers at left many → (found : ℕ) → arguments_from numbers left 0 at found ≡ found + many
  unfolding arguments_from
  fill_counted nothing_left found = omega arith
  fill_counted (argument {at = at} {left = left} {many = many} k e f r) found =
      goes_on numbers at left found (omega (arith, e, f)) (is_one numbers at left (record { kind = k; some = e; fits = f }))
      ∙ fill_counted r (suc found) ∙ omega arith

  -- What is counted fills them.
  abbrev Filled : (at left found : ℕ) → Type 0
  Filled at left found = 0 < arguments_from numbers left 0 at found → (many : ℕ) × (found + many ≡ arguments_from numbers left 0 at found) × ArgumentsFill numbers at left many

  none_left : (at left found : ℕ) → left ≡ 0 → Filled at left found
  unfolding arguments_from
  none_left at left found e p = rw e (0, omega arith, nothing_left)

  one_filled : (at left found : ℕ) → 0 < left → (extent_of numbers at ≤ left → 1 ≤ extent_of numbers at → Filled (at + extent_of numbers at) (left - extent_of numbers at) (suc found))
      → (b : Bool) → is_argument numbers at left ≡ b → Filled at left found
  one_filled at left found s more false q p = absurd (omega (arith, p, ends_there numbers at left found s q))
  one_filled at left found s more true q p =
      let a = argument_is numbers at left q in
      let on = goes_on numbers at left found s q in
      let r = more a.fits a.some (omega (arith, p, on)) in
      (suc r.0, omega (arith, r.1, on), argument a.kind a.some a.fits r.2)

  -- `most`: no more nodes are left.
  filled_from : (most at left found : ℕ) → left ≤ most → Filled at left found
  filled_from zero at left found l = none_left at left found (omega arith)
  filled_from (suc most) at left found l =
      elim (dec_le left 0) [
        | yes z ↦ none_left at left found (omega (arith, z))
        | no z ↦
            one_filled at left found (lt_of_not-le z)
            (λ f s. filled_from most (at + extent_of numbers at) (left - extent_of numbers at) (suc found) (omega (arith, l, s))) (is_argument numbers at left) refl
      ]

  -- ---- the whole

  -- A list that stands there is counted,
  pub list_counted : (many : ℕ) → BeginsWith numbers many → outer_by_extents numbers ≡ many
  unfolding outer_by_extents word_at_0 list_at_1
  list_counted many b =
      rw (eq-eqb _ _ b.word, eq-eqb _ _ b.word_extent, eq-eqb _ _ b.list, le-leb _ _ b.list_extent, le-leb _ _ b.within) (fill_counted b.filled 0 ∙ omega arith)

  -- and what is counted stands there.
  pub list_found : 0 < outer_by_extents numbers → BeginsWith numbers (outer_by_extents numbers)
  unfolding outer_by_extents word_at_0 list_at_1
  list_found =
      by_if (λ (n : ℕ). 0 < n → BeginsWith numbers n) (word_at_0 numbers && list_at_1 numbers)
      (λ t p.
      let both = and_yes (word_at_0 numbers) (list_at_1 numbers) t in
      let first = and_yes (eqb (kind_of numbers 0) (number t_node)) (eqb (extent_of numbers 0) 1) both.0 in
      let second = and_yes (eqb (kind_of numbers 1) (number l_node) && leb 2 (extent_of numbers 1)) (leb (node_width * (1 + extent_of numbers 1)) (length numbers)) both.1 in
      let list = and_yes (eqb (kind_of numbers 1) (number l_node)) (leb 2 (extent_of numbers 1)) second.0 in
      let f = filled_from (extent_of numbers 1) 2 (extent_of numbers 1 - 1) 0 (omega arith) p in
      let all : f.0 ≡ arguments_from numbers (extent_of numbers 1 - 1) 0 2 0 = omega (arith, f.1) in
      record {
        word = eqb→eq _ _ first.0;
        word_extent = eqb→eq _ _ first.1;
        list = eqb→eq _ _ list.0;
        list_extent = leb→le _ _ list.1;
        within = leb→le _ _ second.1;
        filled = subst (ArgumentsFill numbers 2 (extent_of numbers 1 - 1)) all f.2;
      })
      (λ _ p. absurd (omega (arith, p)))

  -- Where none stands, 0.
  pub list_none : ((many : ℕ) → BeginsWith numbers many → ⊥) → outer_by_extents numbers ≡ 0
  list_none none =
      elim (dec_le (outer_by_extents numbers) 0) [
        | yes p ↦ omega (arith, p)
        | no p ↦ absurd (none _ (list_found (lt_of_not-le p)))
      ]
