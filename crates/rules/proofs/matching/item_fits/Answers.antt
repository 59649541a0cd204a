-- `item_fits` meets its contract. Assumes nothing.
use native.Mathlib.Omega.{arith}
use mathlib.Core.Path.{◌∙◌}
use Rattle.rules.specs.Laws.Stand.{item_moves, word_ends, kind_ends}
use Rattle.rules.specs.Laws.Matching.{any_fits, word_other, word_same, kind_same, group_fits, list_fits}
use Rattle.rules.proofs.matching.item_fits.Goals as goal

pub bounds-table-item : goal.bounds-table-item
bounds-table-item c = omega (arith, item_moves _ c.requires.stands, c.requires.stands.inside)

pub returns-then-byte-eq-ANY : goal.returns-then-byte-eq-ANY
returns-then-byte-eq-ANY c = λ i n s. any_fits _ _ _ s c.if-byte-eq-ANY.true

pub returns-then-shape-ne-IDENTIFIER : goal.returns-then-shape-ne-IDENTIFIER
returns-then-shape-ne-IDENTIFIER c = λ i n s. word_other _ _ _ s c.if-byte-eq-WORD.true c.if-shape-ne-IDENTIFIER.true

pub item_end-end-requires : goal.item_end-end-requires
item_end-end-requires c = c.requires

pub slice_bounds-same_bytes-count : goal.slice_bounds-same_bytes-count
slice_bounds-same_bytes-count c = omega (arith, c.item_end-end.ensures _ _ c.requires.stands, word_ends _ c.requires.stands c.if-byte-eq-WORD.true)

pub slice_bounds-same_bytes-start : goal.slice_bounds-same_bytes-start
slice_bounds-same_bytes-start c = omega (arith, c.item_end-end.ensures _ _ c.requires.stands, word_ends _ c.requires.stands c.if-byte-eq-WORD.true)

pub slice_bounds-same_bytes-end : goal.slice_bounds-same_bytes-end
slice_bounds-same_bytes-end c = omega (arith, c.item_end-end.ensures _ _ c.requires.stands, c.requires.stands.inside)

pub returns-then-byte-eq-WORD : goal.returns-then-byte-eq-WORD
returns-then-byte-eq-WORD c = λ i n s. c.same_bytes.ensures ∙ rw (c.item_end-end.ensures _ _ s) (word_same _ _ _ s c.if-byte-eq-WORD.true c.if-shape-ne-IDENTIFIER.false)

pub bounds-table-item-then-byte-eq-KIND : goal.bounds-table-item-then-byte-eq-KIND
bounds-table-item-then-byte-eq-KIND c = omega (arith, kind_ends _ c.requires.stands c.if-byte-eq-KIND.true, c.requires.stands.inside)

pub returns-then-byte-eq-KIND : goal.returns-then-byte-eq-KIND
returns-then-byte-eq-KIND c = λ i n s. kind_same _ _ _ s c.if-byte-eq-KIND.true

pub returns-then-byte-eq-GROUP : goal.returns-then-byte-eq-GROUP
returns-then-byte-eq-GROUP c = λ i n s. group_fits _ _ _ s c.if-byte-eq-GROUP.true

pub returns : goal.returns
returns c = λ i n s. list_fits _ _ _ s c.if-byte-eq-ANY.false c.if-byte-eq-WORD.false c.if-byte-eq-KIND.false c.if-byte-eq-GROUP.false
