-- `read_places` meets its contract. The loop's invariant: the tokens so far stand in front of the arrays. Assumes nothing.
use native.Mathlib.Omega.{arith}
use Rattle.rule_answers.specs.Laws.RowPlaces.{places_begin, places_end, places_again, not_full, record_fits}
use Rattle.rule_answers.proofs.row_places.read_places.Goals as goal

pub loop-at-init : goal.loop-at-init
loop-at-init c = places_begin c.requires

pub two_bytes-kind-requires : goal.two_bytes-kind-requires
two_bytes-kind-requires c = let f = record_fits c.loop-at.invariant (omega arith) in omega (arith, f.inside, f.long)

pub two_bytes-length-requires : goal.two_bytes-length-requires
two_bytes-length-requires c = let f = record_fits c.loop-at.invariant (omega arith) in omega (arith, f.inside, f.long)

pub overflow_cast-kinds : goal.overflow_cast-kinds
overflow_cast-kinds c = let f = record_fits c.loop-at.invariant (omega arith) in omega (arith, f.known, c.two_bytes-kind.ensures.value)

pub bounds-kinds-count : goal.bounds-kinds-count
bounds-kinds-count c = omega (arith, c.loop-at.invariant.loop.kinds_so_far.long, c.loop-at.invariant.ready.for_kinds, c.loop-at.invariant.loop.few, not_full c.loop-at.invariant (omega arith))

pub bounds-places-count : goal.bounds-places-count
bounds-places-count c = omega (arith, c.loop-at.invariant.loop.places_so_far.long, c.loop-at.invariant.ready.for_places, c.loop-at.invariant.loop.few, not_full c.loop-at.invariant (omega arith))

pub loop-at-smaller : goal.loop-at-smaller
loop-at-smaller c = let f = record_fits c.loop-at.invariant (omega arith) in omega (arith, f.inside, f.long, c.two_bytes-length.ensures.value)

pub loop-at-preserved : goal.loop-at-preserved
loop-at-preserved c = places_again c.loop-at.invariant (omega arith) c.two_bytes-kind.ensures.value c.two_bytes-length.ensures.value

pub shape_of-kinds : goal.shape_of-kinds
shape_of-kinds c = c.loop-at.invariant.loop.kinds_so_far.long

pub shape_of-places : goal.shape_of-places
shape_of-places c = c.loop-at.invariant.loop.places_so_far.long

pub returns : goal.returns
returns c = places_end c.loop-at.invariant (omega arith)
