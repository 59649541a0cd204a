-- `word_there` meets its contract. Assumes nothing.
use native.Mathlib.Omega.{arith}
use Rattle.names.specs.Laws.Records.{there_begins, there_inside, word_taken}
use Rattle.names.proofs.table.word_there.Goals as goal

pub overflow_add-begin : goal.overflow_add-begin
overflow_add-begin c = omega (arith, there_begins c.requires, (rw c.current.ensures at c.token_length.ensures.value))

pub two_bytes-requires : goal.two_bytes-requires
two_bytes-requires c = omega (arith, there_begins c.requires)

pub overflow_add-end : goal.overflow_add-end
overflow_add-end c = let f = there_inside c.requires (rw c.current.ensures at c.token_length.ensures.value) c.two_bytes.ensures.value in omega (arith, f.0, f.1)

pub slice_bounds-result-count : goal.slice_bounds-result-count
slice_bounds-result-count c = let f = there_inside c.requires (rw c.current.ensures at c.token_length.ensures.value) c.two_bytes.ensures.value in omega (arith, f.0, f.1)

pub slice_bounds-result-start : goal.slice_bounds-result-start
slice_bounds-result-start c = let f = there_inside c.requires (rw c.current.ensures at c.token_length.ensures.value) c.two_bytes.ensures.value in omega (arith, f.0, f.1)

pub slice_bounds-result-end : goal.slice_bounds-result-end
slice_bounds-result-end c = let f = there_inside c.requires (rw c.current.ensures at c.token_length.ensures.value) c.two_bytes.ensures.value in omega (arith, f.0, f.1)

pub returns : goal.returns
returns c = word_taken c.requires (rw c.current.ensures at c.token_length.ensures.value) c.two_bytes.ensures.value
