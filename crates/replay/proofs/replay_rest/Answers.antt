-- `replay_rest` is safe. Assumes nothing.
use mathlib.Core.Path.{sym}
use lib.ListN.{length-take}
use native.Mathlib.Omega.{arith}
use Rattle.replay.specs.Laws.Comparing.{part_long}
use Rattle.replay.proofs.replay_rest.Goals as goal

pub overflow_cast-file_length : goal.overflow_cast-file_length
overflow_cast-file_length c = omega (arith, c.shared_slice_known-2-1.given 0)

pub overflow_cast-buffer_length : goal.overflow_cast-buffer_length
overflow_cast-buffer_length c = omega (arith, c.shared_slice_known-3-1.given 1)

pub overflow_cast-stored_numbers : goal.overflow_cast-stored_numbers
overflow_cast-stored_numbers c = omega (arith, c.shared_slice_known-4-1.given 7)

pub slice_bounds-read_whole-end-2 : goal.slice_bounds-read_whole-end-2
slice_bounds-read_whole-end-2 c = simp length-take (omega arith)

pub slice_bounds-read_whole-end-4 : goal.slice_bounds-read_whole-end-4
slice_bounds-read_whole-end-4 c = simp length-take (omega arith)

pub slice_bounds-replay-end-2 : goal.slice_bounds-replay-end-2
slice_bounds-replay-end-2 c = sym (part_long _ c.read_whole.new.bytes c.args.file.now c.read_whole.auto.bytes (omega arith))

pub slice_bounds-replay-end-4 : goal.slice_bounds-replay-end-4
slice_bounds-replay-end-4 c = sym (part_long _ c.read_whole-2.new.bytes c.args.stored.now c.read_whole-2.auto.bytes (omega arith))

pub slice_bounds-replay-end-6 : goal.slice_bounds-replay-end-6
slice_bounds-replay-end-6 c = simp length-take (omega arith)

pub slice_bounds-replay-end-8 : goal.slice_bounds-replay-end-8
slice_bounds-replay-end-8 c = simp length-take (omega arith)

pub replay-requires : goal.replay-requires
replay-requires c = (omega arith, part_long _ c.read_whole-2.new.bytes c.args.stored.now c.read_whole-2.auto.bytes (omega arith), simp length-take (omega arith))
