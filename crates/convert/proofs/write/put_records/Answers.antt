-- `put_records` meets its contract. The loop's invariant: what is written and the records that are left make all of them. Assumes nothing.
use native.Mathlib.Omega.{arith}
use Rattle.rows.specs.Records.{length_at}
use Rattle.convert.specs.Laws.WriteLoop.{write_begins, record_inside, record_some, record_ready, write_on, write_ends}
use Rattle.convert.proofs.write.put_records.Goals as goal

pub loop-at-init : goal.loop-at-init
loop-at-init c = write_begins c.args.from c.args.to _ _ c.requires.sound

pub put_record-requires : goal.put_record-requires
put_record-requires c = record_ready c.args.from c.args.to _ _ c.loop-at.invariant (omega arith) c.requires

pub two_bytes-at-requires : goal.two_bytes-at-requires
two_bytes-at-requires c = omega (arith, record_inside c.args.from c.args.to _ _ c.loop-at.invariant (omega arith), record_some c.args.from c.args.to _ _ c.loop-at.invariant (omega arith))

pub overflow_add-at : goal.overflow_add-at
unfolding length_at
overflow_add-at c = omega (arith, record_inside c.args.from c.args.to _ _ c.loop-at.invariant (omega arith), c.two_bytes-at.ensures.value)

pub loop-at-smaller : goal.loop-at-smaller
unfolding length_at
loop-at-smaller c = omega (arith, record_inside c.args.from c.args.to _ _ c.loop-at.invariant (omega arith), record_some c.args.from c.args.to _ _ c.loop-at.invariant (omega arith), c.two_bytes-at.ensures.value)

pub loop-at-preserved : goal.loop-at-preserved
unfolding length_at
loop-at-preserved c = rw c.two_bytes-at.ensures.value (write_on c.args.from c.args.to _ _ c.loop-at.invariant (omega arith) c.put_record.ensures)

pub returns : goal.returns
returns c = write_ends c.args.from c.args.to _ _ c.loop-at.invariant (omega arith)
