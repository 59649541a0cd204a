-- `bucket_of` meets its contract. The loop's invariant: the bytes left decide. Assumes nothing.
use native.Mathlib.Omega.{arith}
use Rattle.names.specs.Laws.Buckets.{bucket_begins, bucket_again, bucket_ends}
use Rattle.names.proofs.table.bucket_of.Goals as goal

pub loop-byte-init : goal.loop-byte-init
loop-byte-init c = bucket_begins _

pub loop-byte-preserved : goal.loop-byte-preserved
loop-byte-preserved c = rw c.from.ensures (bucket_again c.loop-byte.invariant (omega arith))

pub returns : goal.returns
returns c = record { value = bucket_ends c.loop-byte.invariant (omega arith); small = c.loop-byte.invariant.small }
