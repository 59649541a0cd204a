-- `bucket_of` meets its contract. The loop's invariant: the bytes left decide. Assumes nothing.
use Rattle.names.specs.Laws.Buckets.{BucketLoop}
use Rattle.names.proofs.table.bucket_of.Given as goal

abbrev pub invariant-loop-byte : goal.invariant-loop-byte
invariant-loop-byte l = BucketLoop l.word l.bucket l.byte-index
