-- `put_head` meets its contract. Assumes nothing.
use native.Mathlib.Omega.{arith}
use Rattle.rows.specs.Format.{short_bytes, head_length}
use Rattle.text.specs.Laws.Appending.{puts_then}
use Rattle.text.specs.Laws.Records.{bytes_long}
use Rattle.convert.specs.Fields.{head_bytes}
use Rattle.convert.proofs.write.put_head.Goals as goal

pub put_little_endian-requires : goal.put_little_endian-requires
put_little_endian-requires c = omega (arith, c.requires.1)

pub put_little_endian-requires-2 : goal.put_little_endian-requires-2
put_little_endian-requires-2 c = omega (arith, c.requires.1, bytes_long short_bytes head_length)

pub bounds-file-4 : goal.bounds-file-4
bounds-file-4 c = omega (arith, c.requires.0)

pub put_byte-requires : goal.put_byte-requires
put_byte-requires c = omega (arith, c.requires.1, bytes_long short_bytes head_length, bytes_long short_bytes c.args.to.head_kind)

pub put_byte-requires-2 : goal.put_byte-requires-2
put_byte-requires-2 c = omega (arith, c.requires.1, bytes_long short_bytes head_length, bytes_long short_bytes c.args.to.head_kind)

pub bounds-file-6 : goal.bounds-file-6
bounds-file-6 c = omega (arith, c.requires.0)

pub put_byte-requires-3 : goal.put_byte-requires-3
put_byte-requires-3 c = omega (arith, c.requires.1, bytes_long short_bytes head_length, bytes_long short_bytes c.args.to.head_kind)

pub four_bytes-requires : goal.four_bytes-requires
four_bytes-requires c = omega (arith, c.requires.0)

pub put_little_endian-requires-3 : goal.put_little_endian-requires-3
put_little_endian-requires-3 c = omega (arith, c.requires.1, bytes_long short_bytes head_length, bytes_long short_bytes c.args.to.head_kind)

pub returns : goal.returns
unfolding head_bytes
returns c = puts_then (puts_then (puts_then (puts_then (puts_then c.put_little_endian.ensures c.put_little_endian-2.ensures) c.put_byte.ensures) c.put_byte-2.ensures) c.put_byte-3.ensures) (rw c.four_bytes.ensures.value at c.put_little_endian-3.ensures)
