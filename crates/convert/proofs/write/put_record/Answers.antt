-- `put_record` meets its contract. Assumes nothing.
use mathlib.Core.Path.{refl, ap}
use native.Mathlib.Omega.{arith}
use lib.ListN.{length}
use Rattle.rows.specs.Records.{kind_at, length_at, span_at}
use Rattle.rows.specs.Laws.Tokens.{formed_fits}
use Rattle.convert.specs.Laws.Puts.{number_put, record_put, word_there}
use Rattle.convert.specs.Fields.{token_fields}
use Rattle.convert.specs.Laws.OneRecord.{word_long}
use Rattle.convert.proofs.write.put_record.Goals as goal

pub two_bytes-size-requires : goal.two_bytes-size-requires
two_bytes-size-requires c = let fit = formed_fits c.args.from _ _ _ _ c.requires.formed in omega arith

pub overflow_add-word : goal.overflow_add-word
overflow_add-word c = let fit = formed_fits c.args.from _ _ _ _ c.requires.formed in omega (arith, c.token_length.ensures.value)

pub overflow_add-next : goal.overflow_add-next
unfolding length_at
overflow_add-next c = let fit = formed_fits c.args.from _ _ _ _ c.requires.formed in omega (arith, c.two_bytes-size.ensures.value)

pub span-span-requires : goal.span-span-requires
span-span-requires c = let fit = formed_fits c.args.from _ _ _ _ c.requires.formed in omega arith

pub overflow_sub-next : goal.overflow_sub-next
unfolding length_at
overflow_sub-next c = let fit = formed_fits c.args.from _ _ _ _ c.requires.formed in omega (arith, c.token_length.ensures.value, c.two_bytes-size.ensures.value)

pub put_little_endian-requires : goal.put_little_endian-requires
put_little_endian-requires c = omega (arith, c.requires.room)

pub overflow_add-at : goal.overflow_add-at
overflow_add-at c = let fit = formed_fits c.args.from _ _ _ _ c.requires.formed in omega arith

pub two_bytes-requires : goal.two_bytes-requires
two_bytes-requires c = let fit = formed_fits c.args.from _ _ _ _ c.requires.formed in omega arith

pub put_little_endian-requires-2 : goal.put_little_endian-requires-2
put_little_endian-requires-2 c = omega (arith, c.requires.room, number_put _ _ c.put_little_endian.ensures)

pub put_little_endian-requires-3 : goal.put_little_endian-requires-3
put_little_endian-requires-3 c = omega (arith, c.requires.room, c.span_bytes-bytes.ensures.value, number_put _ _ c.put_little_endian.ensures, number_put _ _ c.put_little_endian-2.ensures)

pub put_little_endian-requires-4 : goal.put_little_endian-requires-4
put_little_endian-requires-4 c = omega (arith, c.requires.room, c.span_bytes-bytes.ensures.value, number_put _ _ c.put_little_endian.ensures, number_put _ _ c.put_little_endian-2.ensures, number_put _ _ c.put_little_endian-3.ensures)

pub slice_bounds-put_bytes-count : goal.slice_bounds-put_bytes-count
unfolding length_at
slice_bounds-put_bytes-count c = let fit = formed_fits c.args.from _ _ _ _ c.requires.formed in omega (arith, c.token_length.ensures.value, c.two_bytes-size.ensures.value)

pub slice_bounds-put_bytes-start : goal.slice_bounds-put_bytes-start
unfolding length_at
slice_bounds-put_bytes-start c = let fit = formed_fits c.args.from _ _ _ _ c.requires.formed in omega (arith, c.token_length.ensures.value, c.two_bytes-size.ensures.value)

pub slice_bounds-put_bytes-end : goal.slice_bounds-put_bytes-end
unfolding length_at
slice_bounds-put_bytes-end c = let fit = formed_fits c.args.from _ _ _ _ c.requires.formed in omega (arith, c.token_length.ensures.value, c.two_bytes-size.ensures.value)

pub put_bytes-requires : goal.put_bytes-requires
unfolding length_at
put_bytes-requires c = omega (arith, c.requires.room, c.span_bytes-bytes.ensures.value, number_put _ _ c.put_little_endian.ensures, number_put _ _ c.put_little_endian-2.ensures, number_put _ _ c.put_little_endian-3.ensures, number_put _ _ c.put_little_endian-4.ensures, ap length (word_there c.args.from c.args.file.now c.args.at c.token_length.ensures.value c.two_bytes-size.ensures.value c.requires.formed))

pub returns : goal.returns
unfolding length_at kind_at span_at token_fields
returns c = record_put c.args.to _ (let fit = formed_fits c.args.from _ _ _ _ c.requires.formed in omega (arith, word_long c.args.from _ _ c.requires.formed, c.token_length.ensures.value, c.token_length-2.ensures.value, c.two_bytes-size.ensures.value)) c.two_bytes.ensures.value c.span_bytes-bytes.ensures.value (rw c.span-span.ensures refl) (rw c.span-span.ensures refl) (word_there c.args.from c.args.file.now c.args.at c.token_length.ensures.value c.two_bytes-size.ensures.value c.requires.formed) c.put_little_endian.ensures c.put_little_endian-2.ensures c.put_little_endian-3.ensures c.put_little_endian-4.ensures c.put_bytes.ensures
