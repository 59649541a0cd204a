-- `put_file` meets its contract. Assumes nothing.
use Rattle.std.proofs.Common.{rules}
use Rattle.text.specs.Laws.Appending.{puts_front}
use Rattle.convert.specs.Laws.WriteLoop.{sound_long, room_for_head, records_ready, file_put}
use Rattle.convert.proofs.write.put_file.Goals as goal

pub put_head-requires : goal.put_head-requires
put_head-requires c =
    let empty = c.new-written.ensures.begins in
    let room = room_for_head c.args.from c.args.to c.args.standard c.args.file.now c.args.output.now c.requires in
    (sound_long c.args.from c.args.to c.args.standard c.args.file.now c.args.output.now c.requires.sound, rw (empty.0, empty.1) room)

pub put_records-requires : goal.put_records-requires
put_records-requires c = records_ready c.args.from c.args.to c.args.standard _ _ c.new-written.ensures.begins c.requires c.put_head.ensures

pub returns : goal.returns
returns c =
    let put = puts_front c.new-written.ensures.begins (file_put c.args.from c.args.to c.args.standard _ c.args.output.now c.requires.sound c.put_head.ensures c.put_records.ensures) in
    search (rules, put)
