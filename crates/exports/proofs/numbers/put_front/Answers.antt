-- `put_front` meets its contract. Assumes nothing.
use Rattle.exports.specs.Laws.Numbers.{put_in_front}
use Rattle.exports.proofs.numbers.put_front.Goals as goal

pub returns : goal.returns
returns c = put_in_front _ _ c.min-room.ensures c.copy_from_slice.ensures.after
