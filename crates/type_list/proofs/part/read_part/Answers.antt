-- `read_part` meets its contract. Assumes nothing.
use mathlib.Core.Path.{ap, ◌∙◌}
use native.Mathlib.Omega.{arith}
use lib.ListN.{length, length-take}
use Rattle.type_list.specs.ListSays.{length_by}
use Rattle.type_list.specs.Laws.PartAnswers.{length_by_answer, all_part, part_room}
use Rattle.type_list.proofs.part.read_part.Goals as goal

pub slice_bounds-read_checked-end : goal.slice_bounds-read_checked-end
slice_bounds-read_checked-end c = simp length-take (omega (arith, c.if-length-kinds.true))

pub slice_bounds-read_checked-end-then-length-kinds : goal.slice_bounds-read_checked-end-then-length-kinds
slice_bounds-read_checked-end-then-length-kinds c = simp length-take (omega (arith, c.if-length-kinds.true, c.requires.worded))

pub read_checked-answer-requires : goal.read_checked-answer-requires
read_checked-answer-requires c = part_room c.args.head c.args.kinds.now c.args.words.now c.length_by-length.result (omega (arith, c.if-length-kinds.true)) c.requires (omega arith)

pub returns-then-length-kinds : goal.returns-then-length-kinds
returns-then-length-kinds c = record { is_length = c.length_by-length.ensures ∙ ap (length_by (length c.args.kinds.now)) c.read_checked-all.ensures.answered ∙ length_by_answer c.args.head.language c.args.head.standard c.args.head.flag c.args.kinds.now c.args.words.now c.args.head.allowance; reads = c.read_checked-answer.ensures }

pub returns : goal.returns
returns c = record { is_length = c.length_by-length.ensures ∙ ap (length_by (length c.args.kinds.now)) c.read_checked-all.ensures.answered ∙ length_by_answer c.args.head.language c.args.head.standard c.args.head.flag c.args.kinds.now c.args.words.now c.args.head.allowance; reads = all_part c.args.head c.args.kinds.now c.args.words.now (c.length_by-length.ensures ∙ ap (length_by (length c.args.kinds.now)) c.read_checked-all.ensures.answered ∙ length_by_answer c.args.head.language c.args.head.standard c.args.head.flag c.args.kinds.now c.args.words.now c.args.head.allowance) (omega (arith, c.if-length-kinds.false)) c.requires.worded c.read_checked-all.ensures }
