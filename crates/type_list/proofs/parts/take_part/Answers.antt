-- `take_part` meets its contract. Assumes nothing.
use mathlib.Core.Path.{refl, ap}
use native.Mathlib.Omega.{arith}
use Rattle.type_name.specs.Laws.Fields.{steps_in}
use Rattle.type_list.specs.Laws.PartAnswers.{part_ready, next_within, next_steps, next_nodes, next_told, told_refused, accepted_next}
use Rattle.type_list.proofs.parts.take_part.Goals as goal

pub read_part-part-requires : goal.read_part-part-requires
read_part-part-requires c = part_ready c.args.head c.args.kinds.now c.args.words.now c.args.tree.now c.args.taken c.requires.0 c.requires.1

pub overflow_sub-result : goal.overflow_sub-result
overflow_sub-result c = omega (arith, next_steps c.args.head c.args.kinds.now c.args.words.now c.args.tree.now c.args.taken c.requires.0 c.requires.1 c.with_allowance-part_head.ensures c.read_part-part.ensures, ap steps_in c.in-Err.is)

pub overflow_add-result : goal.overflow_add-result
overflow_add-result c = omega (arith, next_within c.args.head c.args.kinds.now c.args.words.now c.args.tree.now c.args.taken c.requires.0 c.requires.1 c.with_allowance-part_head.ensures c.read_part-part.ensures, c.requires.0.few)

pub overflow_add-result-in-Ok : goal.overflow_add-result-in-Ok
overflow_add-result-in-Ok c = omega (arith, next_within c.args.head c.args.kinds.now c.args.words.now c.args.tree.now c.args.taken c.requires.0 c.requires.1 c.with_allowance-part_head.ensures c.read_part-part.ensures, c.requires.0.few)

pub overflow_add-result-in-Ok-2 : goal.overflow_add-result-in-Ok-2
overflow_add-result-in-Ok-2 c = omega (arith, c.requires.0.begun, c.requires.1, c.requires.0.few)

pub overflow_add-result-in-Ok-3 : goal.overflow_add-result-in-Ok-3
overflow_add-result-in-Ok-3 c = omega (arith, next_nodes c.args.head c.args.kinds.now c.args.words.now c.args.tree.now c.args.taken c.requires.0 c.requires.1 c.with_allowance-part_head.ensures c.read_part-part.ensures c.in-Ok.is, next_within c.args.head c.args.kinds.now c.args.words.now c.args.tree.now c.args.taken c.requires.0 c.requires.1 c.with_allowance-part_head.ensures c.read_part-part.ensures, c.requires.0.two_each, c.requires.1, c.requires.0.few)

pub overflow_sub-result-in-Ok : goal.overflow_sub-result-in-Ok
overflow_sub-result-in-Ok c = omega (arith, next_steps c.args.head c.args.kinds.now c.args.words.now c.args.tree.now c.args.taken c.requires.0 c.requires.1 c.with_allowance-part_head.ensures c.read_part-part.ensures, ap steps_in c.in-Ok.is)

pub returns-in-Err : goal.returns-in-Err
returns-in-Err c = record { says = (_, told_refused _ (rw c.in-Err.is at (next_told c.args.head c.args.kinds.now c.args.words.now c.args.tree.now c.args.taken c.requires.0 c.requires.1 c.with_allowance-part_head.ensures c.read_part-part.ensures)), refl, omega (arith, next_steps c.args.head c.args.kinds.now c.args.words.now c.args.tree.now c.args.taken c.requires.0 c.requires.1 c.with_allowance-part_head.ensures c.read_part-part.ensures, ap steps_in c.in-Err.is)) }

pub returns-in-Ok : goal.returns-in-Ok
returns-in-Ok c = record { says = accepted_next c.args.head c.args.kinds.now c.args.words.now c.args.tree.now c.args.taken c.requires.0 c.requires.1 c.with_allowance-part_head.ensures c.read_part-part.ensures c.in-Ok.is c.read_part-part.auto.tree refl refl refl refl refl (omega arith) }
