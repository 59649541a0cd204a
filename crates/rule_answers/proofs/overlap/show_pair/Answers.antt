-- `show_pair` meets its contract. Assumes nothing.
use native.Mathlib.Omega.{arith}
use lib.ListN.{length-take}
use Rattle.rules.specs.Laws.Pairs.{stands_at, some_at}
use Rattle.rule_answers.specs.Laws.Overlaps.{put_few, pair_handed, pair_refused}
use borrow.Author.Rules.{rules}
use Rattle.rule_answers.proofs.overlap.show_pair.Goals as goal

pub overflow_add-first : goal.overflow_add-first
overflow_add-first c = let s = stands_at _ c.args.rules.now.read _ c.requires.0 in omega (arith, s.within, s.inside)

pub overflow_add-second : goal.overflow_add-second
overflow_add-second c = let s = stands_at _ c.args.rules.now.read _ c.requires.1 in omega (arith, s.within, s.inside)

pub put_shown-bytes-requires : goal.put_shown-bytes-requires
put_shown-bytes-requires c = (some_at _ c.args.rules.now.read _ c.requires.0, some_at _ c.args.rules.now.read _ c.requires.1, search rules)

pub slice_bounds-shown-end : goal.slice_bounds-shown-end
slice_bounds-shown-end c = let few = put_few _ c.args.rules.now.read _ _ c.requires.0 c.requires.1 c.put_shown-bytes.ensures in omega arith

pub slice_bounds-hand_over-end : goal.slice_bounds-hand_over-end
slice_bounds-hand_over-end c = let few = put_few _ c.args.rules.now.read _ _ c.requires.0 c.requires.1 c.put_shown-bytes.ensures in simp length-take (omega arith)

pub overflow_cast-result-then-hand_over-2 : goal.overflow_cast-result-then-hand_over-2
overflow_cast-result-then-hand_over-2 c = let few = put_few _ c.args.rules.now.read _ _ c.requires.0 c.requires.1 c.put_shown-bytes.ensures in omega arith

pub returns-then-hand_over : goal.returns-then-hand_over
returns-then-hand_over c = pair_handed _ c.args.rules.now.read _ _ c.requires.0 c.requires.1 c.put_shown-bytes.ensures _ c.hand_over.ensures.told c.hand_over.ensures.handed c.if-hand_over.true

pub returns : goal.returns
returns c = pair_refused _ c.args.rules.now.read _ _ c.requires.0 c.requires.1 c.put_shown-bytes.ensures _ c.hand_over.ensures.told c.hand_over.ensures.handed c.if-hand_over.false
