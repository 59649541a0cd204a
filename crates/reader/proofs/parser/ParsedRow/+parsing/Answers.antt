-- The proof of the cycle of `parse_group`, `parse_node` and `parse_template_arguments`. The measure is two for each token left, and one for a level.
-- Assumes nothing.
use mathlib.Core.Path.{sym, ◌∙◌}
use native.Mathlib.Omega.{arith}
use lib.ListN.{length-append, length-take, length-drop}
use Rattle.std.proofs.lemmas.Result.{err_from_is_err_and}
use Rattle.reader.specs.Reading.{list}
use Rattle.reader.specs.ReaderSays.{region_due}
use Rattle.reader.specs.Laws.Tokens.{inside}
use Rattle.reader.specs.Laws.Ahead.{down_deep}
use Rattle.reader.specs.Laws.GroupWays.{node_finds_so, group_begins, node_here, planned_so, group_ends, group_stops, group_node_stops, group_again}
use Rattle.reader.specs.Laws.NodeWays.{started_so, node_spends, node_token, node_group, node_group_stops, node_list, node_no_list, node_list_spends, list_failed, list_spent}
use Rattle.prescan.specs.Laws.Ordinary.{ordinary_so}
use Rattle.reader.specs.Laws.Ordinary.{ordinary_single, single_so, single_plans, node_by_single, ordinary_goes_on}
use Rattle.reader.specs.Laws.ListWays.{Ended, arguments_begin, nodes_begin, ended_closed, ended_empty, ended_unterminated, closes_so, ends_so, list_deep, empty_first, unterminated, list_node_stops, nodes_again, argument_empty, arguments_again, arguments_closed, list_says}
use Prim.Native.Nat.{ℕ}
use Rattle.reader.proofs.parser.ParsedRow.+parsing.Goals as goal
use Rattle.reader.proofs.parser.ParsedRow.+parsing.Goals.{parse_template_arguments-then-is_angle_close, parse_template_arguments-else-is_angle_close+else-not-now+else-argument_ends+then-kind-eq-NO_TOKEN_KIND, parse_template_arguments-else-is_angle_close+else-not-now+then-argument_ends+then-inner-eq0, parse_template_arguments-else-is_angle_close+else-not-now+then-argument_ends+else-inner-eq0+then-kind_at-ne-COMMA}

pub parse_group-returns-then-nesting-gt-MAX_NESTING_DEPTH : goal.parse_group-returns-then-nesting-gt-MAX_NESTING_DEPTH
parse_group-returns-then-nesting-gt-MAX_NESTING_DEPTH t c = record { says = down_deep _ _ _ _ _ _ _ _ c.if-nesting-gt-MAX_NESTING_DEPTH.true }

pub parse_group-loop-tree-init : goal.parse_group-loop-tree-init
parse_group-loop-tree-init t c = group_begins c.requires

pub parse_group-parse_token-requires : goal.parse_group-parse_token-requires
parse_group-parse_token-requires t c = let here = inside _ _ (single_so c.kind_at-kind.ensures c.is_ordinary.ensures c.then-is_ordinary.either).a_token in (simp (length-take, length-drop) (omega arith), omega arith)

pub parse_group-returns-in_err-read : goal.parse_group-returns-in_err-read
parse_group-returns-in_err-read t c =
    let p = err_from_is_err_and c.from_residual.result c.from_residual.ensures.1 in
    rw (p.1, p.2) (group_node_stops c.loop-tree.invariant (omega arith) (single_plans (single_so c.kind_at-kind.ensures c.is_ordinary.ensures c.then-is_ordinary.either) c.args.end) (node_by_single c.args.self.now.cpp c.args.lists c.args.nesting c.loop-tree.after_identifier (single_so c.kind_at-kind.ensures c.is_ordinary.ensures c.then-is_ordinary.either) c.in_err-read.ensures))

pub parse_group-loop-tree-smaller-then-is_ordinary : goal.parse_group-loop-tree-smaller-then-is_ordinary
parse_group-loop-tree-smaller-then-is_ordinary t c = let w = (node_by_single c.args.self.now.cpp c.args.lists c.args.nesting c.loop-tree.after_identifier (single_so c.kind_at-kind.ensures c.is_ordinary.ensures c.then-is_ordinary.either) c.in_ok-read.ensures).says in omega arith

pub parse_group-loop-tree-preserved-then-is_ordinary : goal.parse_group-loop-tree-preserved-then-is_ordinary
parse_group-loop-tree-preserved-then-is_ordinary t c = group_again c.loop-tree.invariant (omega arith) (single_plans (single_so c.kind_at-kind.ensures c.is_ordinary.ensures c.then-is_ordinary.either) c.args.end) c.kind_at-kind.ensures _ (node_by_single c.args.self.now.cpp c.args.lists c.args.nesting c.loop-tree.after_identifier (single_so c.kind_at-kind.ensures c.is_ordinary.ensures c.then-is_ordinary.either) c.in_ok-read.ensures).says c.parse_token.auto.tree

pub parse_group-returns-in-Ends : goal.parse_group-returns-in-Ends
parse_group-returns-in-Ends t c = record { says = group_ends c.loop-tree.invariant (omega arith) _ (planned_so c.kind_at-kind.ensures c.in-Ends.ensures) }

pub parse_group-returns-in-Stops : goal.parse_group-returns-in-Stops
parse_group-returns-in-Stops t c = record { says = group_stops c.loop-tree.invariant (omega arith) _ (planned_so c.kind_at-kind.ensures c.in-Stops.ensures) }

pub parse_group-parse_node-requires : goal.parse_group-parse_node-requires
parse_group-parse_node-requires t c = let here = inside _ _ (node_here c.args.end (planned_so c.kind_at-kind.ensures c.in-Node.ensures)) in
    (omega arith, (record { within = omega arith; short = omega arith; room = simp (length-take, length-drop) (omega arith); fewer = omega arith; shallow = omega arith }, here))

pub parse_group-returns-in_err-read-2 : goal.parse_group-returns-in_err-read-2
parse_group-returns-in_err-read-2 t c =
    let p = err_from_is_err_and c.from_residual-in_err-read-2.result c.from_residual-in_err-read-2.ensures.1 in
    rw (p.1, p.2) (group_node_stops c.loop-tree.invariant (omega arith) (planned_so c.kind_at-kind.ensures c.in-Node.ensures) c.in_err-read-2.ensures)

pub parse_group-loop-tree-preserved : goal.parse_group-loop-tree-preserved
parse_group-loop-tree-preserved t c = group_again c.loop-tree.invariant (omega arith) (planned_so c.kind_at-kind.ensures c.in-Node.ensures) c.kind_at-kind.ensures _ c.in_ok-read-2.ensures.says c.parse_node.auto.tree

pub parse_node-returns-then-left-eq0 : goal.parse_node-returns-then-left-eq0
parse_node-returns-then-left-eq0 t c = record { says = node_spends _ _ _ _ _ _ c.if-left-eq0.true }

pub parse_node-returns-in_err-read-in-Group : goal.parse_node-returns-in_err-read-in-Group
parse_node-returns-in_err-read-in-Group t c =
    let p = err_from_is_err_and c.from_residual.result c.from_residual.ensures.1 in
    rw (p.1, p.2) (node_group_stops _ _ _ _ _ _ c.if-left-eq0.false c.past-begun.ensures _ (started_so _ _ _ c.kind_at.ensures c.in-Group.ensures) c.in_err-read-in-Group.ensures)

pub parse_node-returns-in_ok-read-in-Group : goal.parse_node-returns-in_ok-read-in-Group
parse_node-returns-in_ok-read-in-Group t c = node_finds_so c.put_above.ensures.read (node_group _ _ _ _ _ _ c.if-left-eq0.false c.past-begun.ensures _ (started_so _ _ _ c.kind_at.ensures c.in-Group.ensures) c.args.tree.now _ _ c.in_ok-read-in-Group.ensures.says c.group_kind.ensures c.put_above.ensures.tree (omega (arith, c.requires.0.room, c.requires.0.short, c.requires.1)))

pub parse_node-returns-in-Ok : goal.parse_node-returns-in-Ok
parse_node-returns-in-Ok t c = node_finds_so c.put_above-in-Ok.ensures.read (node_list _ _ _ _ _ _ c.if-left-eq0.false c.past-begun.ensures (started_so _ _ _ c.kind_at.ensures c.in-Angle.ensures) c.args.tree.now _ _ c.in-Ok.ensures.says c.put_above-in-Ok.ensures.tree (omega (arith, c.requires.0.room, c.requires.0.short, c.requires.1)))

pub parse_node-returns-in-Err-Failed : goal.parse_node-returns-in-Err-Failed
parse_node-returns-in-Err-Failed t c = node_finds_so c.put_above-in-Err-Failed.ensures.read (node_no_list _ _ _ _ _ _ c.if-left-eq0.false c.past-begun.ensures (started_so _ _ _ c.kind_at.ensures c.in-Angle.ensures) c.past.ensures (list_failed c.in-Err-Failed.is c.parse_template_arguments-tried.ensures (rw c.in-Err-Failed.is at c.in-Err-Failed.field-0-is)) c.requires.1 c.put_above-in-Err-Failed.ensures.tree)

pub parse_node-returns-in-Err-Spent : goal.parse_node-returns-in-Err-Spent
parse_node-returns-in-Err-Spent t c = record { says = node_list_spends _ _ _ _ _ _ c.if-left-eq0.false c.past-begun.ensures (started_so _ _ _ c.kind_at.ensures c.in-Angle.ensures) (list_spent c.in-Err-Spent.is c.parse_template_arguments-tried.ensures (rw c.in-Err-Spent.is at c.in-Err-Spent.field-0-is)) }

pub parse_node-returns-in-Token : goal.parse_node-returns-in-Token
parse_node-returns-in-Token t c = node_finds_so c.put_above-in-Token.ensures.read (node_token _ _ _ _ _ _ c.if-left-eq0.false c.past-begun.ensures (started_so _ _ _ c.kind_at.ensures c.in-Token.ensures) c.requires.1 c.put_above-in-Token.ensures.tree)

pub parse_template_arguments-returns-then-nesting-gt-MAX_NESTING_DEPTH : goal.parse_template_arguments-returns-then-nesting-gt-MAX_NESTING_DEPTH
parse_template_arguments-returns-then-nesting-gt-MAX_NESTING_DEPTH t c = record { says = list_deep _ _ _ _ _ c.if-nesting-gt-MAX_NESTING_DEPTH.true }

pub parse_template_arguments-arguments-init : goal.parse_template_arguments-arguments-init
parse_template_arguments-arguments-init t c = arguments_begin c.requires

pub parse_template_arguments-nodes-init : goal.parse_template_arguments-nodes-init
parse_template_arguments-nodes-init t c = nodes_begin c.arguments.invariant.way.within

pub parse_template_arguments-parse_token-requires : goal.parse_template_arguments-parse_token-requires
parse_template_arguments-parse_token-requires t c = let here = inside _ _ (ordinary_single (ordinary_so c.kind_at-kind.ensures c.is_ordinary.ensures c.if-is_ordinary.true)).a_token in (simp (length-take, length-drop) (omega arith), omega arith)

pub parse_template_arguments-returns-in_err-read : goal.parse_template_arguments-returns-in_err-read
parse_template_arguments-returns-in_err-read t c =
    let p = err_from_is_err_and c.from_residual.result c.from_residual.ensures.1 in
    list_node_stops c.arguments.invariant (omega arith) (closes_so _ _ c.kind_at.ensures c.is_angle_close.ensures c.if-is_angle_close.false) c.nodes.invariant (ordinary_goes_on (ordinary_so c.kind_at-kind.ensures c.is_ordinary.ensures c.if-is_ordinary.true) _ _ c.if-not-now.true) (ordinary_single (ordinary_so c.kind_at-kind.ensures c.is_ordinary.ensures c.if-is_ordinary.true)).a_token (node_by_single c.args.self.now.cpp c.args.lists c.args.nesting c.nodes.after_identifier (ordinary_single (ordinary_so c.kind_at-kind.ensures c.is_ordinary.ensures c.if-is_ordinary.true)) c.in_err-read.ensures) (rw (p.1, p.2))

pub parse_template_arguments-nodes-smaller-then-is_ordinary : goal.parse_template_arguments-nodes-smaller-then-is_ordinary
parse_template_arguments-nodes-smaller-then-is_ordinary t c = let w = (node_by_single c.args.self.now.cpp c.args.lists c.args.nesting c.nodes.after_identifier (ordinary_single (ordinary_so c.kind_at-kind.ensures c.is_ordinary.ensures c.if-is_ordinary.true)) c.in_ok-read.ensures).says in omega arith

pub parse_template_arguments-nodes-preserved-then-is_ordinary : goal.parse_template_arguments-nodes-preserved-then-is_ordinary
parse_template_arguments-nodes-preserved-then-is_ordinary t c = nodes_again c.arguments.invariant (omega arith) (closes_so _ _ c.kind_at.ensures c.is_angle_close.ensures c.if-is_angle_close.false) c.nodes.invariant (ordinary_goes_on (ordinary_so c.kind_at-kind.ensures c.is_ordinary.ensures c.if-is_ordinary.true) _ _ c.if-not-now.true) (ordinary_single (ordinary_so c.kind_at-kind.ensures c.is_ordinary.ensures c.if-is_ordinary.true)).a_token c.kind_at-kind.ensures _ (node_by_single c.args.self.now.cpp c.args.lists c.args.nesting c.nodes.after_identifier (ordinary_single (ordinary_so c.kind_at-kind.ensures c.is_ordinary.ensures c.if-is_ordinary.true)) c.in_ok-read.ensures).says c.parse_token.auto.tree (omega (arith, c.requires.room, c.arguments.invariant.long, c.arguments.invariant.way, c.nodes.invariant.long, c.nodes.invariant.way))

pub parse_template_arguments-parse_node-requires : goal.parse_template_arguments-parse_node-requires
parse_template_arguments-parse_node-requires t c = let here = inside _ _ (λ e. c.if-kind-eq-NO_TOKEN_KIND.false (c.kind_at-kind.ensures ∙ e)) in
    (omega arith, (record { within = omega arith; short = omega arith; room = simp (length-take, length-drop) (omega arith); fewer = omega arith; shallow = omega arith }, here))

pub parse_template_arguments-returns-in_err-read-2 : goal.parse_template_arguments-returns-in_err-read-2
parse_template_arguments-returns-in_err-read-2 t c =
    let p = err_from_is_err_and c.from_residual-in_err-read-2.result c.from_residual-in_err-read-2.ensures.1 in
    list_node_stops c.arguments.invariant (omega arith) (closes_so _ _ c.kind_at.ensures c.is_angle_close.ensures c.if-is_angle_close.false) c.nodes.invariant (ends_so _ _ c.kind_at-kind.ensures c.argument_ends.ensures c.if-argument_ends.false) (λ e. c.if-kind-eq-NO_TOKEN_KIND.false (c.kind_at-kind.ensures ∙ e)) c.in_err-read-2.ensures (rw (p.1, p.2))

pub parse_template_arguments-nodes-preserved : goal.parse_template_arguments-nodes-preserved
parse_template_arguments-nodes-preserved t c = nodes_again c.arguments.invariant (omega arith) (closes_so _ _ c.kind_at.ensures c.is_angle_close.ensures c.if-is_angle_close.false) c.nodes.invariant (ends_so _ _ c.kind_at-kind.ensures c.argument_ends.ensures c.if-argument_ends.false) (λ e. c.if-kind-eq-NO_TOKEN_KIND.false (c.kind_at-kind.ensures ∙ e)) c.kind_at-kind.ensures _ c.in_ok-read-2.ensures.says c.parse_node.auto.tree (omega (arith, c.requires.room, c.arguments.invariant.long, c.arguments.invariant.way, c.nodes.invariant.long, c.nodes.invariant.way))

pub parse_template_arguments-arguments-preserved : goal.parse_template_arguments-arguments-preserved
parse_template_arguments-arguments-preserved t c = arguments_again c.arguments.invariant (omega arith) (closes_so _ _ c.kind_at.ensures c.is_angle_close.ensures c.if-is_angle_close.false) c.nodes.invariant (ends_so _ _ c.kind_at-kind.ensures c.argument_ends.ensures c.if-argument_ends.true) (omega arith) _ _ c.put_node.ensures c.put_node.auto.tree (omega arith) (sym c.kind_at-in-arguments.ensures ∙ c.if-kind_at-ne-COMMA.false) (simp (length-append, length-take, length-drop) (omega (arith, c.put_node.auto.tree)))

-- How the arguments end, wherever their loop is left.
ended : (t : ℕ) (c : goal.parse_template_arguments-After-end_list t)
    → Ended c.args.self.now.kinds.now c.args.tree.now c.args.parser.cursor (region_due c.args.self.now.cpp c.args.self.now.kinds.now list c.args.lists c.args.nesting c.args.parser) c.if-is_angle_close.tree c.if-is_angle_close.now c.if-is_angle_close.nodes c.if-is_angle_close.outcome
ended t c =
    let outer = c.arguments.invariant in
    elim c.if-is_angle_close.branch [
      | parse_template_arguments-then-is_angle_close w ↦ ended_empty w.tree-is w.now-is w.nodes-is outer.long w.outcome-is (empty_first outer (omega arith) (closes_so _ _ c.kind_at.ensures c.is_angle_close.ensures w.if-is_angle_close.true))
      | parse_template_arguments-else-is_angle_close+else-not-now+else-argument_ends+then-kind-eq-NO_TOKEN_KIND w ↦ ended_unterminated w.tree-is w.now-is w.nodes-is (w.nodes.invariant.long ∙ outer.long) w.outcome-is (unterminated outer (omega arith) (closes_so _ _ c.kind_at.ensures c.is_angle_close.ensures w.if-is_angle_close.false) w.nodes.invariant (ends_so _ _ w.kind_at-kind.ensures w.argument_ends.ensures w.if-argument_ends.false) (sym w.kind_at-kind.ensures ∙ w.if-kind-eq-NO_TOKEN_KIND.true))
      | parse_template_arguments-else-is_angle_close+else-not-now+then-argument_ends+then-inner-eq0 w ↦ ended_empty w.tree-is w.now-is w.nodes-is (w.nodes.invariant.long ∙ outer.long) w.outcome-is (argument_empty outer (omega arith) (closes_so _ _ c.kind_at.ensures c.is_angle_close.ensures w.if-is_angle_close.false) w.nodes.invariant (ends_so _ _ w.kind_at-kind.ensures w.argument_ends.ensures w.if-argument_ends.true) w.if-inner-eq0.true)
      | parse_template_arguments-else-is_angle_close+else-not-now+then-argument_ends+else-inner-eq0+then-kind_at-ne-COMMA w ↦ ended_closed w.tree-is w.now-is w.nodes-is (simp (length-append, length-take, length-drop) (omega (arith, w.put_node.auto.tree, w.nodes.invariant.long, outer.long))) w.outcome-is (arguments_closed outer (omega arith) (closes_so _ _ c.kind_at.ensures c.is_angle_close.ensures w.if-is_angle_close.false) w.nodes.invariant (ends_so _ _ w.kind_at-kind.ensures w.argument_ends.ensures w.if-argument_ends.true) (omega (arith, w.if-inner-eq0)) _ _ w.put_node.ensures w.put_node.auto.tree (omega (arith, w.nodes.invariant.long, outer.long, w.nodes.invariant.way, outer.way)) (λ e. w.if-kind_at-ne-COMMA.true (w.kind_at-in-arguments.ensures ∙ e)))
    ]

pub parse_template_arguments-returns : goal.parse_template_arguments-returns
parse_template_arguments-returns t c = list_says _ c.end_list.ensures (ended t c)
