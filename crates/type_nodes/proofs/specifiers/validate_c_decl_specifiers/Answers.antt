-- `validate_c_decl_specifiers` meets its contract: what is left of the nodes decides. Assumes nothing.
use native.Mathlib.Omega.{arith}
use Rattle.type_nodes.specs.Laws.SpecifierLoop.{specifiers_start, specifiers_ready, ready_to_end, count_fits, specifiers_further, specifiers_fits, specifiers_ready_next}
use Rattle.type_nodes.specs.Laws.SpecifierLoop.{specifiers_ended, specifiers_more, specifiers_name, specifiers_scope, specifiers_stop, specifiers_on, specifiers_count}
use Rattle.type_nodes.proofs.specifiers.validate_c_decl_specifiers.Goals as goal

pub loop-seen-init : goal.loop-seen-init
loop-seen-init c = specifiers_start _ c.requires

pub specifiers_end-requires : goal.specifiers_end-requires
specifiers_end-requires c = ready_to_end c.loop-seen.invariant

pub returns-then-ends_specifiers : goal.returns-then-ends_specifiers
returns-then-ends_specifiers c = specifiers_ended c.loop-seen.invariant c.shape_at-shape.ensures c.ends_specifiers.ensures c.if-ends_specifiers.true c.specifiers_end.ensures

pub node_end-next-requires : goal.node_end-next-requires
node_end-next-requires c = ((specifiers_more c.loop-seen.invariant c.shape_at-shape.ensures c.ends_specifiers.ensures c.if-ends_specifiers.false), (specifiers_ready c.loop-seen.invariant).nodes_stand)

pub loop-seen-smaller-then-is_plain_name : goal.loop-seen-smaller-then-is_plain_name
loop-seen-smaller-then-is_plain_name c = omega (arith, specifiers_further c.loop-seen.invariant (specifiers_more c.loop-seen.invariant c.shape_at-shape.ensures c.ends_specifiers.ensures c.if-ends_specifiers.false) c.shape_at-shape.ensures c.node_end-next.ensures, specifiers_fits c.loop-seen.invariant (specifiers_more c.loop-seen.invariant c.shape_at-shape.ensures c.ends_specifiers.ensures c.if-ends_specifiers.false) c.shape_at-shape.ensures c.node_end-next.ensures)

pub loop-seen-preserved-then-is_plain_name : goal.loop-seen-preserved-then-is_plain_name
loop-seen-preserved-then-is_plain_name c = specifiers_name c.loop-seen.invariant (specifiers_more c.loop-seen.invariant c.shape_at-shape.ensures c.ends_specifiers.ensures c.if-ends_specifiers.false) c.shape_at-shape.ensures c.node_end-next.ensures c.exact_word-word.ensures c.is_plain_name.ensures c.if-is_plain_name.true

pub loop-seen-smaller-then-is_scope_after_name : goal.loop-seen-smaller-then-is_scope_after_name
loop-seen-smaller-then-is_scope_after_name c = omega (arith, specifiers_further c.loop-seen.invariant (specifiers_more c.loop-seen.invariant c.shape_at-shape.ensures c.ends_specifiers.ensures c.if-ends_specifiers.false) c.shape_at-shape.ensures c.node_end-next.ensures, specifiers_fits c.loop-seen.invariant (specifiers_more c.loop-seen.invariant c.shape_at-shape.ensures c.ends_specifiers.ensures c.if-ends_specifiers.false) c.shape_at-shape.ensures c.node_end-next.ensures)

pub loop-seen-preserved-then-is_scope_after_name : goal.loop-seen-preserved-then-is_scope_after_name
loop-seen-preserved-then-is_scope_after_name c = specifiers_scope c.loop-seen.invariant (specifiers_more c.loop-seen.invariant c.shape_at-shape.ensures c.ends_specifiers.ensures c.if-ends_specifiers.false) c.shape_at-shape.ensures c.node_end-next.ensures c.exact_word-word.ensures c.is_scope_after_name.ensures c.if-is_scope_after_name.true

pub shape_at-right-requires : goal.shape_at-right-requires
shape_at-right-requires c = (specifiers_ready_next c.loop-seen.invariant (specifiers_more c.loop-seen.invariant c.shape_at-shape.ensures c.ends_specifiers.ensures c.if-ends_specifiers.false) c.shape_at-shape.ensures c.node_end-next.ensures).nodes_stand

pub exact_word-second-requires : goal.exact_word-second-requires
exact_word-second-requires c = specifiers_ready_next c.loop-seen.invariant (specifiers_more c.loop-seen.invariant c.shape_at-shape.ensures c.ends_specifiers.ensures c.if-ends_specifiers.false) c.shape_at-shape.ensures c.node_end-next.ensures

pub returns-in-Stop : goal.returns-in-Stop
returns-in-Stop c = specifiers_stop c.loop-seen.invariant (specifiers_more c.loop-seen.invariant c.shape_at-shape.ensures c.ends_specifiers.ensures c.if-ends_specifiers.false) c.shape_at-shape.ensures c.node_end-next.ensures c.exact_word-word.ensures c.shape_at-right.ensures c.exact_word-second.ensures c.specifier_node-step.ensures c.in-Stop.is

pub overflow_add-seen : goal.overflow_add-seen
overflow_add-seen c = omega (arith, count_fits c.loop-seen.invariant c.in-Count.counted (specifiers_more c.loop-seen.invariant c.shape_at-shape.ensures c.ends_specifiers.ensures c.if-ends_specifiers.false))

pub loop-seen-smaller-in-On : goal.loop-seen-smaller-in-On
loop-seen-smaller-in-On c = omega (arith, specifiers_further c.loop-seen.invariant (specifiers_more c.loop-seen.invariant c.shape_at-shape.ensures c.ends_specifiers.ensures c.if-ends_specifiers.false) c.shape_at-shape.ensures c.node_end-next.ensures, specifiers_fits c.loop-seen.invariant (specifiers_more c.loop-seen.invariant c.shape_at-shape.ensures c.ends_specifiers.ensures c.if-ends_specifiers.false) c.shape_at-shape.ensures c.node_end-next.ensures)

pub loop-seen-preserved-in-On : goal.loop-seen-preserved-in-On
loop-seen-preserved-in-On c = specifiers_on c.loop-seen.invariant (specifiers_more c.loop-seen.invariant c.shape_at-shape.ensures c.ends_specifiers.ensures c.if-ends_specifiers.false) c.shape_at-shape.ensures c.node_end-next.ensures c.exact_word-word.ensures c.shape_at-right.ensures c.exact_word-second.ensures c.specifier_node-step.ensures c.in-On.is

pub loop-seen-smaller : goal.loop-seen-smaller
loop-seen-smaller c = omega (arith, specifiers_further c.loop-seen.invariant (specifiers_more c.loop-seen.invariant c.shape_at-shape.ensures c.ends_specifiers.ensures c.if-ends_specifiers.false) c.shape_at-shape.ensures c.node_end-next.ensures, specifiers_fits c.loop-seen.invariant (specifiers_more c.loop-seen.invariant c.shape_at-shape.ensures c.ends_specifiers.ensures c.if-ends_specifiers.false) c.shape_at-shape.ensures c.node_end-next.ensures)

pub loop-seen-preserved : goal.loop-seen-preserved
loop-seen-preserved c = specifiers_count c.loop-seen.invariant (specifiers_more c.loop-seen.invariant c.shape_at-shape.ensures c.ends_specifiers.ensures c.if-ends_specifiers.false) c.shape_at-shape.ensures c.node_end-next.ensures c.exact_word-word.ensures c.shape_at-right.ensures c.exact_word-second.ensures c.specifier_node-step.ensures c.in-Count.is c.is_c_builtin_type_word-builtin.ensures
