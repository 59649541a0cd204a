-- `validate_fortran_selector` meets its contract. Assumes nothing.
use native.Mathlib.Omega.{arith}
use Rattle.type_nodes.specs.Laws.Commas.{shaped_range, formed_next}
use Rattle.structure.specs.Laws.Inside.{selector_value, selector_name, selector_without, selector_with}
use Rattle.structure.proofs.level.Level.validate_fortran_selector.Goals as goal

pub returns-then-shape_at-ne-IDENTIFIER : goal.returns-then-shape_at-ne-IDENTIFIER
returns-then-shape_at-ne-IDENTIFIER c = selector_value _ _ c.shape_at.ensures c.if-shape_at-ne-IDENTIFIER.true c.validate_fortran_selector_value.ensures

pub node_end-second-requires : goal.node_end-second-requires
node_end-second-requires c = (shaped_range c.args.self.now.stands.nodes_stand c.shape_at.ensures (omega (arith, c.if-shape_at-ne-IDENTIFIER.false)), c.args.self.now.stands.nodes_stand)

pub shape_at-requires-2 : goal.shape_at-requires-2
shape_at-requires-2 c = formed_next c.args.self.now.stands.nodes_stand (shaped_range c.args.self.now.stands.nodes_stand c.shape_at.ensures (omega (arith, c.if-shape_at-ne-IDENTIFIER.false))) c.node_end-second.ensures

pub returns-then-shape_at-ne-EQUAL : goal.returns-then-shape_at-ne-EQUAL
returns-then-shape_at-ne-EQUAL c = selector_name _ _ c.shape_at.ensures c.if-shape_at-ne-IDENTIFIER.false (shaped_range c.args.self.now.stands.nodes_stand c.shape_at.ensures (omega (arith, c.if-shape_at-ne-IDENTIFIER.false))) c.node_end-second.ensures c.shape_at-2.ensures c.if-shape_at-ne-EQUAL.true c.validate_fortran_selector_value-then-shape_at-ne-EQUAL.ensures

pub node_end-value-requires : goal.node_end-value-requires
node_end-value-requires c = (shaped_range (formed_next c.args.self.now.stands.nodes_stand (shaped_range c.args.self.now.stands.nodes_stand c.shape_at.ensures (omega (arith, c.if-shape_at-ne-IDENTIFIER.false))) c.node_end-second.ensures) c.shape_at-2.ensures (omega (arith, c.if-shape_at-ne-EQUAL.false)), formed_next c.args.self.now.stands.nodes_stand (shaped_range c.args.self.now.stands.nodes_stand c.shape_at.ensures (omega (arith, c.if-shape_at-ne-IDENTIFIER.false))) c.node_end-second.ensures)

pub returns-then-value-to : goal.returns-then-value-to
returns-then-value-to c = selector_without _ _ c.shape_at.ensures c.if-shape_at-ne-IDENTIFIER.false (shaped_range c.args.self.now.stands.nodes_stand c.shape_at.ensures (omega (arith, c.if-shape_at-ne-IDENTIFIER.false))) c.node_end-second.ensures c.shape_at-2.ensures c.if-shape_at-ne-EQUAL.false (shaped_range (formed_next c.args.self.now.stands.nodes_stand (shaped_range c.args.self.now.stands.nodes_stand c.shape_at.ensures (omega (arith, c.if-shape_at-ne-IDENTIFIER.false))) c.node_end-second.ensures) c.shape_at-2.ensures (omega (arith, c.if-shape_at-ne-EQUAL.false))) c.node_end-value.ensures c.if-value-to.true

pub within-requires : goal.within-requires
within-requires c = record { nodes_stand = formed_next (formed_next c.args.self.now.stands.nodes_stand (shaped_range c.args.self.now.stands.nodes_stand c.shape_at.ensures (omega (arith, c.if-shape_at-ne-IDENTIFIER.false))) c.node_end-second.ensures) (shaped_range (formed_next c.args.self.now.stands.nodes_stand (shaped_range c.args.self.now.stands.nodes_stand c.shape_at.ensures (omega (arith, c.if-shape_at-ne-IDENTIFIER.false))) c.node_end-second.ensures) c.shape_at-2.ensures (omega (arith, c.if-shape_at-ne-EQUAL.false))) c.node_end-value.ensures; worded = c.args.self.now.stands.worded }

pub returns : goal.returns
returns c = selector_with _ _ c.shape_at.ensures c.if-shape_at-ne-IDENTIFIER.false (shaped_range c.args.self.now.stands.nodes_stand c.shape_at.ensures (omega (arith, c.if-shape_at-ne-IDENTIFIER.false))) c.node_end-second.ensures c.shape_at-2.ensures c.if-shape_at-ne-EQUAL.false (shaped_range (formed_next c.args.self.now.stands.nodes_stand (shaped_range c.args.self.now.stands.nodes_stand c.shape_at.ensures (omega (arith, c.if-shape_at-ne-IDENTIFIER.false))) c.node_end-second.ensures) c.shape_at-2.ensures (omega (arith, c.if-shape_at-ne-EQUAL.false))) c.node_end-value.ensures c.if-value-to.false (rw c.within.ensures.1 at c.validate_fortran_selector_value-2.ensures)
