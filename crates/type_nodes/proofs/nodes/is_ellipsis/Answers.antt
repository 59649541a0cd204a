-- `is_ellipsis` meets its contract: from dot to dot. Assumes nothing.
use Rattle.type_nodes.specs.Laws.Commas.{inside_range, formed_next, no_dot_1, no_dot_2, no_dot_3, dots}
use Rattle.type_nodes.proofs.nodes.is_ellipsis.Goals as goal

pub returns-then-shape_at-ne-DOT : goal.returns-then-shape_at-ne-DOT
returns-then-shape_at-ne-DOT c = no_dot_1 c.shape_at.ensures c.if-shape_at-ne-DOT.true

pub node_end-second-requires : goal.node_end-second-requires
node_end-second-requires c = (inside_range c.requires c.shape_at.ensures c.if-shape_at-ne-DOT.false, c.requires)

pub shape_at-requires-2 : goal.shape_at-requires-2
shape_at-requires-2 c = formed_next c.requires (inside_range c.requires c.shape_at.ensures c.if-shape_at-ne-DOT.false) c.node_end-second.ensures

pub returns-then-shape_at-ne-DOT-2 : goal.returns-then-shape_at-ne-DOT-2
returns-then-shape_at-ne-DOT-2 c = no_dot_2 c.shape_at.ensures c.if-shape_at-ne-DOT.false (inside_range c.requires c.shape_at.ensures c.if-shape_at-ne-DOT.false) c.node_end-second.ensures c.shape_at-2.ensures c.if-shape_at-ne-DOT-2.true

pub node_end-third-requires : goal.node_end-third-requires
node_end-third-requires c = let f = formed_next c.requires (inside_range c.requires c.shape_at.ensures c.if-shape_at-ne-DOT.false) c.node_end-second.ensures in
    (inside_range f c.shape_at-2.ensures c.if-shape_at-ne-DOT-2.false, f)

pub shape_at-requires-3 : goal.shape_at-requires-3
shape_at-requires-3 c = let f = formed_next c.requires (inside_range c.requires c.shape_at.ensures c.if-shape_at-ne-DOT.false) c.node_end-second.ensures in
    formed_next f (inside_range f c.shape_at-2.ensures c.if-shape_at-ne-DOT-2.false) c.node_end-third.ensures

pub returns-then-shape_at-ne-DOT-3 : goal.returns-then-shape_at-ne-DOT-3
returns-then-shape_at-ne-DOT-3 c = let h = inside_range c.requires c.shape_at.ensures c.if-shape_at-ne-DOT.false in
    let f = formed_next c.requires h c.node_end-second.ensures in
    no_dot_3 c.shape_at.ensures c.if-shape_at-ne-DOT.false h c.node_end-second.ensures c.shape_at-2.ensures c.if-shape_at-ne-DOT-2.false (inside_range f c.shape_at-2.ensures c.if-shape_at-ne-DOT-2.false) c.node_end-third.ensures c.shape_at-3.ensures c.if-shape_at-ne-DOT-3.true

pub node_end-requires : goal.node_end-requires
node_end-requires c = let f = formed_next c.requires (inside_range c.requires c.shape_at.ensures c.if-shape_at-ne-DOT.false) c.node_end-second.ensures in
    let g = formed_next f (inside_range f c.shape_at-2.ensures c.if-shape_at-ne-DOT-2.false) c.node_end-third.ensures in
    (inside_range g c.shape_at-3.ensures c.if-shape_at-ne-DOT-3.false, g)

pub returns : goal.returns
returns c = let h = inside_range c.requires c.shape_at.ensures c.if-shape_at-ne-DOT.false in
    let f = formed_next c.requires h c.node_end-second.ensures in
    let i = inside_range f c.shape_at-2.ensures c.if-shape_at-ne-DOT-2.false in
    let g = formed_next f i c.node_end-third.ensures in
    dots c.shape_at.ensures c.if-shape_at-ne-DOT.false h c.node_end-second.ensures c.shape_at-2.ensures c.if-shape_at-ne-DOT-2.false i c.node_end-third.ensures c.shape_at-3.ensures c.if-shape_at-ne-DOT-3.false (inside_range g c.shape_at-3.ensures c.if-shape_at-ne-DOT-3.false) c.node_end.ensures
