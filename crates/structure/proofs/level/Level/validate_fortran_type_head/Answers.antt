-- `validate_fortran_type_head` meets its contract. Assumes nothing.
use Rattle.type_nodes.specs.Nodes.{next}
use Rattle.type_nodes.specs.Laws.Siblings.{found_there, found_nothing}
use Rattle.structure.specs.Laws.Heads.{no_head, after_found, formed_after, head_there}
use Rattle.structure.proofs.level.Level.validate_fortran_type_head.Goals as goal

pub returns-in_default : goal.returns-in_default
returns-in_default c = λ x s. no_head _ _ x (found_nothing _ _ x (c.node_at.ensures x s) c.in_default.is)

pub shape_at-right-requires : goal.shape_at-right-requires
shape_at-right-requires c = formed_after c.args.self.now.stands.nodes_stand (found_there _ _ c.args.self.now.stands.nodes_stand.nodes (c.node_at.ensures c.args.self.now.stands.nodes_stand.nodes c.args.self.now.stands.nodes_stand.stands) c.in-Some.is)

pub node_identifier-requires-2 : goal.node_identifier-requires-2
node_identifier-requires-2 c = record { nodes_stand = formed_after c.args.self.now.stands.nodes_stand (found_there _ _ c.args.self.now.stands.nodes_stand.nodes (c.node_at.ensures c.args.self.now.stands.nodes_stand.nodes c.args.self.now.stands.nodes_stand.stands) c.in-Some.is); worded = c.args.self.now.stands.worded }

pub returns : goal.returns
returns c = λ x s.
    let f = found_there _ _ x (c.node_at.ensures x s) c.in-Some.is in
    let u = after_found x s f in
    head_there _ _ x c.head_holds.ensures f.1 c.ignoring_case-word.ensures (c.node_identifier.ensures x s) (c.shape_at-right.ensures (next x) u) c.ignoring_case-second.ensures (c.node_identifier-2.ensures (next x) u)
