-- `in_list` meets its contract. Assumes nothing.
use native.Mathlib.Omega.{arith}
use Rattle.reader.specs.Nodes.{number}
use Rattle.named_reader.specs.Laws.Moves.{all_held, inner_begun, nothing_open, kind_tells}
use Rattle.named_reader.proofs.frames.in_list.Goals as goal

pub returns-then-reader-eq0 : goal.returns-then-reader-eq0
returns-then-reader-eq0 c = record { says = λ s st. nothing_open st c.if-reader-eq0.true }

pub node_kind-requires : goal.node_kind-requires
node_kind-requires c = omega (arith, all_held c.requires.stands, inner_begun c.requires.stands, c.if-reader-eq0.false)

pub returns : goal.returns
unfolding number
returns c = record { says = λ s st. kind_tells st c.if-reader-eq0.false c.node_kind.ensures }
