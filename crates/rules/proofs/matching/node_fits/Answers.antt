-- `node_fits` meets its contract. Assumes nothing.
use native.Mathlib.Omega.{arith}
use Rattle.rules.specs.Laws.Rows.{not_nothing, token_there, node_told}
use Rattle.rules.proofs.matching.node_fits.Goals as goal

pub node_at-found-requires : goal.node_at-found-requires
node_at-found-requires c = c.requires.2

pub returns-in_default : goal.returns-in_default
returns-in_default c = not_nothing c.requires.1 c.node_at-found.ensures c.in_default.is

pub offset_bounds-row-token : goal.offset_bounds-row-token
offset_bounds-row-token c = omega (arith, token_there c.requires.1 c.node_at-found.ensures c.in-Some.is c.requires.2 c.args.row.now.seen)

pub bounds-row-token : goal.bounds-row-token
bounds-row-token c = token_there c.requires.1 c.node_at-found.ensures c.in-Some.is c.requires.2 c.args.row.now.seen

pub item_fits-requires : goal.item_fits-requires
item_fits-requires c = c.requires.0

pub returns : goal.returns
returns c = node_told c.requires.1 c.node_at-found.ensures c.in-Some.is (rw c.current.ensures at c.word.ensures) c.item_fits.ensures
