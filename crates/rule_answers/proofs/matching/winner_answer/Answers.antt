-- `winner_answer` meets its contract. Assumes nothing.
use native.Mathlib.Omega.{arith}
use mathlib.Core.Path.{ap}
use lib.ListN.{length-take}
use Rattle.rules.specs.TableStands.{winner_of}
use Rattle.rule_answers.specs.Laws.Matching.{places_ready, row_there, nodes_there, winner_told, place_below}
use Rattle.rule_answers.proofs.matching.winner_answer.Goals as goal

pub read_places-tokens-requires : goal.read_places-tokens-requires
read_places-tokens-requires c = places_ready c.requires (omega arith) (omega arith)

pub slice_bounds-kinds-end : goal.slice_bounds-kinds-end
slice_bounds-kinds-end c = omega (arith, c.read_places-tokens.ensures.few)

pub slice_bounds-row-end : goal.slice_bounds-row-end
slice_bounds-row-end c = let k = c.read_places-tokens.ensures.few in simp length-take (omega arith)

pub slice_bounds-places-end : goal.slice_bounds-places-end
slice_bounds-places-end c = omega (arith, c.read_places-tokens.ensures.few)

pub slice_bounds-row-end-2 : goal.slice_bounds-row-end-2
slice_bounds-row-end-2 c = let k = c.read_places-tokens.ensures.few in simp length-take (omega arith)

pub invariant_of-row : goal.invariant_of-row
invariant_of-row c = record { seen = ∣ row_there c.requires c.read_places-tokens.ensures ∣₁ }

pub find_winner-won-requires : goal.find_winner-won-requires
find_winner-won-requires c = nodes_there c.requires c.read_places-tokens.ensures

pub overflow_cast-result : goal.overflow_cast-result
overflow_cast-result c = let p = place_below c.requires c.read_places-tokens.ensures (ap winner_of c.in-Some.is) c.find_winner-won.ensures c.args.rules.now.read in omega (arith, p, c.args.rules.now.read.few)

pub returns-in-Some : goal.returns-in-Some
returns-in-Some c = winner_told c.requires c.read_places-tokens.ensures (ap winner_of c.in-Some.is) c.find_winner-won.ensures

pub returns-in-None : goal.returns-in-None
returns-in-None c = winner_told c.requires c.read_places-tokens.ensures (ap winner_of c.in-None.is) c.find_winner-won.ensures
