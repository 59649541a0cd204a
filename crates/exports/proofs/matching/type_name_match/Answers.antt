-- `type_name_match` meets its contract. Assumes nothing.
use mathlib.Core.Path.{refl}
use Rattle.rule_answers.specs.Laws.Promised.{match_promised}
use Rattle.exports.proofs.matching.type_name_match.Goals as goal

pub returns : goal.returns
returns c = record { returned = rw (← c.match_type_name-matched.ensures.answered) c.put_match.ensures.returned; written = rw (← c.match_type_name-matched.ensures.answered) c.put_match.ensures.written; promised = match_promised c.args.file.now c.args.rules.now c.args.tree.now _ _ refl c.match_type_name-matched.ensures.buffered }
