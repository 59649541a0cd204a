-- `check_profile` meets its contract. Assumes nothing.
use mathlib.Core.Path.{sym, ap, ◌∙◌}
use Rattle.type_name.specs.EntrySays.{profile_answer}
use Rattle.type_name.proofs.tree.check_profile.Goals as goal

pub returns-in-None : goal.returns-in-None
returns-in-None c = ap (profile_answer c.args.nodes c.args.steps) (sym c.in-None.is ∙ c.validate_profile_features-lack.ensures)

pub returns-in-Some : goal.returns-in-Some
returns-in-Some c = ap (profile_answer c.args.nodes c.args.steps) (sym c.in-Some.is ∙ c.validate_profile_features-lack.ensures)
