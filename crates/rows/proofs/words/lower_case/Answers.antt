-- `lower_case` meets its contract. Assumes nothing.
use Rattle.std.proofs.Common.{arith}
use Rattle.std.proofs.lemmas.Bool.Decides.{nat_tests}
use Rattle.rows.specs.Words.{lower}
use Rattle.rows.proofs.words.lower_case.Goals as goal

pub returns : goal.returns
unfolding lower
returns c = grind (arith, nat_tests)
