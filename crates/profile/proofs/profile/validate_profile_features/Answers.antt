-- `validate_profile_features` meets its contract. Assumes nothing.
use Rattle.rows.specs.Languages.{C, Cpp, Fortran}
use Rattle.profile.specs.Profile.{ignores_case, features, missing_feature}
use Rattle.profile.specs.Laws.Lacking.{lacking_as, lacks_nothing}
use borrow.Author.Tests.{ne_eqb}
use Rattle.profile.proofs.profile.validate_profile_features.Goals as goal

pub returns-then-language-eq-C : goal.returns-then-language-eq-C
unfolding missing_feature features
returns-then-language-eq-C c = rw c.if-language-eq-C.true (lacking_as c.args.standard c.args.kinds.now c.args.words.now (features C) c.ignores_case.ensures c.missing_in_c.ensures)

pub returns-then-language-eq-CPP : goal.returns-then-language-eq-CPP
unfolding missing_feature features
returns-then-language-eq-CPP c = rw c.if-language-eq-CPP.true (lacking_as c.args.standard c.args.kinds.now c.args.words.now (features Cpp) c.ignores_case.ensures c.missing_in_cpp.ensures)

pub returns-then-language-eq-FORTRAN : goal.returns-then-language-eq-FORTRAN
unfolding missing_feature features
returns-then-language-eq-FORTRAN c = rw c.if-language-eq-FORTRAN.true (lacking_as c.args.standard c.args.kinds.now c.args.words.now (features Fortran) c.ignores_case.ensures c.missing_in_fortran.ensures)

pub returns : goal.returns
unfolding missing_feature features
returns c = rw (ne_eqb _ _ c.if-language-eq-C.false, ne_eqb _ _ c.if-language-eq-CPP.false, ne_eqb _ _ c.if-language-eq-FORTRAN.false) (lacks_nothing (ignores_case c.args.language) c.args.standard c.args.kinds.now c.args.words.now)
