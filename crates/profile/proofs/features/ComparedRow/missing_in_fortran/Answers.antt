-- `missing_in_fortran` meets its contract. Assumes nothing.
use mathlib.Core.Path.{refl, sym, ◌∙◌}
use mathlib.Core.List.{[], ◌∷◌}
use Rattle.rows.specs.Languages.{Fortran90, Fortran2003, Fortran2018}
use Rattle.rows.specs.declared.answer.Feature.TheVariants.{Selector, DerivedType, Class, AssumedTypeOrRank}
use Rattle.profile.specs.Profile.{◌since◌, uses, features}
use Rattle.profile.specs.Laws.Lacking.{ascends, lacks_first, lacks_later, lacks_nothing}
use Rattle.profile.proofs.features.ComparedRow.missing_in_fortran.Goals as goal

pub returns-then-lacks : goal.returns-then-lacks
unfolding features uses ascends
returns-then-lacks c = lacks_first c.args.self.now.ignoring c.args.standard c.args.self.now.kinds.now c.args.self.now.words.now Selector Fortran90 (DerivedType since Fortran90 ∷ Class since Fortran2003 ∷ AssumedTypeOrRank since Fortran2018 ∷ []) refl (sym c.lacks.ensures ∙ c.if-lacks.true)

pub returns-then-lacks-2 : goal.returns-then-lacks-2
unfolding features uses ascends
returns-then-lacks-2 c = lacks_later c.args.self.now.ignoring c.args.standard c.args.self.now.kinds.now c.args.self.now.words.now Selector Fortran90 (DerivedType since Fortran90 ∷ Class since Fortran2003 ∷ AssumedTypeOrRank since Fortran2018 ∷ []) (sym c.lacks.ensures ∙ c.if-lacks.false) (lacks_first c.args.self.now.ignoring c.args.standard c.args.self.now.kinds.now c.args.self.now.words.now DerivedType Fortran90 (Class since Fortran2003 ∷ AssumedTypeOrRank since Fortran2018 ∷ []) refl (sym c.lacks-2.ensures ∙ c.if-lacks-2.true))

pub returns-then-lacks-3 : goal.returns-then-lacks-3
unfolding features uses ascends
returns-then-lacks-3 c = lacks_later c.args.self.now.ignoring c.args.standard c.args.self.now.kinds.now c.args.self.now.words.now Selector Fortran90 (DerivedType since Fortran90 ∷ Class since Fortran2003 ∷ AssumedTypeOrRank since Fortran2018 ∷ []) (sym c.lacks.ensures ∙ c.if-lacks.false) (lacks_later c.args.self.now.ignoring c.args.standard c.args.self.now.kinds.now c.args.self.now.words.now DerivedType Fortran90 (Class since Fortran2003 ∷ AssumedTypeOrRank since Fortran2018 ∷ []) (sym c.lacks-2.ensures ∙ c.if-lacks-2.false) (lacks_first c.args.self.now.ignoring c.args.standard c.args.self.now.kinds.now c.args.self.now.words.now Class Fortran2003 (AssumedTypeOrRank since Fortran2018 ∷ []) refl (sym c.lacks-3.ensures ∙ c.if-lacks-3.true)))

pub returns-then-lacks-4 : goal.returns-then-lacks-4
unfolding features uses ascends
returns-then-lacks-4 c = lacks_later c.args.self.now.ignoring c.args.standard c.args.self.now.kinds.now c.args.self.now.words.now Selector Fortran90 (DerivedType since Fortran90 ∷ Class since Fortran2003 ∷ AssumedTypeOrRank since Fortran2018 ∷ []) (sym c.lacks.ensures ∙ c.if-lacks.false) (lacks_later c.args.self.now.ignoring c.args.standard c.args.self.now.kinds.now c.args.self.now.words.now DerivedType Fortran90 (Class since Fortran2003 ∷ AssumedTypeOrRank since Fortran2018 ∷ []) (sym c.lacks-2.ensures ∙ c.if-lacks-2.false) (lacks_later c.args.self.now.ignoring c.args.standard c.args.self.now.kinds.now c.args.self.now.words.now Class Fortran2003 (AssumedTypeOrRank since Fortran2018 ∷ []) (sym c.lacks-3.ensures ∙ c.if-lacks-3.false) (lacks_first c.args.self.now.ignoring c.args.standard c.args.self.now.kinds.now c.args.self.now.words.now AssumedTypeOrRank Fortran2018 [] refl (sym c.lacks-4.ensures ∙ c.if-lacks-4.true))))

pub returns : goal.returns
unfolding features uses ascends
returns c = lacks_later c.args.self.now.ignoring c.args.standard c.args.self.now.kinds.now c.args.self.now.words.now Selector Fortran90 (DerivedType since Fortran90 ∷ Class since Fortran2003 ∷ AssumedTypeOrRank since Fortran2018 ∷ []) (sym c.lacks.ensures ∙ c.if-lacks.false) (lacks_later c.args.self.now.ignoring c.args.standard c.args.self.now.kinds.now c.args.self.now.words.now DerivedType Fortran90 (Class since Fortran2003 ∷ AssumedTypeOrRank since Fortran2018 ∷ []) (sym c.lacks-2.ensures ∙ c.if-lacks-2.false) (lacks_later c.args.self.now.ignoring c.args.standard c.args.self.now.kinds.now c.args.self.now.words.now Class Fortran2003 (AssumedTypeOrRank since Fortran2018 ∷ []) (sym c.lacks-3.ensures ∙ c.if-lacks-3.false) (lacks_later c.args.self.now.ignoring c.args.standard c.args.self.now.kinds.now c.args.self.now.words.now AssumedTypeOrRank Fortran2018 [] (sym c.lacks-4.ensures ∙ c.if-lacks-4.false) (lacks_nothing c.args.self.now.ignoring c.args.standard c.args.self.now.kinds.now c.args.self.now.words.now))))
