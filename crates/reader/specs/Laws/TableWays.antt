-- What the ways through the tables' code show.
-- Assumes nothing.
use Rattle.std.specs.Prelude.{◌≡◌, refl, Bool, true, false, ◌||◌, ℕ, Option, Some}
use Rattle.rows.specs.Kinds.{RightParen, RightBracket}
use Rattle.rows.specs.declared.answer.Delimiter.{Delimiter}
use Rattle.rows.specs.declared.answer.Delimiter.TheVariants.{Parenthesis, Bracket}
use Rattle.reader.specs.Reading.{next}
use Rattle.reader.specs.declared.tables.GroupStep.{GroupStep}
use Rattle.reader.specs.Tables.{region_of, in_group, Plans, PlansGroup}

pub or_true : (b : Bool) → (b || true) ≡ true
or_true true = refl
or_true false = refl

pub or_false : (b : Bool) → (b || false) ≡ b
or_false true = refl
or_false false = refl

-- ---- the table of a group

module _ {step : GroupStep} {k at : ℕ} where
  pub round_plans : {end : Option Delimiter} {d : Delimiter} → end ≡ Some d → d ≡ Parenthesis → PlansGroup step RightParen RightBracket k at → Plans step (region_of end) k at
  unfolding next in_group
  round_plans e f p = rw (e, f) (record { plans = λ cpp after_identifier half lists. p.plans cpp after_identifier })

  pub square_plans : {end : Option Delimiter} {d : Delimiter} → end ≡ Some d → d ≡ Bracket → PlansGroup step RightBracket RightParen k at → Plans step (region_of end) k at
  unfolding next in_group
  square_plans e f p = rw (e, f) (record { plans = λ cpp after_identifier half lists. p.plans cpp after_identifier })
