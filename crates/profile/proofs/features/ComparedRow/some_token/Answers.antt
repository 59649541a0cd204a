-- `some_token` meets its contract. Assumes nothing.
use mathlib.Core.Path.{◌∙◌, sym}
use native.Mathlib.Omega.{arith}
use Rattle.profile.specs.Laws.SomeToken.{looking_start, looking_on, looking_found, looking_end}
use Rattle.profile.proofs.features.ComparedRow.some_token.Goals as goal

pub loop-at-init : goal.loop-at-init
loop-at-init g c = λ p told. looking_start _ _

pub returns-then-passes : goal.returns-then-passes
returns-then-passes g c = record { says = λ p told. looking_found _ _ (c.loop-at.invariant p told) (omega arith) (sym (told _ (omega arith) _ c.passes.ensures) ∙ c.if-passes.true) }

pub loop-at-preserved : goal.loop-at-preserved
loop-at-preserved g c = λ p told. looking_on _ _ (c.loop-at.invariant p told) (omega arith) (sym (told _ (omega arith) _ c.passes.ensures) ∙ c.if-passes.false)

pub returns : goal.returns
returns g c = record { says = λ p told. looking_end _ _ (c.loop-at.invariant p told) (omega arith) }
