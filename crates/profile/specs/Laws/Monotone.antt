-- A standard lacks no feature that an earlier standard of its language has. The language is a parameter: nothing here looks at it.
-- Assumes nothing.
use Rattle.std.specs.Prelude.{ℕ, ◌≤◌, ◌≡◌, Bool, true, false, ◌&&◌, leb, ltb, if◌then◌else◌, None, Option, Some}
use Rattle.std.proofs.Math.Path.{refl}
use Rattle.std.proofs.Common.{sym, ap, ◌∙◌, arith, ltb-false, le-ltb}
use mathlib.Core.List.{List, [], ◌∷◌}
use Rattle.rows.specs.Refusals.{feature_detail}
use Rattle.rows.specs.declared.answer.Feature.{Feature}
use Rattle.profile.specs.Profile.{Since, ignores_case, uses, features, least, lacking, missing_feature}

-- 1 if something is lacking.
abbrev some_lack : Option Feature → ℕ
some_lack None = 0
some_lack (Some f) = 1

by_detail : (b : Bool) (f g : Feature) → some_lack (if b then Some f else Some g) ≡ 1
by_detail true f g = refl
by_detail false f g = refl

some_least : (f : Feature) (l : Option Feature) → some_lack (least f l) ≡ 1
unfolding least
some_least f None = refl
some_least f (Some g) = by_detail (leb (feature_detail f) (feature_detail g)) f g

module _ (s s' : ℕ) (later : s ≤ s') where
  -- One feature, first there with standard n, used or not; `rest` and rest' are what is lacking of the others.
  one_feature : (used : Bool) (f : Feature) (n : ℕ) (rest rest' : Option Feature) → (rest ≡ None → rest' ≡ None) → (early : Bool) → ltb s n ≡ early
      → (if used && early then least f rest else rest) ≡ None → (if used && ltb s' n then least f rest' else rest') ≡ None
  one_feature false f n rest rest' ih early e p = ih p
  one_feature true f n rest rest' ih true e p =
      let clash : ◌≡◌ {A = ℕ} 1 0 = sym (some_least f rest) ∙ ap some_lack p in
      absurd (omega (arith, clash))
  one_feature true f n rest rest' ih false e p =
      let has : n ≤ s = ltb-false s n e in
      rw (le-ltb s' n (omega (arith, has))) (ih p)

  lacking_later : (i : Bool) (kinds words : List ℕ) (ss : List Since) → lacking i s kinds words ss ≡ None → lacking i s' kinds words ss ≡ None
  unfolding lacking
  lacking_later i kinds words [] p = refl
  lacking_later i kinds words (t ∷ ss) p =
      one_feature (uses i kinds words t.feature) t.feature t.standard (lacking i s kinds words ss) (lacking i s' kinds words ss) (lacking_later i kinds words ss) (ltb s t.standard) refl p

  -- "The same or any later standard of that language."
  pub nothing_missing_later : (language : ℕ) (kinds words : List ℕ) → missing_feature language s kinds words ≡ None → missing_feature language s' kinds words ≡ None
  unfolding missing_feature
  nothing_missing_later language kinds words p = lacking_later (ignores_case language) kinds words (features language) p
