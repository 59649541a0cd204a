-- What is lacking of a list of features whose details ascend: the first that is used and not there yet. Assumes nothing.
use Rattle.std.specs.Prelude.{ℕ, ◌≤◌, ◌≡◌, Bool, true, false, ◌&&◌, leb, if◌then◌else◌, None, Option, Some}
use Rattle.std.proofs.Math.Path.{refl}
use Rattle.std.proofs.Common.{sym, true≢false, le-ltb}
use mathlib.Core.List.{List, [], ◌∷◌}
use Rattle.std.proofs.Math.Dec.{ltb}
use Rattle.rows.specs.Refusals.{feature_detail}
use Rattle.rows.specs.declared.answer.Feature.{Feature}
use Rattle.profile.specs.Profile.{Since, ◌since◌, uses, least, lacking}

-- A feature that the standard has is not lacking.
pub is_there : (used : Bool) (standard n : ℕ) → n ≤ standard → false ≡ (used && ltb standard n)
is_there true standard n l = sym (le-ltb standard n l)
is_there false standard n l = refl

-- No feature of the list has less detail than f.
unfoldable pub ascends : Feature → List Since → Bool
ascends f [] = true
ascends f (s ∷ ss) = leb (feature_detail f) (feature_detail s.feature) && ascends f ss

abbrev NotLess : Feature → Option Feature → Type 0
NotLess f None = Unit {0}
NotLess f (Some g) = leb (feature_detail f) (feature_detail g) ≡ true

module _ (f : Feature) where
  not_less : (l : Option Feature) → NotLess f l → least f l ≡ Some f
  unfolding least
  not_less None p = refl
  not_less (Some g) p = rw p refl

  of_two : (b : Bool) (g h : Feature) → NotLess f (Some g) → NotLess f (Some h) → NotLess f (if b then Some g else Some h)
  of_two true g h p q = p
  of_two false g h p q = q

  least_not_less : (g : Feature) (l : Option Feature) → NotLess f (Some g) → NotLess f l → NotLess f (least g l)
  unfolding least
  least_not_less g None p q = p
  least_not_less g (Some h) p q = of_two (leb (feature_detail g) (feature_detail h)) g h p q

  one_more : (b : Bool) (g : Feature) (l : Option Feature) → NotLess f (Some g) → NotLess f l → NotLess f (if b then least g l else l)
  one_more true g l p q = least_not_less g l p q
  one_more false g l p q = q

  both_first : (a b : Bool) → (a && b) ≡ true → a ≡ true
  both_first true b e = refl
  both_first false b e = e

  both_second : (a b : Bool) → (a && b) ≡ true → b ≡ true
  both_second true b e = e
  both_second false b e = absurd (true≢false (sym e))

module _ (ignoring : Bool) (standard : ℕ) (kinds words : List ℕ) where
  lacking_not_less : (f : Feature) (ss : List Since) → ascends f ss ≡ true → NotLess f (lacking ignoring standard kinds words ss)
  unfolding ascends lacking
  lacking_not_less f [] e = tt
  lacking_not_less f (s ∷ ss) e =
      one_more f (uses ignoring kinds words s.feature && ltb standard s.standard) s.feature (lacking ignoring standard kinds words ss)
      (both_first f (leb (feature_detail f) (feature_detail s.feature)) (ascends f ss) e)
      (lacking_not_less f ss (both_second f (leb (feature_detail f) (feature_detail s.feature)) (ascends f ss) e))

  -- The first feature of the list is lacking,
  pub lacks_first : (f : Feature) (n : ℕ) (ss : List Since) → ascends f ss ≡ true → (uses ignoring kinds words f && ltb standard n) ≡ true
      → Some f ≡ lacking ignoring standard kinds words (f since n ∷ ss)
  unfolding lacking
  lacks_first f n ss e p = rw p (sym (not_less f (lacking ignoring standard kinds words ss) (lacking_not_less f ss e)))

  -- or it is not,
  pub lacks_later : {r : Option Feature} (f : Feature) (n : ℕ) (ss : List Since) → (uses ignoring kinds words f && ltb standard n) ≡ false
      → r ≡ lacking ignoring standard kinds words ss → r ≡ lacking ignoring standard kinds words (f since n ∷ ss)
  unfolding lacking
  lacks_later f n ss p e = rw p e

  -- and past the last nothing is.
  pub lacks_nothing : None ≡ lacking ignoring standard kinds words []
  unfolding lacking
  lacks_nothing = refl

  -- Every feature of the list is there,
  abbrev AllThere : List Since → Type 0
  AllThere [] = Unit {0}
  AllThere (s ∷ ss) = (s.standard ≤ standard) × AllThere ss

  pub all_there : (ss : List Since) → AllThere ss → None ≡ lacking ignoring standard kinds words ss
  unfolding lacking
  all_there [] l = refl
  all_there (s ∷ ss) l = lacks_later s.feature s.standard ss (sym (is_there (uses ignoring kinds words s.feature) standard s.standard l.0)) (all_there ss l.1)

  -- or none is used.
  abbrev NoneUsed : List Since → Type 0
  NoneUsed [] = Unit {0}
  NoneUsed (s ∷ ss) = (uses ignoring kinds words s.feature ≡ false) × NoneUsed ss

  pub none_used : (ss : List Since) → NoneUsed ss → None ≡ lacking ignoring standard kinds words ss
  unfolding lacking
  none_used [] u = refl
  none_used (s ∷ ss) u = lacks_later s.feature s.standard ss (rw u.0 refl) (none_used ss u.1)

-- Case is ignored as the code found it.
pub lacking_as : {r : Option Feature} {i j : Bool} (standard : ℕ) (kinds words : List ℕ) (ss : List Since) → i ≡ j → r ≡ lacking i standard kinds words ss
    → r ≡ lacking j standard kinds words ss
lacking_as standard kinds words ss same e = rw (← same) e
