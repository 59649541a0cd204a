-- What a row uses and a standard lacks: document 01, refusal 40; `validate_profile_features` restated over rows.
-- Assumes nothing.
use Rattle.std.specs.Prelude.{ℕ, zero, suc, ◌+◌, Bool, true, false, ◌&&◌, ◌||◌, List, [], ◌∷◌, length, get_or, leb, ltb, if◌then◌else◌, None, Option, Some}
use Rattle.std.proofs.Math.Dec.{eqb}
use Rattle.rows.specs.Languages.{C, Cpp, Fortran, C99, C11, C23, Cpp11, Fortran90, Fortran2003, Fortran2018}
use Rattle.rows.specs.Kinds.{Identifier, LeftParen, RightParen, Dot, Star, LogicalAnd, Equal, NoToken}
use Rattle.rows.specs.Words.{no_word, exactly, ignoring_case, long, _Atomic, _BitInt, typeof, typeof_unqual, decltype, type, class}
use Rattle.rows.specs.Refusals.{feature_detail}
use Rattle.rows.specs.declared.answer.Feature.{Feature}
use Rattle.rows.specs.declared.answer.Feature.TheVariants.{LongLong, Atomic, BitInt, Typeof, TypeofUnqual, Decltype, RvalueReference, Selector, DerivedType, Class, AssumedTypeOrRank}

-- Some number below n passes: `any` over the places of a row.
unfoldable pub some_below : (n : ℕ) → (ℕ → Bool) → Bool
some_below zero p = false
some_below (suc n) p = some_below n p || p n

module _ (kinds : List ℕ) where
  -- `matches!` of a token: there is a token at this place, of this kind.
  unfoldable pub kind_is : (at kind : ℕ) → Bool
  kind_is at kind = eqb (get_or kinds at NoToken) kind

  -- Some place of the row passes: `windows(..).any`.
  unfoldable pub some_token : (ℕ → Bool) → Bool
  unfolding some_below
  some_token p = some_below (length kinds) p

  -- `tokens.iter().any` of `validate_profile_features`.
  unfoldable pub has_kind : (kind : ℕ) → Bool
  unfolding some_token kind_is
  has_kind kind = some_token (λ at. kind_is at kind)

  -- `has_assumed_rank`
  unfoldable pub has_assumed_rank : Bool
  unfolding some_token kind_is
  has_assumed_rank = some_token (λ at. kind_is at LeftParen && kind_is (at + 1) Dot && kind_is (at + 2) Dot && kind_is (at + 3) RightParen)

-- Whether `identifier_is` ignores case: in every language.
abbrev pub ignores_case : (language : ℕ) → Bool
ignores_case language = true

-- Which known word it is as words are compared, by its number.
abbrev pub compared : (ignoring : Bool) (number : ℕ) → ℕ
compared ignoring number = if ignoring then ignoring_case number else exactly number

module _ (ignoring : Bool) (kinds words : List ℕ) where
  -- `identifier_is`, with case ignored or not.
  unfoldable pub identifier_is : (at word : ℕ) → Bool
  unfolding kind_is exactly ignoring_case
  identifier_is at word = kind_is kinds at Identifier && eqb (compared ignoring (get_or words at no_word)) word

  -- `has_adjacent_identifiers`
  unfoldable pub has_adjacent_identifiers : (first second : ℕ) → Bool
  unfolding some_token identifier_is
  has_adjacent_identifiers first second = some_token kinds (λ at. identifier_is at first && identifier_is (at + 1) second)

  -- `has_identifier_call`
  unfoldable pub has_identifier_call : (name : ℕ) → Bool
  unfolding some_token identifier_is kind_is
  has_identifier_call name = some_token kinds (λ at. identifier_is at name && kind_is kinds (at + 1) LeftParen)

  -- `has_identifier_followed_by_star`
  unfoldable pub has_identifier_followed_by_star : (name : ℕ) → Bool
  unfolding some_token identifier_is kind_is
  has_identifier_followed_by_star name = some_token kinds (λ at. identifier_is at name && kind_is kinds (at + 1) LeftParen && kind_is kinds (at + 2) Star)

  -- The row uses the feature: the tests of `validate_profile_features`, in the order of refusal 40's details.
  unfoldable pub uses : Feature → Bool
  unfolding has_adjacent_identifiers has_identifier_call has_kind has_identifier_followed_by_star has_assumed_rank
  uses LongLong = has_adjacent_identifiers long long
  uses Atomic = has_identifier_call _Atomic
  uses BitInt = has_identifier_call _BitInt
  uses Typeof = has_identifier_call typeof
  uses TypeofUnqual = has_identifier_call typeof_unqual
  uses Decltype = has_identifier_call decltype
  uses RvalueReference = has_kind kinds LogicalAnd
  uses Selector = has_kind kinds Equal
  uses DerivedType = has_identifier_call type
  uses Class = has_identifier_call class
  uses AssumedTypeOrRank = has_identifier_followed_by_star type || has_assumed_rank kinds

-- A feature of a language, and the standard that first has it: the `standard <` of `validate_profile_features`.
pub record Since : Type 0 where
  pub feature : Feature
  pub standard : ℕ

infix 70 ◌since◌
-- The same, for the lists of `features`.
abbrev pub ◌since◌ : Feature → ℕ → Since
f since s = record { feature = f; standard = s }

-- The features that `validate_profile_features` tests in each language.
unfoldable pub features : (language : ℕ) → List Since
features language =
    if eqb language C then LongLong since C99 ∷ Atomic since C11 ∷ BitInt since C23 ∷ Typeof since C23 ∷ TypeofUnqual since C23 ∷ []
    else if eqb language Cpp then LongLong since Cpp11 ∷ Decltype since Cpp11 ∷ RvalueReference since Cpp11 ∷ []
    else if eqb language Fortran then
    Selector since Fortran90 ∷ DerivedType since Fortran90 ∷ Class since Fortran2003 ∷ AssumedTypeOrRank since Fortran2018 ∷ []
    else []

-- "Of several missing features the one with the least detail is given."
unfoldable pub least : Feature → Option Feature → Option Feature
least f None = Some f
least f (Some g) = if leb (feature_detail f) (feature_detail g) then Some f else Some g

-- What the standard lacks of these features: `validate_profile_features`, a feature after the other.
unfoldable pub lacking : (ignoring : Bool) (standard : ℕ) → (kinds words : List ℕ) → List Since → Option Feature
unfolding uses least
lacking ignoring standard kinds words [] = None
lacking ignoring standard kinds words (s ∷ ss) =
    let rest = lacking ignoring standard kinds words ss in
    if uses ignoring kinds words s.feature && ltb standard s.standard then least s.feature rest else rest

-- `validate_profile_features`
unfoldable pub missing_feature : (language standard : ℕ) → (kinds words : List ℕ) → Option Feature
unfolding lacking features
missing_feature language standard kinds words = lacking (ignores_case language) standard kinds words (features language)
