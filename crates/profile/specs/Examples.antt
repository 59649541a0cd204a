-- Computed rows of this crate's definitions, so that a wrong edit of one is refused here.
-- Assumes nothing.
use Rattle.std.specs.Prelude.{ℕ, ◌+◌, ◌≡◌, refl, List, [], ◌∷◌, None, Option, Some}
use Rattle.rows.specs.Languages.{C, Cpp, Fortran, C89, C99, C11, C18, C23, Cpp98, Cpp11, Fortran77, Fortran90, Fortran95, Fortran2003, Fortran2008, Fortran2018}
use Rattle.rows.specs.Kinds.{Identifier, Integer, LeftParen, RightParen, Dot, Star, LogicalAnd, Equal}
use Rattle.rows.specs.Words.{no_word, other_case, long, _Atomic, _BitInt, typeof, typeof_unqual, decltype, type, class}
use Rattle.rows.specs.Refusals.{feature_detail}
use Rattle.profile.specs.Profile.{missing_feature}
use Rattle.rows.specs.declared.answer.Feature.{Feature}

-- The detail of refusal 40, 0 for none.
detail_in : Option Feature → ℕ
detail_in None = 0
detail_in (Some f) = feature_detail f

ask : (language standard : ℕ) → (kinds words : List ℕ) → ℕ
unfolding detail_in missing_feature
ask language standard kinds words = detail_in (missing_feature language standard kinds words)

-- A word, `(`, an integer and `)`
call : (language standard word : ℕ) → ℕ
unfolding ask
call language standard word = ask language standard (Identifier ∷ LeftParen ∷ Integer ∷ RightParen ∷ []) (word ∷ no_word ∷ no_word ∷ no_word ∷ [])

pair : (language standard first second : ℕ) → ℕ
unfolding ask
pair language standard first second = ask language standard (Identifier ∷ Identifier ∷ []) (first ∷ second ∷ [])

-- `long long`; `LONG Long`, "as `identifier_is` ignores case"; `long` and another word
long_long : pair C C89 long long ∷ pair C C99 long long ∷ pair Cpp Cpp98 long long ∷ pair Cpp Cpp11 long long
    ∷ pair C C89 (long + other_case) (long + other_case) ∷ pair C C89 long no_word ∷ pair Fortran Fortran77 long long ∷ []
    ≡ 1 ∷ 0 ∷ 1 ∷ 0 ∷ 1 ∷ 0 ∷ 0 ∷ []
unfolding pair
long_long = refl

calls : call C C99 _Atomic ∷ call C C11 _Atomic ∷ call C C18 _BitInt ∷ call C C23 _BitInt ∷ call C C18 typeof ∷ call C C23 typeof
    ∷ call C C18 typeof_unqual ∷ call C C23 typeof_unqual ∷ call Cpp Cpp98 decltype ∷ call Cpp Cpp11 decltype ∷ call C C89 decltype
    ∷ call Fortran Fortran77 type ∷ call Fortran Fortran90 type ∷ call Fortran Fortran95 class ∷ call Fortran Fortran2003 class ∷ []
    ≡ 2 ∷ 0 ∷ 3 ∷ 0 ∷ 4 ∷ 0 ∷ 5 ∷ 0 ∷ 6 ∷ 0 ∷ 0 ∷ 9 ∷ 0 ∷ 10 ∷ 0 ∷ []
unfolding call
calls = refl

-- `a&&`; `a(b=c)`; `type(*)`; `a(..)`
signs : ask Cpp Cpp98 (Identifier ∷ LogicalAnd ∷ []) [] ∷ ask Cpp Cpp11 (Identifier ∷ LogicalAnd ∷ []) [] ∷ ask Fortran Fortran77 (Identifier ∷ Equal ∷ []) []
    ∷ ask Fortran Fortran90 (Identifier ∷ Equal ∷ []) [] ∷ ask Fortran Fortran2008 (Identifier ∷ LeftParen ∷ Star ∷ RightParen ∷ []) (type ∷ [])
    ∷ ask Fortran Fortran2018 (Identifier ∷ LeftParen ∷ Star ∷ RightParen ∷ []) (type ∷ [])
    ∷ ask Fortran Fortran2008 (Identifier ∷ LeftParen ∷ Dot ∷ Dot ∷ RightParen ∷ []) [] ∷ ask Fortran Fortran2018 (Identifier ∷ LeftParen ∷ Dot ∷ Dot ∷ RightParen ∷ []) [] ∷ []
    ≡ 7 ∷ 0 ∷ 8 ∷ 0 ∷ 11 ∷ 0 ∷ 11 ∷ 0 ∷ []
unfolding ask
signs = refl

-- Of several the least: `type(*)` in Fortran 77 lacks 9 and 11, with `=` before it 8 too; `typeof(long long)` in C89 lacks 1 and 4.
several : ask Fortran Fortran77 (Identifier ∷ LeftParen ∷ Star ∷ RightParen ∷ []) (type ∷ []) ∷ ask Fortran Fortran77 (Equal ∷ Identifier ∷ LeftParen ∷ Star ∷ []) (no_word ∷ type ∷ [])
    ∷ ask C C89 (Identifier ∷ LeftParen ∷ Identifier ∷ Identifier ∷ RightParen ∷ []) (typeof ∷ no_word ∷ long ∷ long ∷ []) ∷ []
    ≡ 9 ∷ 8 ∷ 1 ∷ []
unfolding ask
several = refl
