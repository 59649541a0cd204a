-- Computed rows of this crate's definitions, so that a wrong edit of one is refused here. The rows and answers are document 01's.
-- Assumes nothing.
use Rattle.std.specs.Prelude.{ℕ, ◌≡◌, refl, List, [], ◌∷◌}
use Rattle.rows.specs.Languages.{C, Cpp, Fortran}
use Rattle.rows.specs.Kinds.{Identifier, Integer, LeftParen, RightParen, LeftBracket, RightBracket, Comma, Scope, Star, Ampersand, LogicalAnd, Less, Greater, ShiftRight, End}
use Rattle.rows.specs.Refusals.{refusal_of, named, plainly}
use Rattle.rows.specs.declared.answer.Refusal.{Refusal}
use Rattle.prescan.specs.Matcher.{stopped, going, matcher}
use Rattle.prescan.specs.Prescan.{Scanned, passed, refused, prescan}

-- 0 if the row passes, else the refusal.
answer_in : Scanned → Refusal
answer_in (passed s) = plainly 0
answer_in (refused e) = refusal_of e

ask : (language : ℕ) → List ℕ → Refusal
unfolding answer_in prescan
ask language kinds = answer_in (prescan language kinds)

-- `A<b>>`, `A<b>::C<d` and `A>>b` of document 01, and its empty row
worked : ask Cpp [] ∷ ask Cpp (Identifier ∷ Less ∷ Identifier ∷ ShiftRight ∷ []) ∷ ask Cpp (Identifier ∷ Less ∷ Identifier ∷ Greater ∷ Scope ∷ Identifier ∷ Less ∷ Identifier ∷ [])
    ∷ ask Cpp (Identifier ∷ ShiftRight ∷ Identifier ∷ []) ∷ []
    ≡ plainly 10 ∷ named 12 3 0 ∷ named 16 1 0 ∷ plainly 0 ∷ []
unfolding ask
worked = refl

-- 16, one `<` after the other: in `A<b>::C<d<e>` the first is named, not 6, the innermost that is open, and not 8, the last; in `A<B<c` not 3
first_angle : ask Cpp (Identifier ∷ Less ∷ Identifier ∷ Greater ∷ Scope ∷ Identifier ∷ Less ∷ Identifier ∷ Less ∷ Identifier ∷ Greater ∷ [])
    ∷ ask Cpp (Identifier ∷ Less ∷ Identifier ∷ Less ∷ Identifier ∷ []) ∷ []
    ≡ named 16 1 0 ∷ named 16 1 0 ∷ []
unfolding ask
first_angle = refl

-- 11: `A)`, `A(]`, `A[)`; 14; 15: `A([`
brackets : ask C (Identifier ∷ RightParen ∷ []) ∷ ask C (Identifier ∷ LeftParen ∷ RightBracket ∷ []) ∷ ask C (Identifier ∷ LeftBracket ∷ RightParen ∷ [])
    ∷ ask C (Identifier ∷ End ∷ []) ∷ ask C (Identifier ∷ LeftParen ∷ LeftBracket ∷ []) ∷ []
    ≡ named 11 1 0 ∷ named 11 2 1 ∷ named 11 2 2 ∷ named 14 1 0 ∷ named 15 2 0 ∷ []
unfolding ask
brackets = refl

-- 12: `A<b>` in C, `A*<b>`, `A>`; 13: `a,b`; `A<B<c>>`, `A<b,c>` and `A(b<c,d>>e)` pass
angles : ask C (Identifier ∷ Less ∷ Identifier ∷ Greater ∷ []) ∷ ask Cpp (Identifier ∷ Star ∷ Less ∷ Identifier ∷ Greater ∷ []) ∷ ask Cpp (Identifier ∷ Greater ∷ [])
    ∷ ask Cpp (Identifier ∷ Comma ∷ Identifier ∷ []) ∷ ask Cpp (Identifier ∷ Less ∷ Identifier ∷ Less ∷ Identifier ∷ ShiftRight ∷ [])
    ∷ ask Cpp (Identifier ∷ Less ∷ Identifier ∷ Comma ∷ Identifier ∷ Greater ∷ [])
    ∷ ask Cpp (Identifier ∷ LeftParen ∷ Identifier ∷ Less ∷ Identifier ∷ Comma ∷ Identifier ∷ ShiftRight ∷ Identifier ∷ RightParen ∷ []) ∷ []
    ≡ named 12 1 0 ∷ named 12 2 0 ∷ named 12 1 0 ∷ named 13 1 0 ∷ plainly 0 ∷ plainly 0 ∷ plainly 0 ∷ []
unfolding ask
angles = refl

-- 17: `::`; 18: `int&` in C, `*a`, `a::`; `int&` and `int&&` pass in C++; `real*8` passes in Fortran and not in C
boundary : ask Cpp (Scope ∷ []) ∷ ask C (Identifier ∷ Ampersand ∷ []) ∷ ask C (Star ∷ Identifier ∷ []) ∷ ask Cpp (Identifier ∷ Scope ∷ [])
    ∷ ask Cpp (Identifier ∷ Ampersand ∷ []) ∷ ask Cpp (Identifier ∷ LogicalAnd ∷ []) ∷ ask Fortran (Identifier ∷ Star ∷ Integer ∷ []) ∷ ask C (Identifier ∷ Star ∷ Integer ∷ []) ∷ []
    ≡ plainly 17 ∷ plainly 18 ∷ plainly 18 ∷ plainly 18 ∷ plainly 0 ∷ plainly 0 ∷ plainly 0 ∷ plainly 18 ∷ []
unfolding ask
boundary = refl

-- "In `Lane<(Key<8>>2)>` tokens 2 and 8 are partners."
lane : matcher 0 (Identifier ∷ Less ∷ LeftParen ∷ Identifier ∷ Less ∷ Integer ∷ ShiftRight ∷ Integer ∷ RightParen ∷ Greater ∷ []) (going [] [])
    ≡ going [] (record { opener = 2; closer = 8 } ∷ [])
unfolding matcher
lane = refl

-- `[)` has no pairing.
crossed : matcher 0 (LeftBracket ∷ RightParen ∷ []) (going [] []) ≡ stopped
unfolding matcher
crossed = refl
