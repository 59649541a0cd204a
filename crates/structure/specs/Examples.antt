-- Computed examples of the structure check, so that a wrong edit of a definition is refused here. The answers are those of type_name.rs at the
-- latest standards; the steps are those of the reading and of the check together.
use Rattle.std.specs.Prelude.{ℕ, ◌≡◌, refl, List, [], ◌∷◌, eqb}
use Rattle.rows.specs.Languages.{C, Cpp, Fortran}
use Rattle.rows.specs.Kinds.{Integer, Boolean, LeftParen, RightParen, LeftBracket, RightBracket, Comma, Question, Colon, Scope, Dot}
use Rattle.rows.specs.Kinds.{Percent, Plus, Minus, Star, BitwiseNot, Ampersand, LogicalAnd, LogicalNeqv, Equal, Less, Greater, ShiftRight, PlusPlus}
use Rattle.rows.specs.Words.{void, char, int, double, long, unsigned, const, noexcept, decltype, typeof, _BitInt, type, precision}
use Rattle.reader.specs.Reading.{Got, got, bad, kind_at, reading}
use Rattle.type_nodes.specs.Examples.{Token, word, token, name, kinds_of, words_of}
use Rattle.structure.specs.Said.{Said, holds, fails, after}
use Rattle.structure.specs.Syntax.{validate_structured_syntax}

-- The check of what the reading came to.
unfoldable pub checked_reading : (lang : ℕ) (kinds words : List ℕ) → Got → Said
unfolding kind_at after validate_structured_syntax
checked_reading lang kinds words (got x at half m) = after m (validate_structured_syntax lang kinds words x)
checked_reading lang kinds words (bad e m) = fails m

unfoldable pub judged_row : (lang : ℕ) (kinds words : List ℕ) → Said
unfolding checked_reading reading
judged_row lang kinds words = checked_reading lang kinds words (reading (eqb lang Cpp) kinds)

unfoldable pub judged : (lang : ℕ) → List Token → Said
unfolding judged_row kinds_of words_of
judged lang row = judged_row lang (kinds_of row) (words_of row)

-- ---- C and C++: declaration specifiers

-- `int`
one_word : judged C (word int ∷ []) ≡ holds 2
unfolding judged
one_word = refl

-- `long long long`
long_long_long : judged C (word long ∷ word long ∷ word long ∷ []) ≡ fails 4
unfolding judged
long_long_long = refl

-- `unsigned _BitInt(8)`
bit_int : judged C (word unsigned ∷ word _BitInt ∷ token LeftParen ∷ token Integer ∷ token RightParen ∷ []) ≡ holds 6
unfolding judged
bit_int = refl

-- `typeof(int *)`
typeof_type : judged C (word typeof ∷ token LeftParen ∷ word int ∷ token Star ∷ token RightParen ∷ []) ≡ holds 6
unfolding judged
typeof_type = refl

-- `typeof(a + 1)`
typeof_expression : judged C (word typeof ∷ token LeftParen ∷ name ∷ token Plus ∷ token Integer ∷ token RightParen ∷ []) ≡ holds 8
unfolding judged
typeof_expression = refl

-- `decltype(a)`
decltype_in_c : judged C (word decltype ∷ token LeftParen ∷ name ∷ token RightParen ∷ []) ≡ fails 4
unfolding judged
decltype_in_c = refl

-- `decltype(a)`
decltype_in_cpp : judged Cpp (word decltype ∷ token LeftParen ∷ name ∷ token RightParen ∷ []) ≡ holds 5
unfolding judged
decltype_in_cpp = refl

-- ---- C and C++: declarators

-- `int (*)(char, ...)`
pointer_to_function : judged C (word int ∷ token LeftParen ∷ token Star ∷ token RightParen ∷ token LeftParen ∷ word char ∷ token Comma ∷ token Dot ∷ token Dot ∷ token Dot ∷ token RightParen ∷ []) ≡ holds 12
unfolding judged
pointer_to_function = refl

-- `int (*)(char,)`
empty_parameter : judged C (word int ∷ token LeftParen ∷ token Star ∷ token RightParen ∷ token LeftParen ∷ word char ∷ token Comma ∷ token RightParen ∷ []) ≡ fails 8
unfolding judged
empty_parameter = refl

-- `int * Lane`
name_after_star : judged C (word int ∷ token Star ∷ name ∷ []) ≡ fails 4
unfolding judged
name_after_star = refl

-- `int &&`
reference_in_cpp : judged Cpp (word int ∷ token LogicalAnd ∷ []) ≡ holds 3
unfolding judged
reference_in_cpp = refl

-- `int && &`
reference_to_reference : judged Cpp (word int ∷ token LogicalAnd ∷ token Ampersand ∷ []) ≡ fails 4
unfolding judged
reference_to_reference = refl

-- `int (Lane::*)(void) const noexcept(true)`
member_pointer : judged Cpp (word int ∷ token LeftParen ∷ name ∷ token Scope ∷ token Star ∷ token RightParen ∷ token LeftParen ∷ word void ∷ token RightParen ∷ word const ∷ word noexcept ∷ token LeftParen ∷ token Boolean ∷ token RightParen ∷ []) ≡ holds 15
unfolding judged
member_pointer = refl

-- ---- C++: names and template arguments

-- `::Lane`
leading_scope : judged Cpp (token Scope ∷ name ∷ []) ≡ holds 3
unfolding judged
leading_scope = refl

-- `A<B<c>>`
nested_lists : judged Cpp (name ∷ token Less ∷ name ∷ token Less ∷ name ∷ token ShiftRight ∷ []) ≡ holds 8
unfolding judged
nested_lists = refl

-- `Lane<4 + 4>`
expression_argument : judged Cpp (name ∷ token Less ∷ token Integer ∷ token Plus ∷ token Integer ∷ token Greater ∷ []) ≡ holds 8
unfolding judged
expression_argument = refl

-- `Lane<4 +>`
bad_argument : judged Cpp (name ∷ token Less ∷ token Integer ∷ token Plus ∷ token Greater ∷ []) ≡ fails 7
unfolding judged
bad_argument = refl

-- `Lane<(Key<8>>2)>`
island_lane : judged Cpp (name ∷ token Less ∷ token LeftParen ∷ name ∷ token Less ∷ token Integer ∷ token ShiftRight ∷ token Integer ∷ token RightParen ∷ token Greater ∷ []) ≡ fails 14
unfolding judged
island_lane = refl

-- `A>>b`
shift : judged Cpp (name ∷ token ShiftRight ∷ name ∷ []) ≡ fails 4
unfolding judged
shift = refl

-- ---- expressions

-- `int [-a.b[1](2)++ ? c : ~d()]`
many_operators : judged C (word int ∷ token LeftBracket ∷ token Minus ∷ name ∷ token Dot ∷ name ∷ token LeftBracket ∷ token Integer ∷ token RightBracket ∷ token LeftParen ∷ token Integer ∷ token RightParen ∷ token PlusPlus ∷ token Question ∷ name ∷ token Colon ∷ token BitwiseNot ∷ name ∷ token LeftParen ∷ token RightParen ∷ token RightBracket ∷ []) ≡ holds 21
unfolding judged
many_operators = refl

-- `int [()]`
empty_parentheses : judged C (word int ∷ token LeftBracket ∷ token LeftParen ∷ token RightParen ∷ token RightBracket ∷ []) ≡ fails 5
unfolding judged
empty_parentheses = refl

-- `int [a ? b]`
colon_missing : judged C (word int ∷ token LeftBracket ∷ name ∷ token Question ∷ name ∷ token RightBracket ∷ []) ≡ fails 7
unfolding judged
colon_missing = refl

-- `int [a +]`
operator_last : judged C (word int ∷ token LeftBracket ∷ name ∷ token Plus ∷ token RightBracket ∷ []) ≡ fails 6
unfolding judged
operator_last = refl

-- ---- Fortran

-- `real*8`
real_star : judged Fortran (name ∷ token Star ∷ token Integer ∷ []) ≡ holds 4
unfolding judged
real_star = refl

-- `double`
double_alone : judged Fortran (word double ∷ []) ≡ fails 2
unfolding judged
double_alone = refl

-- `DOUBLE Precision`
double_precision : judged Fortran (word double ∷ word precision ∷ []) ≡ holds 3
unfolding judged
double_precision = refl

-- `Type(Lane)`
derived_type : judged Fortran (word type ∷ token LeftParen ∷ name ∷ token RightParen ∷ []) ≡ holds 5
unfolding judged
derived_type = refl

-- `character(len=*, kind=a%b)`
selectors : judged Fortran (name ∷ token LeftParen ∷ name ∷ token Equal ∷ token Star ∷ token Comma ∷ name ∷ token Equal ∷ name ∷ token Percent ∷ name ∷ token RightParen ∷ []) ≡ holds 13
unfolding judged
selectors = refl

-- `character*(*)`
character_star : judged Fortran (name ∷ token Star ∷ token LeftParen ∷ token Star ∷ token RightParen ∷ []) ≡ fails 5
unfolding judged
character_star = refl

-- `logical(a .neqv. b)`
neqv : judged Fortran (name ∷ token LeftParen ∷ name ∷ token LogicalNeqv ∷ name ∷ token RightParen ∷ []) ≡ holds 7
unfolding judged
neqv = refl

-- `integer(:, kind=)`
empty_selector_value : judged Fortran (name ∷ token LeftParen ∷ token Colon ∷ token Comma ∷ name ∷ token Equal ∷ token RightParen ∷ []) ≡ fails 7
unfolding judged
empty_selector_value = refl
