-- Computed examples of the declaration specifiers and of the operators, so that a wrong edit of a definition is refused here. The answers to
-- specifiers are those of type_name.rs to the whole row, which they decide.
use Rattle.std.specs.Prelude.{ℕ, zero, suc, ◌+◌, ◌≡◌, refl, Bool, true, false, List, [], ◌∷◌, ◌++◌, length, eqb, if◌then◌else◌}
use Rattle.rows.specs.Notation.{◌is_one_of◌}
use Rattle.rows.specs.Languages.{C, Cpp, Fortran}
use Rattle.rows.specs.Kinds.{Identifier, Integer, LeftParen, RightParen, Scope, Star}
use Rattle.rows.specs.Words.{no_word, int, double, long, signed, unsigned, const, _BitInt, struct, class, other_case}
use Rattle.reader.specs.Reading.{Got, got, bad, kind_at, reading}
use Rattle.type_nodes.specs.Sets.{is_binary_or_assignment_operator}
use Rattle.type_nodes.specs.Ranges.{◌is_within_one_of◌, runs, operator_ranges}
use Rattle.type_nodes.specs.Specifiers.{validate_c_decl_specifiers}

-- A row: each token an identifier, by its word number, or another token, by its kind.
pub data Token : Type 0 where
  word : (number : ℕ) → Token
  token : (kind : ℕ) → Token

-- An identifier that is no known word, and one that is a known word in other case.
abbrev pub name : Token
name = word no_word

abbrev pub other_case_of : ℕ → Token
other_case_of w = word (w + other_case)

unfoldable pub kinds_of : List Token → List ℕ
kinds_of [] = []
kinds_of (word w ∷ row) = Identifier ∷ kinds_of row
kinds_of (token k ∷ row) = k ∷ kinds_of row

unfoldable pub words_of : List Token → List ℕ
words_of [] = []
words_of (word w ∷ row) = w ∷ words_of row
words_of (token k ∷ row) = no_word ∷ words_of row

-- The specifiers of what the reading came to.
unfoldable pub specified_reading : (lang : ℕ) (kinds words : List ℕ) → Got → Bool
unfolding kind_at validate_c_decl_specifiers reading
specified_reading lang kinds words (got x at half m) = validate_c_decl_specifiers lang kinds words x
specified_reading lang kinds words (bad e m) = false

unfoldable pub specified : (lang : ℕ) → List Token → Bool
unfolding specified_reading kinds_of words_of
specified lang row = specified_reading lang (kinds_of row) (words_of row) (reading (eqb lang Cpp) (kinds_of row))

-- `long long`
long_long : specified C (word long ∷ word long ∷ []) ≡ true
unfolding specified
long_long = refl

-- `long long long`
long_long_long : specified C (word long ∷ word long ∷ word long ∷ []) ≡ false
unfolding specified
long_long_long = refl

-- `signed unsigned`
signed_unsigned : specified C (word signed ∷ word unsigned ∷ []) ≡ false
unfolding specified
signed_unsigned = refl

-- `long double long`
long_long_double : specified C (word long ∷ word double ∷ word long ∷ []) ≡ false
unfolding specified
long_long_double = refl

-- `const int const`
const_twice : specified C (word const ∷ word int ∷ word const ∷ []) ≡ false
unfolding specified
const_twice = refl

-- `LONG const LONG`
words_in_other_case : specified C (other_case_of long ∷ word const ∷ other_case_of long ∷ []) ≡ false
unfolding specified
words_in_other_case = refl

-- `struct Lane`
elaborated : specified C (word struct ∷ name ∷ []) ≡ true
unfolding specified
elaborated = refl

-- `class Lane`
class_in_c : specified C (word class ∷ name ∷ []) ≡ false
unfolding specified
class_in_c = refl

-- `_BitInt(8) unsigned`
bit_int_sign_after : specified C (word _BitInt ∷ token LeftParen ∷ token Integer ∷ token RightParen ∷ word unsigned ∷ []) ≡ true
unfolding specified
bit_int_sign_after = refl

-- `signed _BitInt(8) unsigned`
bit_int_two_signs : specified C (word signed ∷ word _BitInt ∷ token LeftParen ∷ token Integer ∷ token RightParen ∷ word unsigned ∷ []) ≡ false
unfolding specified
bit_int_two_signs = refl

-- `::Lane`
leading_scope : specified Cpp (token Scope ∷ name ∷ []) ≡ true
unfolding specified
leading_scope = refl

-- `::int`
leading_scope_keyword : specified Cpp (token Scope ∷ word int ∷ []) ≡ false
unfolding specified
leading_scope_keyword = refl

-- `Lane::(*)`
scope_at_end : specified Cpp (name ∷ token Scope ∷ token LeftParen ∷ token Star ∷ token RightParen ∷ []) ≡ false
unfolding specified
scope_at_end = refl

-- ---- document 02, C-13: binary and assignment operators by ranges. The numbers are the places of `TokenKind`'s variants in lexer.rs, counted by hand.

-- The numbers below a bound that pass a test.
unfoldable passing : (test : ℕ → Bool) (bound : ℕ) → List ℕ
passing test zero = []
passing test (suc n) = if test n then passing test n ++ (n ∷ []) else passing test n

-- Of all shapes: 12 (`,`) is one; 23, 24 and 33 to 35 are Fortran's alone; 26 and 27 (`!`, `~`), 45 and 46 (`++`, `--`) are none.
abbrev c_family_numbers : List ℕ
c_family_numbers =
    12 ∷ 19 ∷ 20 ∷ 21 ∷ 22 ∷ 25 ∷ 28 ∷ 29 ∷ 30 ∷ 31 ∷ 32 ∷ 36 ∷ 37 ∷ 38 ∷ 39 ∷ 40 ∷ 41 ∷ 42 ∷ 43 ∷ 44 ∷ 47 ∷ 48 ∷ 49 ∷ 50 ∷ 51 ∷ 52 ∷ 53 ∷ 54 ∷ 55 ∷ 56 ∷ []

-- 12 (`,`) and 36 (`=`) are of them; 25 (C's `%`), 35 (`.name.`) and all from 43 on are not.
abbrev fortran_numbers : List ℕ
fortran_numbers = 12 ∷ 19 ∷ 20 ∷ 21 ∷ 22 ∷ 23 ∷ 24 ∷ 31 ∷ 32 ∷ 33 ∷ 34 ∷ 36 ∷ 37 ∷ 38 ∷ 39 ∷ 40 ∷ 41 ∷ 42 ∷ []

-- By the sets, then by the ranges.
operators_of_c : passing (is_binary_or_assignment_operator C) 63 ≡ c_family_numbers
unfolding passing is_binary_or_assignment_operator
operators_of_c = refl

operators_of_cpp : passing (is_binary_or_assignment_operator Cpp) 63 ≡ c_family_numbers
unfolding passing is_binary_or_assignment_operator
operators_of_cpp = refl

operators_of_fortran : passing (is_binary_or_assignment_operator Fortran) 63 ≡ fortran_numbers
unfolding passing is_binary_or_assignment_operator
operators_of_fortran = refl

within_ranges : (lang : ℕ) → List ℕ
within_ranges lang = passing (λ k. k is_within_one_of operator_ranges lang) 63

by_ranges : within_ranges C ∷ within_ranges Cpp ∷ within_ranges Fortran ∷ [] ≡ c_family_numbers ∷ c_family_numbers ∷ fortran_numbers ∷ []
unfolding within_ranges passing ◌is_within_one_of◌ operator_ranges
by_ranges = refl

-- Six ranges and four.
how_many_ranges : length (operator_ranges C) ∷ length (operator_ranges Cpp) ∷ length (operator_ranges Fortran) ∷ [] ≡ 6 ∷ 6 ∷ 4 ∷ []
unfolding operator_ranges
how_many_ranges = refl

-- Runs of no kind, of the first alone, of the last alone, of two neighbours and one apart, of all.
runs_of : List ℕ → ℕ
runs_of set = runs (λ k. k is_one_of set) 5

how_many_runs : runs_of [] ∷ runs_of (0 ∷ []) ∷ runs_of (4 ∷ []) ∷ runs_of (3 ∷ 0 ∷ 1 ∷ []) ∷ runs_of (0 ∷ 1 ∷ 2 ∷ 3 ∷ 4 ∷ []) ∷ [] ≡ 0 ∷ 1 ∷ 1 ∷ 2 ∷ 1 ∷ []
unfolding runs_of runs ◌is_one_of◌
how_many_runs = refl
