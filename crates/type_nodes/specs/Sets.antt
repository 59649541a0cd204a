-- The sets of words and tokens that the structure check compares with, each listed as type_name.rs lists it and in its order.
-- Document 01, "Node record": "Structure and profile rules are those of `validate_structured_syntax` and `validate_profile_features`".
-- Assumes nothing.
use Rattle.std.specs.Prelude.{ℕ, Bool, ◌||◌, List, [], ◌∷◌, eqb, if◌then◌else◌}
use Rattle.rows.specs.Notation.{◌is_one_of◌}
use Rattle.rows.specs.Languages.{Fortran}
use Rattle.rows.specs.Kinds.{Integer, Real, Character, String, Boolean, NullPointer, Comma, Scope, Dot, Percent, Arrow, Plus, Minus, Star, Slash, Power, Concat}
use Rattle.rows.specs.Kinds.{Remainder, LogicalNot, BitwiseNot, Ampersand, Pipe, Caret, LogicalAnd, LogicalOr, LogicalEqv, LogicalNeqv, Equal, EqualEqual}
use Rattle.rows.specs.Kinds.{NotEqual, Less, LessEqual, Greater, GreaterEqual, ShiftLeft, ShiftRight, PlusPlus, MinusMinus, PlusEqual, MinusEqual, StarEqual}
use Rattle.rows.specs.Kinds.{SlashEqual, RemainderEqual, AmpersandEqual, PipeEqual, CaretEqual, ShiftLeftEqual, ShiftRightEqual}
use Rattle.rows.specs.Words.{void, bool, _Bool, char, wchar_t, char8_t, char16_t, char32_t, short, int, long, signed, unsigned, float, double}
use Rattle.rows.specs.Words.{_Complex, _Imaginary, _Decimal32, _Decimal64, _Decimal128, const, volatile, restrict, _Atomic, noexcept}
use Rattle.rows.specs.Words.{transaction_safe, __restrict, __restrict__, decltype, typeof, typeof_unqual, __typeof, __typeof__, _BitInt, struct}
use Rattle.rows.specs.Words.{union, enum, class, typename, type, precision, complex}
use Rattle.type_nodes.specs.Shapes.{Parenthesized, Bracketed}

-- ---- words

-- The list of `is_c_builtin_type_word`.
unfoldable pub builtin_type_words : List ℕ
builtin_type_words =
    void ∷ bool ∷ _Bool ∷ char ∷ wchar_t ∷ char8_t ∷ char16_t ∷ char32_t ∷ short ∷ int ∷ long ∷ signed ∷ unsigned ∷ float ∷ double
    ∷ _Complex ∷ _Imaginary ∷ _Decimal32 ∷ _Decimal64 ∷ _Decimal128 ∷ []

-- `scalar_bases` of `validate_c_builtin_combination`.
unfoldable pub scalar_bases : List ℕ
scalar_bases =
    void ∷ bool ∷ _Bool ∷ char ∷ wchar_t ∷ char8_t ∷ char16_t ∷ char32_t ∷ int ∷ float ∷ double ∷ _Decimal32 ∷ _Decimal64 ∷ _Decimal128 ∷ []

-- The builtin type words that may follow `_BitInt(..)`.
unfoldable pub signs : List ℕ
signs = signed ∷ unsigned ∷ []

-- The list of `is_c_family_declarator_qualifier`.
unfoldable pub declarator_qualifiers : List ℕ
declarator_qualifiers = const ∷ volatile ∷ restrict ∷ _Atomic ∷ noexcept ∷ transaction_safe ∷ __restrict ∷ __restrict__ ∷ []

-- `validate_c_decl_specifiers`: the words that make a type specifier with the parentheses after them.
unfoldable pub parenthesis_words : List ℕ
parenthesis_words = decltype ∷ typeof ∷ typeof_unqual ∷ __typeof ∷ __typeof__ ∷ _Atomic ∷ _BitInt ∷ []

-- `validate_c_family_type`: those of them whose parentheses hold a type or an expression.
unfoldable pub typeof_words : List ℕ
typeof_words = typeof ∷ typeof_unqual ∷ __typeof ∷ __typeof__ ∷ []

-- `validate_c_decl_specifiers`: the words that begin an elaborated type name.
unfoldable pub elaborated_words : List ℕ
elaborated_words = struct ∷ union ∷ enum ∷ class ∷ typename ∷ []

-- `validate_c_decl_specifiers`: those of them that C does not have.
unfoldable pub cpp_elaborated_words : List ℕ
cpp_elaborated_words = class ∷ typename ∷ []

-- `validate_fortran_type_head`: the words before the parentheses of a derived type.
unfoldable pub derived_type_words : List ℕ
derived_type_words = type ∷ class ∷ []

-- `validate_fortran_type_head`: the words after `double`.
unfoldable pub words_after_double : List ℕ
words_after_double = precision ∷ complex ∷ []

-- `is_c_builtin_type_word`
unfoldable pub is_c_builtin_type_word : ℕ → Bool
unfolding ◌is_one_of◌ builtin_type_words
is_c_builtin_type_word w = w is_one_of builtin_type_words

-- `is_c_family_declarator_qualifier`
unfoldable pub is_c_family_declarator_qualifier : ℕ → Bool
unfolding ◌is_one_of◌ declarator_qualifiers
is_c_family_declarator_qualifier w = w is_one_of declarator_qualifiers

-- A word that a leading `::` does not introduce: the test at `leading_global_scope`.
unfoldable pub is_keyword : ℕ → Bool
unfolding ◌is_one_of◌ is_c_builtin_type_word is_c_family_declarator_qualifier elaborated_words parenthesis_words
is_keyword w = is_c_builtin_type_word w || is_c_family_declarator_qualifier w || w is_one_of elaborated_words || w is_one_of parenthesis_words

-- ---- tokens

-- `&` and `&&`
unfoldable pub reference_operators : List ℕ
reference_operators = Ampersand ∷ LogicalAnd ∷ []

-- The first arm of `validate_c_decl_specifiers`: what begins a declarator and ends the specifiers.
unfoldable pub declarator_operators : List ℕ
declarator_operators = Star ∷ Ampersand ∷ LogicalAnd ∷ Bracketed ∷ []

-- The shapes of a first node by which `looks_like_abstract_declarator` knows a declarator.
unfoldable pub declarator_starts : List ℕ
declarator_starts = Star ∷ Ampersand ∷ LogicalAnd ∷ Scope ∷ Parenthesized ∷ Bracketed ∷ []

-- The arm of `validate_expression` for literals.
unfoldable pub literals : List ℕ
literals = Integer ∷ Real ∷ Character ∷ String ∷ Boolean ∷ NullPointer ∷ []

-- The arm of `validate_expression` for `.`, `->` and `%`.
unfoldable pub member_accesses : List ℕ
member_accesses = Dot ∷ Arrow ∷ Percent ∷ []

-- `valid_access`: those of them that the language has.
unfoldable pub accesses_of : (lang : ℕ) → List ℕ
accesses_of lang = if eqb lang Fortran then Percent ∷ [] else Dot ∷ Arrow ∷ []

-- The arm of `validate_expression` for the operators before an operand that are never binary.
unfoldable pub prefix_operators : List ℕ
prefix_operators = LogicalNot ∷ BitwiseNot ∷ PlusPlus ∷ MinusMinus ∷ []

-- The arm of `validate_expression` for the operators before an operand that are binary too.
unfoldable pub prefix_or_binary_operators : List ℕ
prefix_or_binary_operators = Plus ∷ Minus ∷ Star ∷ Ampersand ∷ []

-- The arm of `validate_expression` for `++` and `--` after an operand.
unfoldable pub postfix_operators : List ℕ
postfix_operators = PlusPlus ∷ MinusMinus ∷ []

-- The list of `is_binary_or_assignment_operator` for C and C++.
unfoldable pub c_family_operators : List ℕ
c_family_operators =
    Plus ∷ Minus ∷ Star ∷ Slash ∷ Remainder ∷ Ampersand ∷ Pipe ∷ Caret ∷ LogicalAnd ∷ LogicalOr ∷ Equal ∷ EqualEqual ∷ NotEqual ∷ Less ∷ LessEqual
    ∷ Greater ∷ GreaterEqual ∷ ShiftLeft ∷ ShiftRight ∷ PlusEqual ∷ MinusEqual ∷ StarEqual ∷ SlashEqual ∷ RemainderEqual ∷ AmpersandEqual ∷ PipeEqual
    ∷ CaretEqual ∷ ShiftLeftEqual ∷ ShiftRightEqual ∷ Comma ∷ []

-- The list of `is_binary_or_assignment_operator` for Fortran.
unfoldable pub fortran_operators : List ℕ
fortran_operators =
    Plus ∷ Minus ∷ Star ∷ Slash ∷ Power ∷ Concat ∷ LogicalAnd ∷ LogicalOr ∷ LogicalEqv ∷ LogicalNeqv ∷ Equal ∷ EqualEqual ∷ NotEqual ∷ Less ∷ LessEqual
    ∷ Greater ∷ GreaterEqual ∷ Comma ∷ []

-- `is_binary_or_assignment_operator`
unfoldable pub is_binary_or_assignment_operator : (lang k : ℕ) → Bool
unfolding ◌is_one_of◌ fortran_operators c_family_operators
is_binary_or_assignment_operator lang k = k is_one_of (if eqb lang Fortran then fortran_operators else c_family_operators)
