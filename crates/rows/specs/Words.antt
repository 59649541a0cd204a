-- The words that the reader knows, and the number that stands for a word in the layers above: every word that type_name.rs compares with.
-- A word is known exactly (byte for byte) or with case ignored, as the original's `==` and `eq_ignore_ascii_case` have it.
-- Assumes nothing.
use Rattle.std.specs.Prelude.{ℕ, ◌+◌, ◌-◌, Bool, true, false, ◌&&◌, List, [], ◌∷◌, leb, ltb, eqb, if◌then◌else◌}
use Prim.Native.Char.{code}
use Prim.Native.String.{String}

-- ---- the known words by number

-- Stands for a word that type_name.rs compares with nothing.
abbrev pub no_word : ℕ
no_word = 0

-- `is_c_builtin_type_word`
abbrev pub void : ℕ
void = 1

-- `is_c_builtin_type_word`
abbrev pub bool : ℕ
bool = 2

-- `is_c_builtin_type_word`
abbrev pub _Bool : ℕ
_Bool = 3

-- `is_c_builtin_type_word`
abbrev pub char : ℕ
char = 4

-- `is_c_builtin_type_word`
abbrev pub wchar_t : ℕ
wchar_t = 5

-- `is_c_builtin_type_word`
abbrev pub char8_t : ℕ
char8_t = 6

-- `is_c_builtin_type_word`
abbrev pub char16_t : ℕ
char16_t = 7

-- `is_c_builtin_type_word`
abbrev pub char32_t : ℕ
char32_t = 8

-- `is_c_builtin_type_word`
abbrev pub int : ℕ
int = 9

-- `is_c_builtin_type_word`
abbrev pub float : ℕ
float = 10

-- `is_c_builtin_type_word`
abbrev pub double : ℕ
double = 11

-- `is_c_builtin_type_word`
abbrev pub _Decimal32 : ℕ
_Decimal32 = 12

-- `is_c_builtin_type_word`
abbrev pub _Decimal64 : ℕ
_Decimal64 = 13

-- `is_c_builtin_type_word`
abbrev pub _Decimal128 : ℕ
_Decimal128 = 14

-- `is_c_builtin_type_word`
abbrev pub short : ℕ
short = 15

-- `is_c_builtin_type_word`
abbrev pub long : ℕ
long = 16

-- `is_c_builtin_type_word`
abbrev pub signed : ℕ
signed = 17

-- `is_c_builtin_type_word`
abbrev pub unsigned : ℕ
unsigned = 18

-- `is_c_builtin_type_word`
abbrev pub _Complex : ℕ
_Complex = 19

-- `is_c_builtin_type_word`
abbrev pub _Imaginary : ℕ
_Imaginary = 20

-- `is_c_family_declarator_qualifier`
abbrev pub const : ℕ
const = 21

-- `is_c_family_declarator_qualifier`
abbrev pub volatile : ℕ
volatile = 22

-- `is_c_family_declarator_qualifier`
abbrev pub restrict : ℕ
restrict = 23

-- `is_c_family_declarator_qualifier`
abbrev pub noexcept : ℕ
noexcept = 24

-- `is_c_family_declarator_qualifier`
abbrev pub transaction_safe : ℕ
transaction_safe = 25

-- `is_c_family_declarator_qualifier`
abbrev pub __restrict : ℕ
__restrict = 26

-- `is_c_family_declarator_qualifier`
abbrev pub __restrict__ : ℕ
__restrict__ = 27

-- `is_c_family_declarator_qualifier`
abbrev pub _Atomic : ℕ
_Atomic = 28

-- `validate_c_decl_specifiers`
abbrev pub decltype : ℕ
decltype = 29

-- `validate_c_decl_specifiers`
abbrev pub typeof : ℕ
typeof = 30

-- `validate_c_decl_specifiers`
abbrev pub typeof_unqual : ℕ
typeof_unqual = 31

-- `validate_c_decl_specifiers`
abbrev pub __typeof : ℕ
__typeof = 32

-- `validate_c_decl_specifiers`
abbrev pub __typeof__ : ℕ
__typeof__ = 33

-- `validate_c_decl_specifiers`
abbrev pub _BitInt : ℕ
_BitInt = 34

-- `validate_c_decl_specifiers`
abbrev pub struct : ℕ
struct = 35

-- `validate_c_decl_specifiers`
abbrev pub union : ℕ
union = 36

-- `validate_c_decl_specifiers`
abbrev pub enum : ℕ
enum = 37

-- `validate_c_decl_specifiers`
abbrev pub typename : ℕ
typename = 38

-- `validate_c_decl_specifiers`
abbrev pub class : ℕ
class = 39

-- `validate_fortran_type_head`
abbrev pub type : ℕ
type = 40

-- `validate_fortran_type_head`
abbrev pub precision : ℕ
precision = 41

-- `validate_fortran_type_head`
abbrev pub complex : ℕ
complex = 42

-- A word that type_name.rs compares with: its number and how it is spelled.
pub record Known : Type 0 where
  pub number : ℕ
  pub text : String

-- The same, for the lines of `known`.
abbrev pub ◌spelled◌ : ℕ → String → Known
n spelled t = record { number = n; text = t }

infix 70 ◌spelled◌
-- The table of known words: every text that type_name.rs compares a word with.
unfoldable pub known : List Known
known =
    void spelled "void" ∷
    bool spelled "bool" ∷
    _Bool spelled "_Bool" ∷
    char spelled "char" ∷
    wchar_t spelled "wchar_t" ∷
    char8_t spelled "char8_t" ∷
    char16_t spelled "char16_t" ∷
    char32_t spelled "char32_t" ∷
    int spelled "int" ∷
    float spelled "float" ∷
    double spelled "double" ∷
    _Decimal32 spelled "_Decimal32" ∷
    _Decimal64 spelled "_Decimal64" ∷
    _Decimal128 spelled "_Decimal128" ∷
    short spelled "short" ∷
    long spelled "long" ∷
    signed spelled "signed" ∷
    unsigned spelled "unsigned" ∷
    _Complex spelled "_Complex" ∷
    _Imaginary spelled "_Imaginary" ∷
    const spelled "const" ∷
    volatile spelled "volatile" ∷
    restrict spelled "restrict" ∷
    noexcept spelled "noexcept" ∷
    transaction_safe spelled "transaction_safe" ∷
    __restrict spelled "__restrict" ∷
    __restrict__ spelled "__restrict__" ∷
    _Atomic spelled "_Atomic" ∷
    decltype spelled "decltype" ∷
    typeof spelled "typeof" ∷
    typeof_unqual spelled "typeof_unqual" ∷
    __typeof spelled "__typeof" ∷
    __typeof__ spelled "__typeof__" ∷
    _BitInt spelled "_BitInt" ∷
    struct spelled "struct" ∷
    union spelled "union" ∷
    enum spelled "enum" ∷
    typename spelled "typename" ∷
    class spelled "class" ∷
    type spelled "type" ∷
    precision spelled "precision" ∷
    complex spelled "complex" ∷
    []

-- ---- a word's number

-- The bytes of an ASCII text: `as_bytes`.
unfoldable pub bytes : String → List ℕ
bytes String.[] = []
bytes (String.◌∷◌ c s) = code c ∷ bytes s

-- `A` in ASCII.
abbrev pub capital_a : ℕ
capital_a = 65

-- `Z` in ASCII.
abbrev pub capital_z : ℕ
capital_z = 90

-- From a capital to its small letter in ASCII.
abbrev pub to_small : ℕ
to_small = 32

-- `to_ascii_lowercase` of a byte.
unfoldable pub lower : ℕ → ℕ
lower b = if leb capital_a b && leb b capital_z then b + to_small else b

-- Two words are the same, byte by byte, each byte seen through `fold`.
unfoldable pub same_through : (fold : ℕ → ℕ) → List ℕ → List ℕ → Bool
same_through fold [] [] = true
same_through fold [] (c ∷ v) = false
same_through fold (b ∷ w) [] = false
same_through fold (b ∷ w) (c ∷ v) = eqb (fold b) (fold c) && same_through fold w v

-- `==` of two words.
unfoldable pub same_exactly : List ℕ → List ℕ → Bool
unfolding same_through
same_exactly w v = same_through (λ b. b) w v

-- `eq_ignore_ascii_case` of two words.
unfoldable pub same_ignoring_case : List ℕ → List ℕ → Bool
unfolding same_through lower
same_ignoring_case w v = same_through lower w v

-- Added to the number of a word that is known by `eq_ignore_ascii_case` only.
abbrev pub other_case : ℕ
other_case = 128

-- The number of the first entry of a table that the word w is with case ignored, as it stands if w is that entry exactly.
unfoldable pub number_among : List Known → (w : List ℕ) → ℕ
unfolding bytes same_exactly same_ignoring_case
number_among [] w = no_word
number_among (k ∷ ks) w =
    let later = number_among ks w in
    if same_exactly w (bytes k.text) then k.number
    else if same_ignoring_case w (bytes k.text) then k.number + other_case
    else later

-- The number of a word: n for known word n, n + 128 for known word n in another case, 0 for every other word. (No two known words are the same with
-- case ignored.)
unfoldable pub word_number : List ℕ → ℕ
unfolding number_among known
word_number w = number_among known w

-- Which known word it is exactly, by its number.
unfoldable pub exactly : ℕ → ℕ
exactly n = if ltb n other_case then n else no_word

-- Which known word it is with case ignored, by its number.
unfoldable pub ignoring_case : ℕ → ℕ
ignoring_case n = if ltb n other_case then n else n - other_case
