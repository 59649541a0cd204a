-- The rows that document 01 works out and marks *, as one table about the definitions.
-- Assumes nothing.
use Rattle.rows.specs.Answer.{accepted_with}
use Rattle.std.specs.Prelude.{ℕ, zero, suc, ◌≤◌, ◌<◌, ◌≡◌, refl, List, [], ◌∷◌, replicate}
use Prim.Native.String.{String}
use Rattle.std.proofs.Common.{ap, ◌∙◌, arith, le-leb}
use Rattle.rows.specs.Languages.{C, Cpp, Fortran, C89, C99, C11, C23, Cpp11, Cpp17, Fortran77}
use Rattle.rows.specs.Format.{declared}
use Rattle.rows.specs.Kinds.{Identifier, Integer, LeftParen, RightParen, Scope, Star, Less, Greater, ShiftRight}
use Rattle.rows.specs.Words.{bytes}
use Rattle.rows.specs.Refusals.{no_token}
use Rattle.reader.specs.Written.{Token, sign}
use Rattle.type_name.specs.Answers.{RowAnswer, accepted, refused, row_steps, answer_within, unlimited, answer_of, answer, final_buffer}
use Rattle.type_name.specs.FirstLines.{FirstLine, ok, refuses, first_line, first_line_by_numbers, first_line_of, kinds_in, words_in, answer_first_line, file_first_line}

-- An identifier token.
abbrev pub word : String → Token
word text = record { kind = Identifier; word = bytes text }

abbrev pub steps_of : FirstLine → ℕ
steps_of (ok nodes m) = m
steps_of (refuses n t d m) = m

-- The row has this line under one profile and flag, for every allowance not below its steps.
abbrev pub At : (language standard flag : ℕ) → List Token → FirstLine → Type 0
At language standard flag row expected =
    (allowance : ℕ) → steps_of expected ≤ allowance → first_line (answer_of language standard flag (kinds_in row) (words_in row) allowance) ≡ expected

-- The same under every standard of a language.
abbrev pub In : (language flag : ℕ) → List Token → FirstLine → Type 0
In language flag row expected = (standard : ℕ) → standard < declared language → At language standard flag row expected

-- The same in every language: C, C++ and Fortran are 0, 1 and 2.
abbrev pub InEach : (flag : ℕ) → List Token → FirstLine → Type 0
InEach flag row expected = (language : ℕ) → language ≤ Fortran → In language flag row expected

-- `int`
abbrev pub int_row : List Token
int_row = word "int" ∷ []

-- `long long`
abbrev pub long_long : List Token
long_long = word "long" ∷ word "long" ∷ []

-- `long long long`
abbrev pub long_long_long : List Token
long_long_long = word "long" ∷ word "long" ∷ word "long" ∷ []

-- `A<b>>`
abbrev pub closed_twice : List Token
closed_twice = word "A" ∷ sign Less ∷ word "b" ∷ sign ShiftRight ∷ []

-- `A>>b`
abbrev pub shifted : List Token
shifted = word "A" ∷ sign ShiftRight ∷ word "b" ∷ []

-- `A<B<c>>`
abbrev pub nested : List Token
nested = word "A" ∷ sign Less ∷ word "B" ∷ sign Less ∷ word "c" ∷ sign ShiftRight ∷ []

-- `A<b>::C<d`
abbrev pub not_closed : List Token
not_closed = word "A" ∷ sign Less ∷ word "b" ∷ sign Greater ∷ sign Scope ∷ word "C" ∷ sign Less ∷ word "d" ∷ []

-- `Slots<(Lanes<8)>`
abbrev pub slots : List Token
slots = word "Slots" ∷ sign Less ∷ sign LeftParen ∷ word "Lanes" ∷ sign Less ∷ sign Integer ∷ sign RightParen ∷ sign Greater ∷ []

-- `real*8`
abbrev pub real_row : List Token
real_row = word "real" ∷ sign Star ∷ sign Integer ∷ []

-- `unsigned _BitInt(8)`
abbrev pub bit_int : List Token
bit_int = word "unsigned" ∷ word "_BitInt" ∷ sign LeftParen ∷ sign Integer ∷ sign RightParen ∷ []

-- `int` as a file, in C89 with flag 1: the head record with an allowance below 256, and one token record.
abbrev pub int_file : (allowance : ℕ) → List ℕ
int_file allowance =
    11 ∷ 0 ∷ 5 ∷ 1 ∷ C ∷ C89 ∷ 1 ∷ allowance ∷ 0 ∷ 0 ∷ 0
    ∷ 23 ∷ 0 ∷ Identifier ∷ 0 ∷ 0 ∷ 0 ∷ 0 ∷ 0 ∷ 0 ∷ 0 ∷ 0 ∷ 0 ∷ 3 ∷ 0 ∷ 0 ∷ 0 ∷ 0 ∷ 0 ∷ 0 ∷ 0 ∷ bytes "int"

-- Flag 1 unless said.
pub record StarredRows : Type 0 where
  -- "empty: 10"
  pub empty : InEach 1 [] (refuses 10 no_token 0 0)
  -- "`int`, C89: accepted, 1 node, 2 steps"
  pub int : At C C89 1 int_row (ok 1 2)
  -- the same from the file's bytes on, with allowance 2 and, one step short, 1
  pub int_file_answer : answer (int_file 2) 6 ≡ accepted_with 1 2
  pub int_file_buffer : final_buffer (int_file 2) (replicate 6 7) ≡ 0 ∷ 0 ∷ 1 ∷ 0 ∷ 0 ∷ 0 ∷ []
  pub int_file_short : answer_first_line (answer (int_file 1) 6) ≡ refuses 25 no_token 0 1
  -- "`long long`: C89 40 detail 1; C99 3 steps"
  pub long_long_c89 : At C C89 1 long_long (refuses 40 no_token 1 3)
  pub long_long_c99 : At C C99 1 long_long (ok 2 3)
  -- "`long long long`, C99: 30; flag 0 accepted"
  pub long_long_long_checked : At C C99 1 long_long_long (refuses 30 no_token 0 4)
  pub long_long_long_unchecked : At C C99 0 long_long_long (ok 3 3)
  -- "`A<b>>`, C++: 12 at token 3"
  pub one_angle_too_many : In Cpp 1 closed_twice (refuses 12 3 0 0)
  -- "`A>>b`, flag 0: 3 nodes, 3 steps; flag 1: 30"
  pub shifted_unchecked : InEach 0 shifted (ok 3 3)
  pub shifted_checked : InEach 1 shifted (refuses 30 no_token 0 4)
  -- "`A<B<c>>`, C++11: 7 nodes, 8 steps"
  pub two_lists : At Cpp Cpp11 1 nested (ok 7 8)
  -- "`A<b>::C<d`: 16 at token 1"
  pub open_angle : In Cpp 1 not_closed (refuses 16 1 0 0)
  -- "`Slots<(Lanes<8)>`, C++17: 21 after 12 steps; allowance 11: 25"
  pub slots_refused : At Cpp Cpp17 1 slots (refuses 21 no_token 0 12)
  pub slots_short : first_line (answer_of Cpp Cpp17 1 (kinds_in slots) (words_in slots) 11) ≡ refuses 25 no_token 0 11
  -- "`real*8`, Fortran77: 3 nodes, 4 steps"
  pub real_8 : At Fortran Fortran77 1 real_row (ok 3 4)
  -- "`unsigned _BitInt(8)`: C11 40 detail 3; C23 accepted"
  pub bit_int_c11 : At C C11 1 bit_int (refuses 40 no_token 3 6)
  pub bit_int_c23 : At C C23 1 bit_int (ok 4 6)

-- ---- the proof: each row is computed once, without an allowance

within : (a : RowAnswer) (allowance : ℕ) → steps_of (first_line a) ≤ allowance → answer_within allowance a ≡ a
unfolding answer_within row_steps first_line
within (accepted x m) allowance p = rw (le-leb m allowance p)
within (refused e m) allowance p = rw (le-leb m allowance p)

at : (language standard flag : ℕ) (row : List Token) (expected : FirstLine) → first_line_of language standard flag row ≡ expected → At language standard flag row expected
unfolding answer_of first_line_of first_line_by_numbers
at language standard flag row expected q allowance p =
    ap first_line (within (unlimited language standard flag (kinds_in row) (words_in row)) allowance (rw q p)) ∙ q

empty_line : (language standard : ℕ) → first_line_of language standard 1 [] ≡ refuses 10 no_token 0 0
unfolding first_line_of
empty_line language standard = refl

int_line : first_line_of C C89 1 int_row ≡ ok 1 2
unfolding first_line_of
int_line = refl

int_file_answer_line : answer (int_file 2) 6 ≡ accepted_with 1 2
unfolding file_first_line
int_file_answer_line = refl

int_file_buffer_line : final_buffer (int_file 2) (replicate 6 7) ≡ 0 ∷ 0 ∷ 1 ∷ 0 ∷ 0 ∷ 0 ∷ []
unfolding file_first_line
int_file_buffer_line = refl

int_file_short_line : answer_first_line (answer (int_file 1) 6) ≡ refuses 25 no_token 0 1
unfolding file_first_line
int_file_short_line = refl

long_long_c89_line : first_line_of C C89 1 long_long ≡ refuses 40 no_token 1 3
unfolding first_line_of
long_long_c89_line = refl

long_long_c99_line : first_line_of C C99 1 long_long ≡ ok 2 3
unfolding first_line_of
long_long_c99_line = refl

long_long_long_checked_line : first_line_of C C99 1 long_long_long ≡ refuses 30 no_token 0 4
unfolding first_line_of
long_long_long_checked_line = refl

long_long_long_unchecked_line : first_line_of C C99 0 long_long_long ≡ ok 3 3
unfolding first_line_of
long_long_long_unchecked_line = refl

one_angle_too_many_line : (standard : ℕ) → first_line_of Cpp standard 1 closed_twice ≡ refuses 12 3 0 0
unfolding first_line_of
one_angle_too_many_line standard = refl

shifted_unchecked_line : (language standard : ℕ) → language ≤ Fortran → first_line_of language standard 0 shifted ≡ ok 3 3
unfolding first_line_of
shifted_unchecked_line zero standard p = refl
shifted_unchecked_line (suc zero) standard p = refl
shifted_unchecked_line (suc (suc zero)) standard p = refl
shifted_unchecked_line (suc (suc (suc language))) standard p = absurd (omega arith)

shifted_checked_line : (language standard : ℕ) → language ≤ Fortran → first_line_of language standard 1 shifted ≡ refuses 30 no_token 0 4
unfolding first_line_of
shifted_checked_line zero standard p = refl
shifted_checked_line (suc zero) standard p = refl
shifted_checked_line (suc (suc zero)) standard p = refl
shifted_checked_line (suc (suc (suc language))) standard p = absurd (omega arith)

two_lists_line : first_line_of Cpp Cpp11 1 nested ≡ ok 7 8
unfolding first_line_of
two_lists_line = refl

open_angle_line : (standard : ℕ) → first_line_of Cpp standard 1 not_closed ≡ refuses 16 1 0 0
unfolding first_line_of
open_angle_line standard = refl

slots_refused_line : first_line_of Cpp Cpp17 1 slots ≡ refuses 21 no_token 0 12
unfolding first_line_of
slots_refused_line = refl

slots_short_line : first_line (answer_of Cpp Cpp17 1 (kinds_in slots) (words_in slots) 11) ≡ refuses 25 no_token 0 11
unfolding first_line_of answer_of answer_within row_steps
slots_short_line = refl

real_8_line : first_line_of Fortran Fortran77 1 real_row ≡ ok 3 4
unfolding first_line_of
real_8_line = refl

bit_int_c11_line : first_line_of C C11 1 bit_int ≡ refuses 40 no_token 3 6
unfolding first_line_of
bit_int_c11_line = refl

bit_int_c23_line : first_line_of C C23 1 bit_int ≡ ok 4 6
unfolding first_line_of
bit_int_c23_line = refl

pub starred_rows : StarredRows
starred_rows =
    record {
      empty = λ l _ s _. at l s 1 [] (refuses 10 no_token 0 0) (empty_line l s);
      int = at C C89 1 int_row (ok 1 2) int_line;
      int_file_answer = int_file_answer_line;
      int_file_buffer = int_file_buffer_line;
      int_file_short = int_file_short_line;
      long_long_c89 = at C C89 1 long_long (refuses 40 no_token 1 3) long_long_c89_line;
      long_long_c99 = at C C99 1 long_long (ok 2 3) long_long_c99_line;
      long_long_long_checked = at C C99 1 long_long_long (refuses 30 no_token 0 4) long_long_long_checked_line;
      long_long_long_unchecked = at C C99 0 long_long_long (ok 3 3) long_long_long_unchecked_line;
      one_angle_too_many = λ s _. at Cpp s 1 closed_twice (refuses 12 3 0 0) (one_angle_too_many_line s);
      shifted_unchecked = λ l p s _. at l s 0 shifted (ok 3 3) (shifted_unchecked_line l s p);
      shifted_checked = λ l p s _. at l s 1 shifted (refuses 30 no_token 0 4) (shifted_checked_line l s p);
      two_lists = at Cpp Cpp11 1 nested (ok 7 8) two_lists_line;
      open_angle = λ s _. at Cpp s 1 not_closed (refuses 16 1 0 0) (open_angle_line s);
      slots_refused = at Cpp Cpp17 1 slots (refuses 21 no_token 0 12) slots_refused_line;
      slots_short = slots_short_line;
      real_8 = at Fortran Fortran77 1 real_row (ok 3 4) real_8_line;
      bit_int_c11 = at C C11 1 bit_int (refuses 40 no_token 3 6) bit_int_c11_line;
      bit_int_c23 = at C C23 1 bit_int (ok 4 6) bit_int_c23_line;
    }
