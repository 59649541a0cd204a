-- Sets of kinds by ranges: document 02, C-13: "decide each by ranges over the kind number, no more of them than the set has runs of neighbouring kinds".
-- What is_binary_or_assignment_operator means stands in Sets.antt and is not said again here: that these ranges decide it is proved (Theorems.antt).
-- Assumes nothing.
use Rattle.std.specs.Prelude.{ℕ, zero, suc, ◌+◌, Bool, false, not, ◌&&◌, ◌||◌, List, [], ◌∷◌, eqb, leb, if◌then◌else◌}
use Rattle.rows.specs.Languages.{Fortran}
use Rattle.rows.specs.Kinds.{Comma, Plus, Slash, Concat, Remainder, Ampersand, LogicalAnd, LogicalOr, LogicalNeqv, Equal, GreaterEqual, ShiftRight, PlusEqual, ShiftRightEqual, End}

-- ---- ranges

-- A "range over the kind number": from its first number to its last, both of it.
pub record Range : Type 0 where
  pub first : ℕ
  pub last : ℕ

infix 70 ◌to◌
-- The range from one number to another.
abbrev pub ◌to◌ : (first last : ℕ) → Range
first to last = record { first = first; last = last }

infix 40 ◌is_within◌
-- The number is of the range: a pair of comparisons.
unfoldable pub ◌is_within◌ : ℕ → Range → Bool
k is_within r = leb r.first k && leb k r.last

infix 40 ◌is_within_one_of◌
-- "By ranges": the number is of one of them.
unfoldable pub ◌is_within_one_of◌ : ℕ → List Range → Bool
unfolding ◌is_within◌
k is_within_one_of [] = false
k is_within_one_of (r ∷ rs) = (k is_within r) || (k is_within_one_of rs)

-- ---- runs

-- "All 58 kinds", 0 to 57.
abbrev pub kind_count : ℕ
kind_count = suc End

-- A run "of neighbouring kinds" begins at a kind of the set if the kind before it is not of the set.
unfoldable pub begins_run : (set : ℕ → Bool) (kind : ℕ) → Bool
begins_run set zero = set zero
begins_run set (suc k) = set (suc k) && not (set k)

-- How many runs a set has that begin below a bound.
unfoldable pub runs : (set : ℕ → Bool) (bound : ℕ) → ℕ
unfolding begins_run
runs set zero = 0
runs set (suc n) = runs set n + (if begins_run set n then 1 else 0)

-- ---- the ranges of `is_binary_or_assignment_operator`

-- For C and C++: 19 to 22, 25, 28 to 32, 36 to 44, 47 to 56, and 12, which the original's list has last too.
unfoldable pub c_family_ranges : List Range
c_family_ranges = Plus to Slash ∷ Remainder to Remainder ∷ Ampersand to LogicalOr ∷ Equal to ShiftRight ∷ PlusEqual to ShiftRightEqual ∷ Comma to Comma ∷ []

-- For Fortran: 19 to 24, 31 to 34, 36 to 42, and 12.
unfoldable pub fortran_ranges : List Range
fortran_ranges = Plus to Concat ∷ LogicalAnd to LogicalNeqv ∷ Equal to GreaterEqual ∷ Comma to Comma ∷ []

-- "Per language".
unfoldable pub operator_ranges : (lang : ℕ) → List Range
unfolding fortran_ranges c_family_ranges
operator_ranges lang = if eqb lang Fortran then fortran_ranges else c_family_ranges
