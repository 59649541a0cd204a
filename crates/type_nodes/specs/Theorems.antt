-- What is proved of the definitions, on one page: each theorem with what it means. The proofs are in Laws/.
-- Assumes nothing.
use Rattle.std.specs.Prelude.{ℕ, ◌≤◌, ◌<◌, ◌≡◌, Bool, false, List, length}
use Rattle.type_nodes.specs.Sets.{is_binary_or_assignment_operator}
use Rattle.type_nodes.specs.Ranges.{Range, ◌is_within_one_of◌, kind_count, runs, operator_ranges}
use Rattle.type_nodes.specs.Laws.OperatorRanges as OperatorRanges
use Rattle.type_nodes.specs.Laws.Runs as Runs

-- ---- document 02, C-13

-- "The sets as carried over stay as the definition, proved equal for all 58 kinds and three languages": and for every other number.
pub ranges_decide : (lang k : ℕ) → (k is_within_one_of operator_ranges lang) ≡ is_binary_or_assignment_operator lang k
ranges_decide = OperatorRanges.ranges_decide

-- A shape that is no kind (58 to 62) is of no set, and so within no range.
pub no_kind_no_operator : (lang k : ℕ) → kind_count ≤ k → is_binary_or_assignment_operator lang k ≡ false
no_kind_no_operator = OperatorRanges.no_kind_no_operator

-- "No more of them than the set has runs of neighbouring kinds": as many.
pub as_many_as_runs : (lang : ℕ) → length (operator_ranges lang) ≡ runs (is_binary_or_assignment_operator lang) kind_count
as_many_as_runs = OperatorRanges.as_many_as_runs

-- And no fewer would do: whatever ranges decide a set of the kinds are at least as many as it has runs.
pub no_fewer : (set : ℕ → Bool) (rs : List Range) → ((k : ℕ) → k < kind_count → (k is_within_one_of rs) ≡ set k) → runs set kind_count ≤ length rs
no_fewer set rs = Runs.no_fewer set rs kind_count
