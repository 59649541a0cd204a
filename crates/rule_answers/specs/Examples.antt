-- Computed examples, worked out by hand from document 02, C-11, so that a wrong edit of a definition is refused here.
-- Assumes nothing.
use Rattle.rule_answers.specs.OverlapAnswer.{overlaps, no_further, overlap_refuses}
use Rattle.rule_answers.specs.MatchAnswer.{matches_with, match_refuses, MatchAnswer}
use Rattle.std.specs.Prelude.{ℕ, ◌≡◌, refl, true, false, List, [], ◌∷◌, take, replicate}
use Rattle.rows.specs.Kinds.{Identifier, Less, Greater}
use Rattle.rows.specs.Records.{RowToken}
use Rattle.rows.specs.declared.answer.TypeNameError.TheVariants.{ShortBuffer, AllowancePassed, Empty, InvalidRuleTable, NoRuleMatches}
use Rattle.reader.specs.Nodes.{t_node, l_node, a_node, Nodes, none, node}
use Rattle.type_name.specs.Answers.{accepted}
use Rattle.type_name.specs.FirstLines.{file_first_line}
use Rattle.type_name.specs.StarredRows.{int_file}
use Rattle.rules.specs.Rules.{word, list, any, Rule, winner, good_word, good_kind}
use Rattle.rules.specs.Seen.{seen}
use Rattle.rules.specs.RuleTable.{table_of, rules_from, rule_at, rule_head, rule_length, items_from, rest_at, item_at, word_item, kind_item, with_item, with_rule, front}
use Rattle.rules.specs.Overlaps.{shown, items_bytes, longest_shown}
use Rattle.rule_answers.specs.MatchAnswers.{matched, by_table, match_answer, match_buffer}
use Rattle.rule_answers.specs.OverlapAnswers.{shown_bytes}
use Rattle.rule_answers.specs.AnswerNumbers.{match_numbers, match_code, overlap_numbers, overlap_code}

-- ---- matching

-- The table `A list | any rest | rest | int`.
abbrev table : List ℕ
table =
    8 ∷ 0 ∷ 16 ∷ 1 ∷ 0 ∷ 1 ∷ 65 ∷ 3
    ∷ 6 ∷ 0 ∷ 16 ∷ 1 ∷ 4 ∷ 5
    ∷ 5 ∷ 0 ∷ 16 ∷ 1 ∷ 5
    ∷ 9 ∷ 0 ∷ 16 ∷ 1 ∷ 0 ∷ 3 ∷ 105 ∷ 110 ∷ 116 ∷ []

-- A record's first byte.
abbrev bad_table : List ℕ
bad_table = 5 ∷ []

-- Whoever unfolds this computes with all the definitions.
unfoldable matching : (file rules : List ℕ) (room : ℕ) → MatchAnswer
unfolding file_first_line match_answer match_buffer winner seen table_of rules_from rule_at rule_head rule_length items_from rest_at item_at word_item kind_item good_word good_kind with_item with_rule front
matching file rules room = match_answer file rules room

-- `int` goes by rule 1, and its tree is left.
int_wins : matching (int_file 2) table 6 ≡ matches_with 1 2 1
unfolding matching
int_wins = refl

int_left : match_buffer (int_file 2) table (replicate 6 7) ≡ 0 ∷ 0 ∷ 1 ∷ 0 ∷ 0 ∷ 0 ∷ []
unfolding matching
int_left = refl

-- `A<b>` goes by rule 0, whatever its steps.
abbrev row : List RowToken
row =
    record { place = 11; kind = Identifier; word = 65 ∷ [] } ∷ record { place = 24; kind = Less; word = [] }
    ∷ record { place = 36; kind = Identifier; word = 98 ∷ [] } ∷ record { place = 49; kind = Greater; word = [] } ∷ []

abbrev tree : Nodes
tree = node t_node 0 none (node l_node 1 (node a_node 2 (node t_node 2 none none) none) none)

list_wins : by_table (table_of table) row (accepted tree 7) ≡ matched tree 7 0
unfolding matching
list_wins = refl

-- No rule at all: 51 after 2 steps, and zeros.
none_wins : matching (int_file 2) [] 6 ≡ match_refuses NoRuleMatches 2
unfolding matching
none_wins = refl

none_left : match_buffer (int_file 2) [] (replicate 6 7) ≡ replicate 6 0
unfolding matching
none_left = refl

-- One step short of the allowance: 25 before 51.
spent : matching (int_file 1) [] 6 ≡ match_refuses AllowancePassed 1
unfolding matching
spent = refl

-- A bad table: 50 before 10, and zeros; 6 before 50, and the buffer stays.
empty_row : matching (take 11 (int_file 2)) bad_table 5 ≡ match_refuses InvalidRuleTable 0
unfolding matching
empty_row = refl

empty_row_left : match_buffer (take 11 (int_file 2)) bad_table (replicate 5 7) ≡ replicate 5 0
unfolding matching
empty_row_left = refl

short : matching (int_file 2) bad_table 5 ≡ match_refuses ShortBuffer 0
unfolding matching
short = refl

short_left : match_buffer (int_file 2) bad_table (replicate 5 7) ≡ replicate 5 7
unfolding matching
short_left = refl

-- A table of the form and an empty row: 10.
empty_row_refused : matching (take 11 (int_file 2)) table 5 ≡ match_refuses Empty 0
unfolding matching
empty_row_refused = refl

-- As numbers: 3 nodes after 5 steps by rule 2; 51 after 2 steps.
as_numbers : match_numbers (matches_with 3 5 2) ∷ match_numbers (match_refuses NoRuleMatches 2) ∷ [] ≡ (0 ∷ 3 ∷ 5 ∷ 2 ∷ []) ∷ (51 ∷ 65535 ∷ 0 ∷ 2 ∷ []) ∷ []
unfolding match_numbers
as_numbers = refl

codes : match_code (matches_with 3 5 2) ∷ match_code (match_refuses InvalidRuleTable 0) ∷ [] ≡ 0 ∷ 50 ∷ []
unfolding match_code
codes = refl

-- ---- overlaps

-- The table `A list | any rest | rest | int`, and one rule `rest` more.
abbrev rules : List Rule
rules =
    record { items = word (65 ∷ []) ∷ list ∷ []; rest = false }
    ∷ record { items = any ∷ []; rest = true }
    ∷ record { items = []; rest = true }
    ∷ record { items = word (105 ∷ 110 ∷ 116 ∷ []) ∷ []; rest = false }
    ∷ record { items = []; rest = true }
    ∷ []

-- (0,1) and (0,2) `00 01 41 03`; (1,2) `04`; (1,3) and (2,3) `00 03 69 6e 74`; two rests nothing.
first_second : shown_bytes rules 0 1 ≡ 0 ∷ 1 ∷ 65 ∷ 3 ∷ []
unfolding shown_bytes shown items_bytes
first_second = refl

first_third : shown_bytes rules 0 2 ≡ 0 ∷ 1 ∷ 65 ∷ 3 ∷ []
unfolding shown_bytes shown items_bytes
first_third = refl

second_third : shown_bytes rules 1 2 ≡ 4 ∷ []
unfolding shown_bytes shown items_bytes
second_third = refl

second_fourth : shown_bytes rules 1 3 ≡ 0 ∷ 3 ∷ 105 ∷ 110 ∷ 116 ∷ []
unfolding shown_bytes shown items_bytes
second_fourth = refl

third_fourth : shown_bytes rules 2 3 ≡ 0 ∷ 3 ∷ 105 ∷ 110 ∷ 116 ∷ []
unfolding shown_bytes shown items_bytes
third_fourth = refl

rest_rest : shown_bytes rules 2 4 ≡ []
unfolding shown_bytes shown items_bytes
rest_rest = refl

-- 16 words of 255 bytes.
most_shown : longest_shown ≡ 4112
most_shown = refl

-- The pair (1, 3) in 5 bytes; no further pair; refusals 50 and 6, which name no token.
pair_numbers : overlap_numbers (overlaps 1 3 5) ≡ 0 ∷ 1 ∷ 3 ∷ 5 ∷ []
unfolding overlap_numbers
pair_numbers = refl

no_further_numbers : overlap_numbers no_further ≡ 0 ∷ 0 ∷ 0 ∷ 0 ∷ []
unfolding overlap_numbers
no_further_numbers = refl

no_table_numbers : overlap_numbers (overlap_refuses InvalidRuleTable) ≡ 50 ∷ 65535 ∷ 0 ∷ 0 ∷ []
unfolding overlap_numbers
no_table_numbers = refl

short_numbers : overlap_numbers (overlap_refuses ShortBuffer) ≡ 6 ∷ 65535 ∷ 0 ∷ 0 ∷ []
unfolding overlap_numbers
short_numbers = refl

overlap_codes : (overlap_code (overlaps 1 3 5) ≡ 0) × (overlap_code no_further ≡ 0) × (overlap_code (overlap_refuses InvalidRuleTable) ≡ 50) × (overlap_code (overlap_refuses ShortBuffer) ≡ 6)
unfolding overlap_code
overlap_codes = (refl, refl, refl, refl)
