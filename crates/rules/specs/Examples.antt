-- Computed examples, worked out by hand from document 02, C-11, so that a wrong edit of a definition is refused here.
-- Assumes nothing.
use Rattle.std.specs.Prelude.{ℕ, zero, suc, ◌≡◌, refl, true, false, List, [], ◌∷◌, ◌++◌, replicate}
use Rattle.rows.specs.Kinds.{Star}
use Rattle.rules.specs.Rules.{word_node, kind_node, list_node, word, kind, group, list, any, Rule, no_winner, wins, winner, good_word, good_kind}
use Rattle.rules.specs.RuleTable.{TableFound, no_table, a_table, table_of, rules_from, rule_at, rule_head, rule_length, items_from, rest_at, item_at, word_item, kind_item, with_item, with_rule, front}
use Rattle.rules.specs.Overlaps.{shown, items_bytes}
use Rattle.rules.specs.Meeting.{rules_meet}
use Rattle.rows.specs.Records.{little_endian, in_range}

-- The table `A list | any rest | rest | int`, by its bytes.
abbrev table : List ℕ
table =
    8 ∷ 0 ∷ 16 ∷ 1 ∷ 0 ∷ 1 ∷ 65 ∷ 3
    ∷ 6 ∷ 0 ∷ 16 ∷ 1 ∷ 4 ∷ 5
    ∷ 5 ∷ 0 ∷ 16 ∷ 1 ∷ 5
    ∷ 9 ∷ 0 ∷ 16 ∷ 1 ∷ 0 ∷ 3 ∷ 105 ∷ 110 ∷ 116 ∷ []

-- Its rules.
abbrev a_list : Rule
a_list = record { items = word (65 ∷ []) ∷ list ∷ []; rest = false }

abbrev any_rest : Rule
any_rest = record { items = any ∷ []; rest = true }

abbrev rest_alone : Rule
rest_alone = record { items = []; rest = true }

abbrev int_alone : Rule
int_alone = record { items = word (105 ∷ 110 ∷ 116 ∷ []) ∷ []; rest = false }

abbrev rules : List Rule
rules = a_list ∷ any_rest ∷ rest_alone ∷ int_alone ∷ []

-- Whoever unfolds this computes with the definitions of the table's form.
unfoldable read_table : List ℕ → TableFound
unfolding table_of rules_from rule_at rule_head rule_length little_endian items_from rest_at item_at word_item kind_item good_word good_kind in_range with_item with_rule front
read_table bytes = table_of bytes

of_the_form : read_table table ≡ a_table rules
unfolding read_table
of_the_form = refl

-- "an empty file is a table of no rules"
empty_table : read_table [] ≡ a_table []
unfolding read_table
empty_table = refl

-- A record of these items.
abbrev record_of : (size : ℕ) → List ℕ → List ℕ
record_of size items = size ∷ 0 ∷ 16 ∷ 1 ∷ items

-- 16 items pass, "the rest" among them; 17 do not.
sixteen : read_table (record_of 20 (replicate 15 4 ++ (5 ∷ []))) ≡ a_table (record { items = replicate 15 any; rest = true } ∷ [])
unfolding read_table
sixteen = refl

seventeen : read_table (record_of 21 (replicate 16 4 ++ (5 ∷ []))) ≡ no_table
unfolding read_table
seventeen = refl

-- No item; "the rest" before another; kind 0 and 58; byte 6; a word without bytes, past its record, of byte 32; another record kind; a length past the file, twice.
ill_formed : List (List ℕ)
ill_formed =
    record_of 4 [] ∷ record_of 6 (5 ∷ 4 ∷ []) ∷ record_of 6 (1 ∷ 0 ∷ []) ∷ record_of 6 (1 ∷ 58 ∷ []) ∷ record_of 5 (6 ∷ [])
    ∷ record_of 6 (0 ∷ 0 ∷ []) ∷ record_of 6 (0 ∷ 1 ∷ []) ∷ record_of 7 (0 ∷ 1 ∷ 32 ∷ []) ∷ (5 ∷ 0 ∷ 17 ∷ 1 ∷ 4 ∷ []) ∷ record_of 6 (4 ∷ []) ∷ record_of 9 (0 ∷ 3 ∷ 105 ∷ 110 ∷ []) ∷ []

-- None of these is a table.
unfoldable none_is : List (List ℕ) → List TableFound
unfolding read_table
none_is [] = []
none_is (t ∷ ts) = read_table t ∷ none_is ts

all_refused : none_is ill_formed ≡ replicate 11 no_table
unfolding none_is ill_formed
all_refused = refl

-- 256 rules pass, 257 do not.
many : (n : ℕ) → List ℕ
many zero = []
many (suc n) = record_of 5 (4 ∷ []) ++ many n

most_many : read_table (many 256) ≡ a_table (replicate 256 (record { items = any ∷ []; rest = false }))
unfolding read_table many
most_many = refl

too_many : read_table (many 257) ≡ no_table
unfolding read_table many
too_many = refl

-- The greatest kind and the shortest record pass.
kind_57 : read_table (record_of 6 (1 ∷ 57 ∷ []) ++ record_of 5 (2 ∷ [])) ≡ a_table (record { items = kind 57 ∷ []; rest = false } ∷ record { items = group ∷ []; rest = false } ∷ [])
unfolding read_table
kind_57 = refl

-- `A<b>` goes by rule 0, `int` by rule 1, no node at all by rule 2; words match byte for byte.
lane_wins : winner rules (word_node (65 ∷ []) ∷ list_node ∷ []) ≡ wins 0
unfolding winner
lane_wins = refl

int_wins : winner rules (word_node (105 ∷ 110 ∷ 116 ∷ []) ∷ []) ≡ wins 1
unfolding winner
int_wins = refl

none_wins : winner (a_list ∷ int_alone ∷ []) (word_node (65 ∷ []) ∷ []) ≡ no_winner
unfolding winner
none_wins = refl

other_case : winner (int_alone ∷ []) (word_node (73 ∷ 110 ∷ 116 ∷ []) ∷ []) ≡ no_winner
unfolding winner
other_case = refl

rest_takes_none : winner (rest_alone ∷ []) [] ≡ wins 0
unfolding winner
rest_takes_none = refl

-- All nodes are matched, not the first ones alone: `int *`.
all_matched : winner (int_alone ∷ []) (word_node (105 ∷ 110 ∷ 116 ∷ []) ∷ kind_node Star ∷ []) ≡ no_winner
unfolding winner
all_matched = refl

-- ---- overlaps

-- (0,3): `A` is not `int`. One node is not two.
not_the_same_word : rules_meet a_list int_alone ≡ false
unfolding rules_meet
not_the_same_word = refl

lengths_differ : rules_meet (record { items = any ∷ []; rest = false }) (record { items = any ∷ any ∷ []; rest = false }) ≡ false
unfolding rules_meet
lengths_differ = refl

-- The sequences that are shown, as bytes: (0,1) and (0,2) `00 01 41 03`; (1,2) `04`; (1,3) and (2,3) `00 03 69 6e 74`; two rests nothing.
unfoldable shown_bytes : Rule → Rule → List ℕ
unfolding shown items_bytes
shown_bytes r s = items_bytes (shown r.items s.items)

first_second : shown_bytes a_list any_rest ≡ 0 ∷ 1 ∷ 65 ∷ 3 ∷ []
unfolding shown_bytes
first_second = refl

second_third : shown_bytes any_rest rest_alone ≡ 4 ∷ []
unfolding shown_bytes
second_third = refl

second_fourth : shown_bytes any_rest int_alone ≡ 0 ∷ 3 ∷ 105 ∷ 110 ∷ 116 ∷ []
unfolding shown_bytes
second_fourth = refl

rest_rest : shown_bytes rest_alone rest_alone ≡ []
unfolding shown_bytes
rest_rest = refl

-- A rule `kind 8` and a rule `any` show `01 08`.
kind_any : shown_bytes (record { items = kind 8 ∷ []; rest = false }) any_rest ≡ 1 ∷ 8 ∷ []
unfolding shown_bytes
kind_any = refl
