-- Which rule of a table wins for a file's row, and the final tree buffer: document 02, C-11.
-- Assumes nothing.
use Rattle.rule_answers.specs.MatchAnswer.{matches_with, match_refuses, MatchAnswer}
use Rattle.std.specs.Prelude.{ℕ, List, length}
use Rattle.rows.specs.Format.{format}
use Rattle.rows.specs.Records.{RowToken}
use Rattle.rows.specs.declared.answer.TypeNameError.{TypeNameError}
use Rattle.rows.specs.declared.answer.TypeNameError.TheVariants.{InvalidRuleTable, NoRuleMatches}
use Rattle.reader.specs.Nodes.{Nodes, count}
use Rattle.type_name.specs.FileRow.{HeadRow, Outcome, untouched, passes, on_pass, file_row, entry_outcome}
use Rattle.type_name.specs.Answers.{RowAnswer, row_answer, buffer_in}
use Rattle.type_name.specs.Answers
use Rattle.rules.specs.Rules.{Rule, Winner, no_winner, wins, winner}
use Rattle.rules.specs.Seen.{seen}
use Rattle.rules.specs.RuleTable.{TableFound, no_table, a_table, table_of}

-- What is answered to a row and a table: the row's tree, the steps taken and the winner's place, or a refusal and the steps up to it.
pub data RuleAnswer : Type 0 where
  matched : Nodes → (steps place : ℕ) → RuleAnswer
  refused : TypeNameError → (steps : ℕ) → RuleAnswer

-- "51 no rule matches", after the row's steps.
unfoldable pub by_winner : Nodes → (steps : ℕ) → Winner → RuleAnswer
by_winner x m no_winner = refused NoRuleMatches m
by_winner x m (wins place) = matched x m place

-- "51 .., checked after 40": the winner is asked for where the row is accepted. "The first rule that matches all top-level nodes wins".
unfoldable pub with_winner : List Rule → (row : List RowToken) → RowAnswer → RuleAnswer
unfolding by_winner
with_winner rs row (Answers.accepted x m) = by_winner x m (winner rs (seen row x))
with_winner rs row (Answers.refused e m) = refused e m

-- "50 rule table not of this form or of over 256 rules": before any step.
unfoldable pub by_table : TableFound → (row : List RowToken) → RowAnswer → RuleAnswer
unfolding with_winner
by_table no_table row a = refused InvalidRuleTable 0
by_table (a_table rs) row a = with_winner rs row a

-- The answer to a file's head and row, and a table.
unfoldable pub row_match : (rules : List ℕ) → HeadRow → RuleAnswer
unfolding by_table row_answer
row_match rules r = by_table (table_of rules) r.tokens (row_answer r)

-- "50 .., checked after 6".
unfoldable pub match_outcome : (file rules : List ℕ) (room : ℕ) → Outcome RuleAnswer
unfolding on_pass file_row row_match
match_outcome file rules room = entry_outcome format (row_match rules) file room

-- Matched: node count, steps, "place from 0".
unfoldable pub match_in : Outcome RuleAnswer → MatchAnswer
match_in (untouched e) = match_refuses e 0
match_in (passes (matched x m place)) = matches_with (count x) m place
match_in (passes (refused e m)) = match_refuses e m

-- The answer to any file and any table, with a tree buffer of any length.
unfoldable pub match_answer : (file rules : List ℕ) (room : ℕ) → MatchAnswer
unfolding match_in match_outcome
match_answer file rules room = match_in (match_outcome file rules room)

-- ---- the final tree buffer

-- A match leaves the row's tree; a refusal leaves none.
unfoldable pub tree_left : RuleAnswer → RowAnswer
tree_left (matched x m place) = Answers.accepted x m
tree_left (refused e m) = Answers.refused e m

-- Document 01: "Refusals 1 to 6 don't touch the tree buffer; all others fill it with zeros."
unfoldable pub match_buffer_in : (before : List ℕ) → Outcome RuleAnswer → List ℕ
unfolding buffer_in on_pass tree_left
match_buffer_in before o = buffer_in before (on_pass o λ a. passes (tree_left a))

-- What the tree buffer holds in the end.
unfoldable pub match_buffer : (file rules before : List ℕ) → List ℕ
unfolding match_buffer_in match_outcome
match_buffer file rules before = match_buffer_in before (match_outcome file rules (length before))
