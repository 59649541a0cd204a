-- What is promised of a match: document 02, C-11. `file` and `rules` are the files handed in, `before` what the tree buffer held at entry, `a` the
-- answer, `after` what the buffer holds at exit. The entry's contract cites these by name.
-- Assumes nothing.
use Rattle.rule_answers.specs.MatchAnswer.{matches_with, match_refuses, MatchAnswer}
use Rattle.rows.specs.Answer.{accepted_with, refused_with}
use Rattle.std.specs.Prelude.{ℕ, ◌≤◌, ◌<◌, ◌≡◌, ◌↔◌, List, length, T}
use Rattle.rows.specs.Format.{format, head_length, most_tokens}
use Rattle.rows.specs.Records.{RowToken, row, records_from}
use Rattle.rows.specs.Refusals.{refusal_of}
use Rattle.rows.specs.declared.answer.TypeNameError.{TypeNameError}
use Rattle.rows.specs.declared.answer.TypeNameError.TheVariants.{InvalidRuleTable, NoRuleMatches}
use Rattle.reader.specs.Nodes.{Nodes}
use Rattle.type_name.specs.FileRow.{passes}
use Rattle.type_name.specs.Answers.{accepted, outcome, answer, final_buffer}
use Rattle.type_name.specs.Promises.{last_untouched, RefusedBuffer}
use Rattle.rules.specs.Rules.{Rule, matches}
use Rattle.rules.specs.Seen.{seen}
use Rattle.rules.specs.RuleTable.{no_table, a_table, table_of}
use Rattle.rules.specs.Overlaps.{rule}
use Rattle.rule_answers.specs.MatchAnswers.{match_answer, match_buffer}

-- The rule at a place of a table matches a sequence of top-level nodes.
abbrev pub MatchesAt : (rs : List Rule) (ts : List RowToken) (x : Nodes) (place : ℕ) → Type 0
MatchesAt rs ts x place = T (matches (rule rs place) (seen ts x))

-- `type_name_read` accepts the file, with this row and this tree.
pub record AcceptedTree (file : List ℕ) (room : ℕ) (ts : List RowToken) (x : Nodes) (steps : ℕ) : Type 0 where
  pub row_read : records_from format file most_tokens head_length ≡ row ts
  pub defined : outcome file room ≡ passes (accepted x steps)

-- `type_name_read` accepts the file with so many nodes and steps, the rule at this place matches all top-level nodes, and no earlier one does; the
-- tree buffer is as `type_name_read` leaves it.
pub record Won (file rules before : List ℕ) (nodes steps place : ℕ) (after : List ℕ) : Type 0 where
  pub read_accepts : answer file (length before) ≡ accepted_with nodes steps
  pub as_read : after ≡ final_buffer file before
  pub table : List Rule
  pub formed : table_of rules ≡ a_table table
  pub tokens : List RowToken
  pub tree : Nodes
  pub accepted_tree : AcceptedTree file (length before) tokens tree steps
  pub in_table : place < length table
  pub wins : MatchesAt table tokens tree place
  pub first : (earlier : ℕ) → earlier < place → MatchesAt table tokens tree earlier → ⊥

pub record MatchPromised (file rules before : List ℕ) (a : MatchAnswer) (after : List ℕ) : Type 0 where
  -- Answer and buffer are the definition's.
  pub answered : a ≡ match_answer file rules (length before)
  pub buffered : after ≡ match_buffer file rules before
  -- Where `type_name_read` gives 1 to 6, so does this, and the buffer is not touched.
  pub first_refusals : (e : TypeNameError) (m : ℕ) → answer file (length before) ≡ refused_with e m → (refusal_of e).number ≤ last_untouched → (a ≡ match_refuses e m) × (after ≡ before)
  -- Else 50 exactly if the table is not of the form,
  pub refused_table : (passed : (e : TypeNameError) (m : ℕ) → answer file (length before) ≡ refused_with e m → last_untouched < (refusal_of e).number)
      → (table_of rules ≡ no_table) ↔ (a ≡ match_refuses InvalidRuleTable 0)
  -- else the refusal of `type_name_read`,
  pub refused_row : (rs : List Rule) → table_of rules ≡ a_table rs → (e : TypeNameError) (m : ℕ) → answer file (length before) ≡ refused_with e m
      → (a ≡ match_refuses e m) × (after ≡ final_buffer file before)
  -- else 51, after the row's steps, exactly if no rule matches,
  pub none_matches : (rs : List Rule) → table_of rules ≡ a_table rs → (ts : List RowToken) (x : Nodes) (steps : ℕ) → AcceptedTree file (length before) ts x steps
      → ((place : ℕ) → place < length rs → MatchesAt rs ts x place → ⊥) ↔ (a ≡ match_refuses NoRuleMatches steps)
  -- else the winner: it matches, and no earlier rule does; node count, steps and tree are those of `type_name_read`.
  pub won : (nodes steps place : ℕ) → a ≡ matches_with nodes steps place → Won file rules before nodes steps place after
  -- "Refusals 1 to 6 don't touch the tree buffer; all others fill it with zeros."
  pub refused_buffer : (e : TypeNameError) (m : ℕ) → a ≡ match_refuses e m → RefusedBuffer before after e
