-- What the contracts below the entry of a match say. They are worded with the definitions of MatchAnswers.antt and MatchPromises.antt.
-- Assumes nothing.
use Rattle.rule_answers.specs.MatchAnswer.{MatchAnswer}
use Rattle.rows.specs.Answer.{accepted_with, refused_with, Answer}
use Rattle.std.specs.Prelude.{ℕ, ◌*◌, ◌<◌, ◌≡◌, List, length, take, replicate, Err, Ok}
use Rattle.rows.specs.Records.{RowToken}
use Rattle.rows.specs.Refusals.{refusal_of}
use Rattle.rows.specs.declared.answer.TypeNameError.{TypeNameError}
use Rattle.reader.specs.Nodes.{Nodes, count, node_width, records}
use Rattle.type_name.specs.FileRow.{passes}
use Rattle.type_name.specs.Answers.{answer}
use Rattle.type_name.specs.Promises.{last_untouched}
use Rattle.rules.specs.Rules.{Rule, winner}
use Rattle.rules.specs.Seen.{seen}
use Rattle.rules.specs.RuleTable.{a_table, table_of}
use Rattle.rule_answers.specs.MatchAnswers.{by_winner, match_in}
use Rattle.rule_answers.specs.MatchPromises.{AcceptedTree}

-- The file is accepted with so many nodes after so many steps, and its tree stands in front of the buffer.
pub record TreeLeft (file tree : List ℕ) (nodes steps : ℕ) : Type 0 where
  pub tokens : List RowToken
  pub the_tree : Nodes
  pub accepted_tree : AcceptedTree file (length tree) tokens the_tree steps
  pub counted : count the_tree ≡ nodes
  pub written : take (node_width * nodes) tree ≡ records the_tree

-- What `parse_type_name` answered to a file and left in the buffer: none of refusals 1 to 6.
pub record AnswerLeft (file tree : List ℕ) (a : Answer) : Type 0 where
  pub answered : a ≡ answer file (length tree)
  pub late : (e : TypeNameError) (m : ℕ) → a ≡ refused_with e m → last_untouched < (refusal_of e).number
  pub left : (nodes steps : ℕ) → a ≡ accepted_with nodes steps → TreeLeft file tree nodes steps

-- `winner_answer`: of whatever rules, row and tree these are.
pub record WinnerSays (rules file : List ℕ) (room steps : ℕ) (r : MatchAnswer) : Type 0 where
  pub says : (rs : List Rule) → table_of rules ≡ a_table rs → (ts : List RowToken) (x : Nodes) → AcceptedTree file room ts x steps
      → r ≡ match_in (passes (by_winner x steps (winner rs (seen ts x))))

-- The buffer after a match: its tree stays, a refusal leaves zeros.
abbrev pub left_by : (tree : List ℕ) → MatchAnswer → List ℕ
left_by tree (Ok m) = tree
left_by tree (Err r) = replicate (length tree) 0
