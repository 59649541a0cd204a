-- What is proved of a match, on one page. The proofs are in Laws/.
-- Assumes nothing.
use Rattle.rule_answers.specs.MatchAnswer.{MatchAnswer}
use Rattle.std.specs.Prelude.{ℕ, ◌<◌, ◌≡◌, List, length, T}
use Rattle.rules.specs.Rules.{Rule, Node, matches, no_winner, wins, winner}
use Rattle.rules.specs.Overlaps.{rule}
use Rattle.rules.specs.Laws.Winners as Winners
use Rattle.rule_answers.specs.MatchAnswers.{match_answer, match_buffer}
use Rattle.rule_answers.specs.MatchPromises.{MatchPromised}
use Rattle.rule_answers.specs.Laws.Promised as Laws

-- "The first rule that matches all top-level nodes wins": the winner matches, and no earlier rule does;
pub winner_matches : (rs : List Rule) (ns : List Node) (place : ℕ) → winner rs ns ≡ wins place
    → (place < length rs) × T (matches (rule rs place) ns) × ((earlier : ℕ) → earlier < place → T (matches (rule rs earlier) ns) → ⊥)
winner_matches = Winners.winner_matches

-- without a winner no rule matches.
pub none_matches : (rs : List Rule) (ns : List Node) → winner rs ns ≡ no_winner → (place : ℕ) → place < length rs → T (matches (rule rs place) ns) → ⊥
unfolding winner
none_matches rs ns = Winners.none_matching 0 rs ns

-- Whatever answer and buffer are the definition's keep all the promises of MatchPromises.antt.
pub match_promised : (file rules before : List ℕ) (a : MatchAnswer) (after : List ℕ) → a ≡ match_answer file rules (length before) → after ≡ match_buffer file rules before
    → MatchPromised file rules before a after
match_promised = Laws.match_promised
