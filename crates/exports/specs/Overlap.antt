-- What `type_name_overlap` promises.
-- Assumes nothing.
use Rattle.rule_answers.specs.OverlapAnswer.{OverlapAnswer}
use Rattle.std.specs.Prelude.{ℕ, ◌≡◌, List}
use Rattle.rule_answers.specs.OverlapAnswers.{OverlapTold}
use Rattle.rule_answers.specs.AnswerNumbers.{overlap_numbers, overlap_code}
use Rattle.exports.specs.Numbers.{put_front}

-- The answer is told as numbers: to a table after a pair of numbers, with a lent buffer that held `before` and holds `after` in the end.
pub record OverlapReturned (rules : List ℕ) (earlier later : ℕ) (before after numbers : List ℕ) (r : ℕ) (numbers' : List ℕ) : Type 0 where
  pub answer : OverlapAnswer
  pub says : OverlapTold rules earlier later before answer after
  pub returned : r ≡ overlap_code answer
  pub written : numbers' ≡ put_front (overlap_numbers answer) numbers
