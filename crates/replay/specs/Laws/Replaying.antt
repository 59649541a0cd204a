-- What the comparisons of one case come to.
-- Assumes nothing.
use Rattle.std.specs.Prelude.{ℕ, ◌≡◌, Bool, true, false, ◌&&◌, List, [], ◌∷◌, length, get_or, take, drop, replicate}
use Rattle.std.proofs.Math.Path.{refl}
use Rattle.std.proofs.Common.{sym, ap, ◌∙◌}
use Rattle.type_name.specs.Answers.{answer, final_buffer}
use Rattle.type_name.specs.AnswerNumbers.{answer_code, answer_numbers}
use Rattle.exports.specs.Numbers.{put_front}
use Rattle.replay.specs.Replay.{fill_at, answer_at, answer_length, stored_at, behind_at, numbers, agree, replays}

-- What the code has of a case: the buffer before and expected, the number returned, the answer's numbers and the buffer after.
pub record Answered (head file stored : List ℕ) (room : ℕ) (filled expected : List ℕ) (code : ℕ) (given after : List ℕ) : Type 0 where
  pub filled_is : filled ≡ numbers stored 0 (get_or head fill_at 0) room
  pub expected_is : expected ≡ numbers stored (get_or head stored_at 0) (get_or head behind_at 0) room
  pub code_is : code ≡ answer_code (answer file (length filled))
  pub given_is : given ≡ put_front (answer_numbers (answer file (length filled))) (replicate answer_length 0)
  pub after_is : after ≡ final_buffer file filled

module _ {head file stored : List ℕ} {room : ℕ} {filled expected : List ℕ} {code : ℕ} {given after : List ℕ} (h : Answered head file stored room filled expected code given after) where
  compared : {x y z : Bool} → x ≡ agree (take 1 (drop answer_at head)) (code ∷ []) → y ≡ agree (take answer_length (drop answer_at head)) given → z ≡ agree expected after
      → (x && y && z) ≡ replays head file stored room
  unfolding replays
  compared p q r = rw (p, q, r, h.code_is, h.given_is, h.after_is, h.expected_is, h.filled_is) refl

  pub returned_differs : {x : Bool} → x ≡ agree (take 1 (drop answer_at head)) (code ∷ []) → x ≡ false → false ≡ replays head file stored room
  returned_differs {x} p e = ap (λ (b : Bool). b && agree (take answer_length (drop answer_at head)) given && agree expected after) (sym e) ∙ compared p refl refl

  pub answer_differs : {x y : Bool} → x ≡ agree (take 1 (drop answer_at head)) (code ∷ []) → x ≡ true → y ≡ agree (take answer_length (drop answer_at head)) given → y ≡ false
      → false ≡ replays head file stored room
  answer_differs {x} {y} p e q f = ap (λ (b : Bool). b && false && agree expected after) (sym e) ∙ ap (λ (b : Bool). x && b && agree expected after) (sym f) ∙ compared p q refl

  pub buffer_compared : {x y z : Bool} → x ≡ agree (take 1 (drop answer_at head)) (code ∷ []) → x ≡ true → y ≡ agree (take answer_length (drop answer_at head)) given → y ≡ true
      → z ≡ agree expected after → z ≡ replays head file stored room
  buffer_compared {x} {y} {z} p e q f r = ap (λ (b : Bool). b && true && z) (sym e) ∙ ap (λ (b : Bool). x && b && z) (sym f) ∙ compared p q r
