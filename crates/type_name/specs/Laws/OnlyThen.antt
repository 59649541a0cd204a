-- "25 step count would pass the allowance, and only then": where 25 is answered, the row's steps pass the file's allowance.
-- Assumes nothing.
use Rattle.rows.specs.Answer.{refused_with}
use Rattle.std.specs.Prelude.{ℕ, ◌<◌, ◌≡◌, List, leb, Ok}
use Rattle.std.proofs.Common.{sym, inl, inr, arith}
use Rattle.std.proofs.Math.Path.{ap}
use Rattle.std.proofs.Math.Dec.{nleb→lt}
use Rattle.rows.specs.Format.{format, head_length, most_tokens}
use Rattle.rows.specs.Records.{RowToken, row, head, records_from, kinds_of, words_of}
use Rattle.rows.specs.Refusals.{refusal_of}
use Rattle.rows.specs.Laws.Tests.{by_if}
use Rattle.rows.specs.declared.answer.TypeNameError.TheVariants.{AllowancePassed}
use Rattle.rows.specs.declared.head.Head.{Head}
use Rattle.type_name.specs.FileRow.{HeadRow, Outcome, untouched, passes, on_pass, file_row}
use Rattle.type_name.specs.Answers.{RowAnswer, accepted, refused, unlimited, row_steps, answer_within, answer_of, row_answer, outcome, answer_in, answer}
use Rattle.type_name.specs.Laws.Fields.{number_in, steps_in, bounds}
use Rattle.type_name.specs.Laws.FileRow.{Comes, file_comes}
use Rattle.type_name.specs.Laws.Total.{Unspent, unlimited_unspent}

-- The file holds a row whose steps, counted without an allowance, pass the file's; and these steps are the allowance.
pub record Spent (file : List ℕ) (steps : ℕ) : Type 0 where
  pub head_of : Head
  pub formed : head format file ≡ Ok head_of
  pub tokens : List RowToken
  pub row_read : records_from format file most_tokens head_length ≡ row tokens
  pub passes : head_of.allowance < row_steps (unlimited head_of.language head_of.standard head_of.flag (kinds_of tokens) (words_of tokens))
  pub is_allowance : steps ≡ head_of.allowance

-- An answer of 25 with these steps.
abbrev Is25 : Outcome RowAnswer → (steps : ℕ) → Type 0
Is25 o m = answer_in o ≡ refused_with AllowancePassed m

-- No other refusal is 25.
other : (a : RowAnswer) → Unspent a → (m : ℕ) → Is25 (passes a) m → ⊥
unfolding answer_in
other (accepted x n) u m q = let clash : ◌≡◌ {A = ℕ} 0 25 = ap number_in q in omega (arith, clash)
other (refused e n) (inl b) m q = let is : (refusal_of e).number ≡ 25 = ap number_in q in omega (arith, bounds 10 23 e b, is)
other (refused e n) (inr b) m q = let is : (refusal_of e).number ≡ 25 = ap number_in q in omega (arith, bounds 30 40 e b, is)

-- An allowance that does not suffice.
passed : (allowance : ℕ) (a : RowAnswer) → Unspent a → (m : ℕ) → Is25 (passes (answer_within allowance a)) m → (allowance < row_steps a) × (m ≡ allowance)
unfolding answer_within answer_in
passed allowance a u m =
    by_if (λ (b : RowAnswer). Is25 (passes b) m → (allowance < row_steps a) × (m ≡ allowance)) (leb (row_steps a) allowance)
    (λ _ q. absurd (other a u m q))
    (λ t q. (nleb→lt (row_steps a) allowance t, sym (ap steps_in q)))

module _ (file : List ℕ) (room m : ℕ) where
  row_spent : (o : Outcome HeadRow) → Comes file room o → Is25 (on_pass o λ r. passes (row_answer r)) m → Spent file m
  unfolding on_pass row_answer answer_of answer_in
  row_spent (untouched e) c q = let number : (refusal_of e).number ≡ 25 = ap number_in q in absurd (omega (arith, bounds 1 6 e c, number))
  row_spent (passes r) c q =
      let h : Head = r.the_head in
      let p = passed h.allowance (unlimited h.language h.standard h.flag (kinds_of r.tokens) (words_of r.tokens))
      (unlimited_unspent h.language h.standard h.flag (kinds_of r.tokens) (words_of r.tokens)) m q in
      record { head_of = h; formed = c.formed; tokens = r.tokens; row_read = c.row_is; passes = p.0; is_allowance = p.1 }

  pub only_then : answer file room ≡ refused_with AllowancePassed m → Spent file m
  unfolding answer outcome
  only_then q = row_spent (file_row format file room) (file_comes file room) q
