-- What every entry accepts under a standard, it accepts under a later one of the language, with the same tree and steps.
-- Assumes nothing.
use Rattle.std.specs.Prelude.{ℕ, ◌-◌, ◌≤◌, ◌≡◌}
use Rattle.std.proofs.Math.Path.{refl, ap, subst}
use Rattle.std.proofs.Common.{◌∙◌, arith}
use mathlib.Core.List.{List, [], ◌∷◌}
use Rattle.rows.specs.Format.{SameOrLater}
use Rattle.rows.specs.Records.{RowToken, kinds_of, words_of}
use Rattle.rows.specs.declared.answer.TypeNameError.{TypeNameError}
use Rattle.reader.specs.Nodes.{Nodes}
use Rattle.type_name.specs.Answers.{RowAnswer, accepted, refused, row_steps, answer_of}
use Rattle.type_name.specs.Laws.AcceptedRow.{RowComes, row_comes, row_stable}
use Rattle.rules.specs.RuleTable.{TableFound, no_table, a_table}
use Rattle.rule_answers.specs.MatchAnswers.{RuleAnswer, matched, with_winner, by_table}
use Rattle.rule_answers.specs.MatchAnswers
use Rattle.type_list.specs.ListAnswers.{PartsAnswer, behind, on_part, parts_answer}
use Rattle.type_list.specs.ListAnswers
use Rattle.type_list.specs.Laws.PartAnswers.{steps_allowed}

module _ (language standard standard' flag : ℕ) (later : SameOrLater standard standard') where
  -- ---- a row

  pub row_later : (kinds words : List ℕ) (allowance : ℕ) {x : Nodes} {m : ℕ} → answer_of language standard flag kinds words allowance ≡ accepted x m
      → answer_of language standard' flag kinds words allowance ≡ accepted x m
  unfolding row_steps
  row_later kinds words allowance {x} {m} e =
      let enough : m ≤ allowance = subst (λ (a : RowAnswer). row_steps a ≤ allowance) e (steps_allowed language standard flag kinds words allowance) in
      row_stable language standard standard' flag kinds words allowance x m (subst (RowComes language standard flag kinds words) e (row_comes language standard flag kinds words allowance)) later enough

  -- ---- a row and a rule table

  not_matched : {e : TypeNameError} {x : Nodes} {m n place : ℕ} → MatchAnswers.refused e n ≡ matched x m place → ⊥
  not_matched q = let z : ◌≡◌ {A = ℕ} 0 1 = ap which q in omega (arith, z)
    where
      which : RuleAnswer → ℕ
      which (MatchAnswers.refused e n) = 0
      which (matched x m place) = 1

  pub match_later : (found : TableFound) (ts : List RowToken) (allowance : ℕ) {x : Nodes} {m place : ℕ}
      → by_table found ts (answer_of language standard flag (kinds_of ts) (words_of ts) allowance) ≡ matched x m place
      → by_table found ts (answer_of language standard' flag (kinds_of ts) (words_of ts) allowance) ≡ matched x m place
  unfolding by_table with_winner
  match_later no_table ts allowance e = absurd (not_matched e)
  match_later (a_table rs) ts allowance {x} {m} {place} e = by (answer_of language standard flag (kinds_of ts) (words_of ts) allowance) refl e
    where
      by : (a : RowAnswer) → answer_of language standard flag (kinds_of ts) (words_of ts) allowance ≡ a → with_winner rs ts a ≡ matched x m place
          → with_winner rs ts (answer_of language standard' flag (kinds_of ts) (words_of ts) allowance) ≡ matched x m place
      by (accepted y n) p q = ap (with_winner rs ts) (row_later (kinds_of ts) (words_of ts) allowance p) ∙ q
      by (refused f n) p q = absurd (not_matched q)

  -- ---- the parts of a row

  not_accepted : {e : TypeNameError} {xs : List Nodes} {m n part : ℕ} → ListAnswers.refused e n part ≡ ListAnswers.accepted xs m → ⊥
  not_accepted q = let z : ◌≡◌ {A = ℕ} 0 1 = ap which q in omega (arith, z)
    where
      which : PartsAnswer → ℕ
      which (ListAnswers.refused e n part) = 0
      which (ListAnswers.accepted xs m) = 1

  -- Of the parts behind one that took n steps.
  abbrev Others : (ps : List (List RowToken)) (allowance : ℕ) → Type 0
  Others ps allowance = (n : ℕ) (ys : List Nodes) (k : ℕ) → parts_answer language standard flag ps (allowance - n) ≡ ListAnswers.accepted ys k
      → parts_answer language standard' flag ps (allowance - n) ≡ ListAnswers.accepted ys k

  pub parts_later : (ps : List (List RowToken)) (allowance : ℕ) {xs : List Nodes} {m : ℕ} → parts_answer language standard flag ps allowance ≡ ListAnswers.accepted xs m
      → parts_answer language standard' flag ps allowance ≡ ListAnswers.accepted xs m
  unfolding parts_answer on_part behind
  parts_later [] allowance e = e
  parts_later (p ∷ ps) allowance {xs} {m} e =
      by_first (λ n ys k q. parts_later ps (allowance - n) q) (answer_of language standard flag (kinds_of p) (words_of p) allowance) refl e
    where
      by_others : Others ps allowance → (x : Nodes) (n : ℕ) (a : PartsAnswer) → parts_answer language standard flag ps (allowance - n) ≡ a → behind x n a ≡ ListAnswers.accepted xs m
          → behind x n (parts_answer language standard' flag ps (allowance - n)) ≡ ListAnswers.accepted xs m
      by_others others x n (ListAnswers.accepted ys k) q r = ap (behind x n) (others n ys k q) ∙ r
      by_others others x n (ListAnswers.refused f k part) q r = absurd (not_accepted r)

      by_first : Others ps allowance → (a : RowAnswer) → answer_of language standard flag (kinds_of p) (words_of p) allowance ≡ a
          → on_part a (λ n. parts_answer language standard flag ps (allowance - n)) ≡ ListAnswers.accepted xs m
          → on_part (answer_of language standard' flag (kinds_of p) (words_of p) allowance) (λ n. parts_answer language standard' flag ps (allowance - n)) ≡ ListAnswers.accepted xs m
      by_first others (accepted x n) q r =
          ap (λ (a : RowAnswer). on_part a (λ k. parts_answer language standard' flag ps (allowance - k))) (row_later (kinds_of p) (words_of p) allowance q)
          ∙ by_others others x n (parts_answer language standard flag ps (allowance - n)) refl r
      by_first others (refused f n) q r = absurd (not_accepted r)
