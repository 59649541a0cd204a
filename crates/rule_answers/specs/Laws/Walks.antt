-- The calls one after the other report exactly the pairs of rules that overlap, in order, each once, and they end. Assumes nothing.
use Rattle.rule_answers.specs.OverlapAnswer.{OverlapAnswer}
use Rattle.std.specs.Prelude.{ℕ, zero, suc, ◌+◌, ◌≤◌, ◌<◌, ◌^◌, ◌≡◌, ◌↔◌, List, [], ◌∷◌, length, Err, None, Ok, Some}
use Rattle.std.proofs.Common.{⊎_elim, arith}
use Rattle.rules.specs.Rules.{Rule}
use Rattle.rules.specs.RuleTable.{a_table, table_of}
use Rattle.rules.specs.Overlaps.{Pair, FirstAfter, Places, Walk, ends as walk_ends, goes as walk_goes}
use Rattle.rules.specs.Laws.Walks.{Reported, InOrder, reported_overlaps, overlaps_reported, after_start}
use Rattle.rules.specs.Laws.Walks as Walks
use Rattle.rule_answers.specs.OverlapAnswers.{OverlapTold}
use Rattle.rule_answers.specs.OverlapWalks.{Calls, ends, goes, CallsAnswered}
use Rattle.rule_answers.specs.Laws.Tables.{rules_there}
use Rattle.rule_answers.specs.Laws.Overlaps.{first_reported, none_left, enough}

module _ (rules : List ℕ) {rs : List Rule} (is : table_of rules ≡ a_table rs) where
  pub calls_walk : {e l : ℕ} {ps : List Places} → Calls rules e l ps → Walk rs e l ps
  calls_walk (ends h) = walk_ends (none_left rules is h)
  calls_walk (goes h c) = walk_goes (first_reported rules is h) (calls_walk c)

  -- From (0, 0) on a pair is reported exactly if it overlaps;
  pub reported_exactly : {ps : List Places} → Calls rules 0 0 ps → (i j : ℕ) → Reported i j ps ↔ Pair rs i j
  reported_exactly c i j = ((λ r. (reported_overlaps (calls_walk c) r).0), (λ p. overlaps_reported (calls_walk c) p (after_start p)))

  -- each comes after the one before.
  pub in_order : {e l : ℕ} {ps : List Places} → Calls rules e l ps → InOrder e l ps
  in_order c = Walks.in_order (calls_walk c)

  -- ---- the calls end

  module _ (w : CallsAnswered rules) where
    abbrev Ended : (e l : ℕ) → Type 0
    Ended e l = (ps : List Places) × Calls rules e l ps

    -- One call; the others after it.
    one_call : (e l : ℕ) → e < 2 ^ 32 → l < 2 ^ 32 → ((i j : ℕ) → i < 2 ^ 32 → j < 2 ^ 32 → FirstAfter rs e l i j → Ended i j) → Ended e l
    one_call e l p q later = by (w.answer e l) (w.told e l p q)
      where
        by : (a : OverlapAnswer) → OverlapTold rules e l (w.lent e l) a (w.final e l) → Ended e l
        by (Ok (Some o)) h =
            let f = first_reported rules is h in
            let few = (rules_there rules is).few in
            let c = later o.earlier o.later (omega (arith, f.pair.in_order, f.pair.in_table, few)) (omega (arith, f.pair.in_table, few)) f in
            (record { earlier = o.earlier; later = o.later } ∷ c.0, goes h c.1)
        by (Ok None) h = ([], ends h)
        by (Err error) h = absurd (enough rules is (w.room e l) h)

    -- By the places behind the later one, where all pairs of a later earlier place are known to end;
    by_later : (a : ℕ) → ((e l : ℕ) → e < 2 ^ 32 → l < 2 ^ 32 → length rs ≤ e + a → Ended e l)
        → (b e l : ℕ) → e < 2 ^ 32 → l < 2 ^ 32 → length rs ≤ e + suc a → length rs ≤ l + b → Ended e l
    by_later a outer zero e l p q h k =
        one_call e l p q (λ i j p' q' f. ⊎_elim (λ less. outer i j p' q' (omega arith)) (λ s. absurd (omega (arith, k, s.1, f.pair.in_table))) f.after)
    by_later a outer (suc b) e l p q h k =
        one_call e l p q (λ i j p' q' f. ⊎_elim (λ less. outer i j p' q' (omega arith)) (λ s. by_later a outer b i j p' q' (omega (arith, s.0)) (omega (arith, s.1))) f.after)

    -- by the places behind the earlier one.
    by_earlier : (a e l : ℕ) → e < 2 ^ 32 → l < 2 ^ 32 → length rs ≤ e + a → Ended e l
    by_earlier zero e l p q h =
        one_call e l p q (λ i j p' q' f. ⊎_elim (λ less. absurd (omega (arith, f.pair.in_order, f.pair.in_table))) (λ s. absurd (omega (arith, s.0, f.pair.in_order, f.pair.in_table))) f.after)
    by_earlier (suc a) e l p q h = by_later a (by_earlier a) (length rs) e l p q h (omega arith)

    pub calls_end : (e l : ℕ) → e < 2 ^ 32 → l < 2 ^ 32 → (ps : List Places) × Calls rules e l ps
    calls_end e l p q = by_earlier (length rs) e l p q (omega arith)
