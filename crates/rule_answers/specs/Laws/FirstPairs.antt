-- After every pair of numbers there is a first pair of rules that overlap, or none: every call has an answer. Assumes nothing.
use Rattle.rule_answers.specs.OverlapAnswer.{no_further, overlap_refuses, OverlapAnswer}
use Rattle.std.specs.Prelude.{ℕ, zero, suc, ◌+◌, ◌≤◌, ◌<◌, ◌≡◌, refl, ◌⊎◌, Bool, true, false, List, length, replicate, T}
use Rattle.std.proofs.Common.{sym, subst, inl, inr, ⊎_elim, arith, lt_of_not-le}
use Rattle.std.proofs.Math.Decide.{dec_le}
use Rattle.std.proofs.lemmas.List.{length-replicate}
use Rattle.rows.specs.declared.answer.TypeNameError.TheVariants.{InvalidRuleTable}
use Rattle.text.specs.Text.{handed}
use Rattle.rules.specs.Rules.{Rule, good_items}
use Rattle.rules.specs.RuleTable.{TableFound, no_table, a_table, table_of}
use Rattle.rules.specs.Overlaps.{longest_shown, rule, After, Pair, FirstAfter}
use Rattle.rules.specs.Meeting.{rules_meet}
use Rattle.rules.specs.Laws.Overlaps.{overlap_found, overlap_meets}
use Rattle.rule_answers.specs.OverlapAnswers.{shown_bytes, Reports, OverlapSays, OverlapTold}
use Rattle.rule_answers.specs.OverlapWalks.{CallsAnswered}
use Rattle.rule_answers.specs.OverlapSays.{pair_answer}
use Rattle.rule_answers.specs.Laws.Overlaps.{items_good, pair_reports}

-- The pair (i, j) is not before (e, from).
abbrev From : (e from i j : ℕ) → Type 0
From e from i j = (e < i) ⊎ ((e ≡ i) × (from ≤ j))

-- The first pair of rules from (e, from) on, or that there is none.
data Searched (rs : List Rule) (e from : ℕ) : Type 0 where
  first : (i j : ℕ) → Pair rs i j → From e from i j → ((i' j' : ℕ) → Pair rs i' j' → From e from i' j' → From i j i' j') → Searched rs e from
  none : ((i j : ℕ) → Pair rs i j → From e from i j → ⊥) → Searched rs e from

-- Where no pair is between two places, the search from the one is the search from the other.
passed_over : {rs : List Rule} {e from e' from' : ℕ} → ((i j : ℕ) → From e' from' i j → From e from i j) → ((i j : ℕ) → Pair rs i j → From e from i j → From e' from' i j)
    → Searched rs e' from' → Searched rs e from
passed_over back on (first i j p f least) = first i j p (back i j f) (λ i' j' p' f'. least i' j' p' (on i' j' p' f'))
passed_over back on (none n) = none (λ i j p f. n i j p (on i j p f))

module _ (rs : List Rule) (good : (k : ℕ) → k < length rs → T (good_items (rule rs k).items)) where
  is_pair : (i j : ℕ) → Pair rs i j ⊎ (Pair rs i j → ⊥)
  is_pair i j = elim (dec_le j i) [
    | yes p ↦ inr (λ pr. absurd (omega (arith, pr.in_order)))
    | no p ↦ elim (dec_le (length rs) j) [
      | yes q ↦ inr (λ pr. absurd (omega (arith, pr.in_table)))
      | no q ↦ by (lt_of_not-le p) (lt_of_not-le q) (rules_meet (rule rs i) (rule rs j)) refl
    ]
  ]
    where
      by : i < j → j < length rs → (b : Bool) → rules_meet (rule rs i) (rule rs j) ≡ b → Pair rs i j ⊎ (Pair rs i j → ⊥)
      by p q true e = inl (record { in_order = p; in_table = q; overlap = overlap_found (rule rs i) (rule rs j) (good i (omega arith)) (good j q) (subst T (sym e) tt) })
      by p q false e = inr (λ pr. subst T e (overlap_meets (rule rs i) (rule rs j) pr.overlap))

  search_later : (b e from : ℕ) → length rs ≤ from + b → Searched rs (suc e) 0 → Searched rs e from
  search_later zero e from h s =
      passed_over (λ i j f. inl (⊎_elim (λ p. omega arith) (λ p. omega (arith, p.0)) f)) (λ i j pr f. ⊎_elim (λ p. later i j p) (λ p. absurd (omega (arith, h, p.1, pr.in_table))) f) s
    where
      later : (i j : ℕ) → e < i → From (suc e) 0 i j
      later i j p = elim (dec_le i (suc e)) [ yes q ↦ inr (omega arith, omega arith) | no q ↦ inl (lt_of_not-le q) ]
  search_later (suc b) e from h s =
      ⊎_elim (λ pr. first e from pr (inr (refl, omega arith)) (λ i j p f. f))
      (λ no_pair. passed_over (λ i j f. ⊎_elim (λ p. inl p) (λ p. inr (p.0, omega (arith, p.1))) f) (λ i j pr f. ⊎_elim (λ p. inl p) (λ p. inr (p.0, behind no_pair i j pr p.0 p.1)) f) (search_later b e (from + 1) (omega arith) s))
      (is_pair e from)
    where
      behind : (Pair rs e from → ⊥) → (i j : ℕ) → Pair rs i j → e ≡ i → from ≤ j → from + 1 ≤ j
      behind no_pair i j pr p q = elim (dec_le (from + 1) j) [
        | yes r ↦ r
        | no r ↦
            let here : j ≡ from = omega (arith, lt_of_not-le r) in
            absurd (no_pair (subst (λ (n : ℕ). Pair rs e n) here (subst (λ (m : ℕ). Pair rs m j) (sym p) pr)))
      ]

  search_earlier : (a e from : ℕ) → length rs ≤ e + a → Searched rs e from
  search_earlier zero e from h =
      none (λ i j pr f. ⊎_elim (λ p. absurd (omega (arith, pr.in_order, pr.in_table))) (λ p. absurd (omega (arith, p.0, pr.in_order, pr.in_table))) f)
  search_earlier (suc a) e from h = search_later (length rs) e from (omega arith) (search_earlier a (suc e) 0 (omega arith))

  some_report : (e l : ℕ) (before : List ℕ) → (a : OverlapAnswer) × (after : List ℕ) × Reports rs e l before a after
  some_report e l before = by (search_earlier (length rs) e (l + 1) (omega arith))
    where
      behind : (i j : ℕ) → After e l i j → From e (l + 1) i j
      behind i j = ⊎_elim (λ p. inl p) (λ p. inr (p.0, omega (arith, p.1)))

      after : (i j : ℕ) → From e (l + 1) i j → After e l i j
      after i j = ⊎_elim (λ p. inl p) (λ p. inr (p.0, omega (arith, p.1)))

      by : Searched rs e (l + 1) → (a : OverlapAnswer) × (final : List ℕ) × Reports rs e l before a final
      by (first i j p f least) =
          let one : FirstAfter rs e l i j = record { pair = p; after = after i j f; first = λ i' j' p' f'. least i' j' p' (behind i' j' f') } in
          (pair_answer i j (shown_bytes rs i j) before, handed (shown_bytes rs i j) before, pair_reports one (record { answered = refl; shows = refl }))
      by (none n) = (no_further, before, ((λ i j p f. n i j p (behind i j f)), refl))

-- Every call has an answer.
pub some_answer : (rules : List ℕ) (e l : ℕ) (before : List ℕ) → (a : OverlapAnswer) × (after : List ℕ) × OverlapTold rules e l before a after
some_answer rules e l before = by (table_of rules) refl
  where
    by : (x : TableFound) → table_of rules ≡ x → (a : OverlapAnswer) × (after : List ℕ) × OverlapTold rules e l before a after
    by no_table q = (overlap_refuses InvalidRuleTable, before, record { says = subst (λ (x : TableFound). OverlapSays x e l before (overlap_refuses InvalidRuleTable) before) (sym q) (refl, refl) })
    by (a_table rs) q =
        let s = some_report rs (items_good rules q) e l before in
        (s.0, s.1, record { says = subst (λ (x : TableFound). OverlapSays x e l before s.0 s.1) (sym q) s.2 })

-- So all calls that a walk makes can be answered.
pub calls_answered : (rules : List ℕ) → CallsAnswered rules
calls_answered rules =
    let zeros : List ℕ = replicate longest_shown 0 in
    record {
      lent = λ e l. zeros;
      room = λ e l. omega (arith, length-replicate {A = ℕ} longest_shown 0);
      answer = λ e l. (some_answer rules e l zeros).0;
      final = λ e l. (some_answer rules e l zeros).1;
      told = λ e l p q. (some_answer rules e l zeros).2;
    }
