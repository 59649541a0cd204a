-- The answer to one call for a pair of rules that overlap. Assumes nothing.
use Rattle.rules.specs.declared.pairs.PairPlaces.{PairPlaces}
use Rattle.rules.specs.TableStands.{pair}
use Rattle.rule_answers.specs.OverlapAnswer.{overlaps, no_further, overlap_refuses, OverlapAnswer}
use Rattle.std.specs.Prelude.{ℕ, ◌+◌, ◌≤◌, ◌<◌, ◌≡◌, ◌⊎◌, ◌↔◌, Bool, true, List, ◌++◌, map, length, get_or, take, T, Err, None, Ok, Option, Some}
use Rattle.std.proofs.Math.Path.{refl, ap, subst}
use Rattle.std.proofs.Common.{sym, ◌∙◌, inl, inr, arith, take_at, drop_at, le-leb}
use Rattle.std.proofs.Math.Bool.{false}
use Rattle.std.proofs.Math.Decide.{dec_le}
use Rattle.std.proofs.Math.Nat.{lt_of_not-le}
use Rattle.std.proofs.Math.ListN.{drop, length-map}
use Rattle.std.proofs.lemmas.Bool.{lt-leb}
use Rattle.rows.specs.declared.answer.TypeNameError.{TypeNameError}
use Rattle.rows.specs.declared.answer.TypeNameError.TheVariants.{InvalidRuleTable, ShortBuffer}
use Rattle.text.specs.Text.{Appended, fits, handed}
use Rattle.rules.specs.Rules.{Node, Rule, good_nodes, good_items, matches}
use Rattle.rules.specs.RuleTable.{TableFound, no_table, a_table, at_items, table_of}
use Rattle.rules.specs.Overlaps.{shown, items_bytes, longest_shown, rule, Pair, FirstAfter, NoneAfter}
use Rattle.rules.specs.ItemsStand.{OfRules}
use Rattle.rules.specs.TableStands.{RulesRead, OfTable, PairTold}
use Rattle.rules.specs.Laws.Overlaps.{node_of, takes_nodes, nodes_good, shown_good, overlap_meets, none_shorter, exactly_shown}
use Rattle.rules.specs.Laws.Meeting.{items_there}
use Rattle.rules.specs.Laws.Pairs.{stand_good, of_table, stands_at}
use Rattle.rules.specs.Laws.Showing.{shown_bound}
use Rattle.rule_answers.specs.OverlapAnswers.{shown_items, shown_bytes, TooShort, Reports, OverlapSays, OverlapTold}
use Rattle.rule_answers.specs.OverlapWalks.{NextPair}
use Rattle.rule_answers.specs.OverlapSays.{PairShown}
use Rattle.rule_answers.specs.Laws.Tables.{rules_there}

-- ---- the rules at two places are shown

module _ {rs : List Rule} {before after : List ℕ} {i j : ℕ} where
  pub pair_fits : {n : ℕ} → n ≡ length (shown_bytes rs i j) → n ≤ length before → after ≡ shown_bytes rs i j ++ drop n before → PairShown rs i j before (overlaps i j n) after
  unfolding fits handed
  pair_fits {n} e p h = record {
    answered = rw (le-leb (length (shown_bytes rs i j)) (length before) (omega arith)) (ap (λ (m : ℕ). overlaps i j m) e);
    shows = rw (le-leb (length (shown_bytes rs i j)) (length before) (omega arith)) (h ∙ ap (λ (m : ℕ). shown_bytes rs i j ++ drop m before) e);
  }

  pub pair_short : length before < length (shown_bytes rs i j) → after ≡ before → PairShown rs i j before (overlap_refuses ShortBuffer) after
  unfolding fits handed
  pair_short p h = record {
    answered = rw (lt-leb (length (shown_bytes rs i j)) (length before) p) refl;
    shows = rw (lt-leb (length (shown_bytes rs i j)) (length before) p) h;
  }

one_shown : {rs : List Rule} {i j : ℕ} {before after after' : List ℕ} {a a' : OverlapAnswer} → PairShown rs i j before a after → PairShown rs i j before a' after'
    → (a ≡ a') × (after ≡ after')
one_shown s s' = (s.answered ∙ sym s'.answered, s.shows ∙ sym s'.shows)

module _ (table : List ℕ) {count : ℕ} {starts : List ℕ} (t : RulesRead table count starts) (i j : ℕ) (p : i < count) (q : j < count) where
  -- What was put is what is shown for the rules at the two places.
  module _ {zeros now : List ℕ} {n : ℕ}
      (o : OfRules table (get_or starts (i + 1) 0) (get_or starts i 0 + at_items) (get_or starts (j + 1) 0) (get_or starts j 0 + at_items)
      (λ r s. Appended zeros 0 (items_bytes (shown r.items s.items)) n now)) where
    put : Appended zeros 0 (shown_bytes t.rules i j) n now
    unfolding shown_bytes
    put = o.says _ _ (stands_at table t i p) (stands_at table t j q)

    pub put_few : n ≤ longest_shown
    unfolding shown_bytes
    put_few = omega (arith, put.counts, shown_bound table (stands_at table t i p) (stands_at table t j q))

    module _ (before : List ℕ) {after : List ℕ} {b : Bool} (f : b ≡ fits (take n now) before) (h : after ≡ handed (take n now) before) where
      shown_fits : fits (shown_bytes t.rules i j) before ≡ b
      shown_fits = ap (λ (l : List ℕ). fits l before) (sym put.says) ∙ sym f

      shown_handed : after ≡ handed (shown_bytes t.rules i j) before
      shown_handed = h ∙ ap (λ (l : List ℕ). handed l before) put.says

      pub pair_handed : b ≡ true → OfTable table (λ rs. PairShown rs i j before (overlaps i j n) after)
      pair_handed e = of_table table t {P = λ rs. PairShown rs i j before (overlaps i j n) after} (record {
        answered = rw (shown_fits, e) (ap (λ (m : ℕ). overlaps i j m) (omega (arith, put.counts)));
        shows = shown_handed;
      })

      pub pair_refused : b ≡ false → OfTable table (λ rs. PairShown rs i j before (overlap_refuses ShortBuffer) after)
      pair_refused e = of_table table t {P = λ rs. PairShown rs i j before (overlap_refuses ShortBuffer) after} (record {
        answered = rw (shown_fits, e) refl;
        shows = shown_handed;
      })

-- ---- from the first pair to the answer, and back

-- There is one first pair.
one_first : {rs : List Rule} {e l i j i' j' : ℕ} → FirstAfter rs e l i j → FirstAfter rs e l i' j' → (i ≡ i') × (j ≡ j')
one_first {i = i} {j} {i'} {j'} f g = both (f.first i' j' g.pair g.after) (g.first i j f.pair f.after)
  where
    both : (i < i') ⊎ ((i ≡ i') × (j ≤ j')) → (i' < i) ⊎ ((i' ≡ i) × (j' ≤ j)) → (i ≡ i') × (j ≡ j')
    both (inl p) (inl q) = absurd (omega arith)
    both (inl p) (inr q) = absurd (omega (arith, q.0))
    both (inr p) (inl q) = absurd (omega (arith, p.0))
    both (inr p) (inr q) = (p.0, omega (arith, p.1, q.1))

module _ {rs : List Rule} {e l i j : ℕ} (f : FirstAfter rs e l i j) where
  pub pair_reports : {before after : List ℕ} {a : OverlapAnswer} → PairShown rs i j before a after → Reports rs e l before a after
  unfolding fits handed
  pair_reports {before} {after} {a} s = elim (dec_le (length (shown_bytes rs i j)) (length before)) [
    | yes p ↦
        let said : a ≡ overlaps i j (length (shown_bytes rs i j)) = s.answered ∙ rw (le-leb (length (shown_bytes rs i j)) (length before) p) refl in
        let held : after ≡ shown_bytes rs i j ++ drop (length (shown_bytes rs i j)) before = s.shows ∙ rw (le-leb (length (shown_bytes rs i j)) (length before) p) refl in
        subst (λ (x : OverlapAnswer). Reports rs e l before x after) (sym said) (f, refl, p, held)
    | no n ↦
        let short = lt_of_not-le n in
        let said : a ≡ overlap_refuses ShortBuffer = s.answered ∙ rw (lt-leb (length (shown_bytes rs i j)) (length before) short) refl in
        let held : after ≡ before = s.shows ∙ rw (lt-leb (length (shown_bytes rs i j)) (length before) short) refl in
        subst (λ (x : OverlapAnswer). Reports rs e l before x after) (sym said) (refl, record { earlier = i; later = j; first = f; short = short }, held)
  ]

  moved : {i' j' : ℕ} {before after : List ℕ} {a : OverlapAnswer} → (i' ≡ i) × (j' ≡ j) → PairShown rs i' j' before a after → PairShown rs i j before a after
  moved {j' = j'} {before} {after} {a} same s =
      subst (λ (n : ℕ). PairShown rs i n before a after) same.1 (subst (λ (m : ℕ). PairShown rs m j' before a after) same.0 s)

  pub reports_pair : (a : OverlapAnswer) {before after : List ℕ} → Reports rs e l before a after → PairShown rs i j before a after
  reports_pair (Ok (Some o)) h = moved (one_first h.0 f) (pair_fits h.1 h.2 h.3)
  reports_pair (Ok None) h = absurd (h.0 i j f.pair f.after)
  reports_pair (Err error) {before} {after} h =
      subst (λ (x : TypeNameError). PairShown rs i j before (overlap_refuses x) after) (sym h.0) (moved (one_first h.1.first f) (pair_short h.1.short h.2))

module _ (rs : List Rule) (e l : ℕ) where
  reports_none : NoneAfter rs e l → (a : OverlapAnswer) {before after : List ℕ} → Reports rs e l before a after → (a ≡ no_further) × (after ≡ before)
  reports_none none (Ok (Some o)) h = absurd (none o.earlier o.later h.0.pair h.0.after)
  reports_none none (Ok None) h = (refl, h.1)
  reports_none none (Err error) h = absurd (none _ _ h.1.first.pair h.1.first.after)

  one_report : (a a' : OverlapAnswer) (before : List ℕ) {after after' : List ℕ} → Reports rs e l before a after → Reports rs e l before a' after'
      → (a ≡ a') × (after ≡ after')
  one_report (Ok (Some o)) a' before h h' = one_shown (reports_pair h.0 (overlaps o.earlier o.later o.bytes) h) (reports_pair h.0 a' h')
  one_report (Ok None) a' before h h' = let u = reports_none h.0 a' h' in (sym u.0, h.1 ∙ sym u.1)
  one_report (Err error) a' before h h' = one_shown (reports_pair h.1.first (overlap_refuses error) h) (reports_pair h.1.first a' h')

-- ---- what the code found

pub malformed_told : {rules : List ℕ} {e l : ℕ} {before : List ℕ} → table_of rules ≡ no_table → OverlapTold rules e l before (overlap_refuses InvalidRuleTable) before
malformed_told {e = e} {l} {before} none =
    record { says = subst (λ (x : TableFound). OverlapSays x e l before (overlap_refuses InvalidRuleTable) before) (sym none) (refl, refl) }

told_of : {rules : List ℕ} {rs : List Rule} {e l : ℕ} {before after : List ℕ} {a : OverlapAnswer} → table_of rules ≡ a_table rs → Reports rs e l before a after
    → OverlapTold rules e l before a after
told_of {e = e} {l} {before} {after} {a} is h = record { says = subst (λ (x : TableFound). OverlapSays x e l before a after) (sym is) h }

module _ {rules : List ℕ} {count : ℕ} {starts : List ℕ} (t : RulesRead rules count starts) (e l : ℕ) (found : Option PairPlaces) (o : OfTable rules (λ rs. PairTold rs e l found)) where
  pub none_further : {before : List ℕ} → found ≡ None → OverlapTold rules e l before no_further before
  none_further q = told_of t.is (subst (PairTold t.rules e l) q (o.says t.rules t.is), refl)

  module _ {i j : ℕ} (q : found ≡ pair i j) where
    first_pair : FirstAfter t.rules e l i j
    first_pair = subst (PairTold t.rules e l) q (o.says t.rules t.is)

    pub pair_inside : (i < count) × (j < count)
    pair_inside = let p = first_pair.pair in (omega (arith, p.in_order, p.in_table, t.counted), omega (arith, p.in_table, t.counted))

    pub pair_told : {a : OverlapAnswer} {before after : List ℕ} → OfTable rules (λ rs. PairShown rs i j before a after) → OverlapTold rules e l before a after
    pair_told s = told_of t.is (pair_reports first_pair (s.says t.rules t.is))

-- ---- theorems

-- There is one answer and one final buffer.
pub one_answer : {rules : List ℕ} {e l : ℕ} {before after after' : List ℕ} {a a' : OverlapAnswer} → OverlapTold rules e l before a after
    → OverlapTold rules e l before a' after' → (a ≡ a') × (after ≡ after')
one_answer {rules} {e} {l} {before} {after} {after'} {a} {a'} h h' = by (table_of rules) h.says h'.says
  where
    by : (x : TableFound) → OverlapSays x e l before a after → OverlapSays x e l before a' after' → (a ≡ a') × (after ≡ after')
    by no_table u v = (u.0 ∙ sym v.0, u.1 ∙ sym v.1)
    by (a_table rs) u v = one_report rs e l a a' before u v

-- No refusal touches the buffer, and nor does the answer that there is no further pair.
pub refused_untouched : {rules : List ℕ} {e l : ℕ} {before after : List ℕ} {error : TypeNameError} → OverlapTold rules e l before (overlap_refuses error) after → after ≡ before
refused_untouched {rules} {e} {l} {before} {after} {error} h = by (table_of rules) h.says
  where
    by : (x : TableFound) → OverlapSays x e l before (overlap_refuses error) after → after ≡ before
    by no_table u = u.1
    by (a_table rs) u = u.2

pub no_further_untouched : {rules : List ℕ} {e l : ℕ} {before after : List ℕ} → OverlapTold rules e l before no_further after → after ≡ before
no_further_untouched {rules} {e} {l} {before} {after} h = by (table_of rules) h.says
  where
    by : (x : TableFound) → OverlapSays x e l before no_further after → after ≡ before
    by no_table u = u.1
    by (a_table rs) u = u.1

-- A table that is not of the form is refused,
pub not_of_the_form : {rules : List ℕ} {e l : ℕ} {before after : List ℕ} {a : OverlapAnswer} → table_of rules ≡ no_table → OverlapTold rules e l before a after
    → a ≡ overlap_refuses InvalidRuleTable
not_of_the_form {e = e} {l} {before} {after} {a} none h = (subst (λ (x : TableFound). OverlapSays x e l before a after) none h.says).0

module _ (rules : List ℕ) {rs : List Rule} (is : table_of rules ≡ a_table rs) where
  module _ {e l : ℕ} {before after : List ℕ} where
    pub reports : {a : OverlapAnswer} → OverlapTold rules e l before a after → Reports rs e l before a after
    reports {a} h = subst (λ (x : TableFound). OverlapSays x e l before a after) is h.says

    pub only_short : {error : TypeNameError} → OverlapTold rules e l before (overlap_refuses error) after → (error ≡ ShortBuffer) × TooShort rs e l before
    only_short h = let u = reports h in (u.0, u.1)

    pub first_reported : {i j bytes : ℕ} → OverlapTold rules e l before (overlaps i j bytes) after → FirstAfter rs e l i j
    first_reported h = (reports h).0

    pub none_left : OverlapTold rules e l before no_further after → NoneAfter rs e l
    none_left h = (reports h).0

    pub shown_in_front : {i j bytes : ℕ} → OverlapTold rules e l before (overlaps i j bytes) after → (take bytes after ≡ shown_bytes rs i j) × (drop bytes after ≡ drop bytes before)
    shown_in_front {i} {j} {bytes} h =
        let u = reports h in
        (ap (take bytes) u.3 ∙ take_at (shown_bytes rs i j) (drop bytes before) bytes (sym u.1), ap (drop bytes) u.3 ∙ drop_at (shown_bytes rs i j) (drop bytes before) bytes (sym u.1))

  shown_few : {i j : ℕ} → Pair rs i j → length (shown_bytes rs i j) ≤ longest_shown
  unfolding shown_bytes
  shown_few {i} {j} p = let t = rules_there rules is in shown_bound rules (t.each i (omega (arith, p.in_order, p.in_table))).stands (t.each j p.in_table).stands

  -- Room for the longest sequence is enough.
  pub enough : {e l : ℕ} {before after : List ℕ} {a : OverlapAnswer} → longest_shown ≤ length before → OverlapTold rules e l before a after → NextPair rs e l a
  enough {e} {l} {before} {after} {a} p h = by a (reports h)
    where
      by : (x : OverlapAnswer) → Reports rs e l before x after → NextPair rs e l x
      by (Ok (Some o)) u = u.0
      by (Ok None) u = u.0
      by (Err error) u = absurd (omega (arith, p, u.1.short, shown_few u.1.first.pair))

  -- ---- the sequence that is shown

  pub items_good : (k : ℕ) → k < length rs → T (good_items (rule rs k).items)
  items_good k q = stand_good rules (items_there rules ((rules_there rules is).each k q).stands)

  module _ {i j : ℕ} (p : Pair rs i j) where
    pub not_shorter : (ns : List Node) → T (matches (rule rs i) ns) → T (matches (rule rs j) ns) → length (shown_items rs i j) ≤ length ns
    not_shorter = none_shorter (rule rs i) (rule rs j)

    pub both_exactly : (ns : List Node) → length ns ≡ length (shown_items rs i j)
        → (T (matches (rule rs i) ns) × T (matches (rule rs j) ns)) ↔ T (matches (record { items = shown_items rs i j; rest = false }) ns)
    both_exactly = exactly_shown (rule rs i) (rule rs j) (overlap_meets (rule rs i) (rule rs j) p.overlap)

    pub both_some : (ns : List Node) × T (good_nodes ns) × (length ns ≡ length (shown_items rs i j)) × T (matches (rule rs i) ns) × T (matches (rule rs j) ns)
    unfolding matches
    both_some =
        let is = shown_items rs i j in
        let long = length-map is node_of in
        let both = (both_exactly (map node_of is) long).1 (takes_nodes false is) in
        let good = shown_good (rule rs i).items (rule rs j).items (items_good i (omega (arith, p.in_order, p.in_table))) (items_good j p.in_table) in
        (map node_of is, nodes_good is good, long, both.0, both.1)
