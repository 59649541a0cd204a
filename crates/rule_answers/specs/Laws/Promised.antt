-- The promises of a match follow from the answer and the buffer being the definition's. Assumes nothing.
use Rattle.rule_answers.specs.MatchAnswer.{matches_with, match_refuses, MatchAnswer}
use Rattle.rows.specs.Answer.{accepted_with, refused_with, Answer}
use Rattle.std.specs.Prelude.{ℕ, ◌-◌, ◌≤◌, ◌<◌, ◌↔◌, ◌⊎◌, length, replicate, Err, Ok}
use Rattle.std.proofs.Math.Path.{◌≡◌, refl, sym, ap, subst}
use Rattle.std.proofs.Common.{◌∙◌, inl, inr, arith}
use mathlib.Core.List.{List}
use Rattle.std.proofs.Math.Nat.{sub-zero}
use Rattle.rows.specs.Format.{format}
use Rattle.rows.specs.Records.{RowToken}
use Rattle.rows.specs.Refusals.{refusal_of}
use Rattle.rows.specs.Laws.Numbered.{Between}
use Rattle.rows.specs.declared.answer.TypeNameError.{TypeNameError}
use Rattle.rows.specs.declared.answer.TypeNameError.TheVariants.{InvalidRuleTable, NoRuleMatches}
use Rattle.reader.specs.Nodes.{Nodes, count}
use Rattle.type_name.specs.FileRow.{HeadRow, Outcome, untouched, passes, on_pass, file_row}
use Rattle.type_name.specs.Answers.{RowAnswer, accepted, refused, row_answer, outcome, answer_in, answer, filled, buffer_in, final_buffer}
use Rattle.type_name.specs.Laws.Fields.{is_refused, number_in, bounds, one_row}
use Rattle.type_name.specs.Laws.FileRow.{Has, Comes, file_comes}
use Rattle.type_name.specs.Promises.{last_untouched, RefusedBuffer}
use Rattle.type_name.specs.Laws.Total.{RowPlaced, Placed, outcome_placed}
use Rattle.rules.specs.Rules.{Rule, Winner, no_winner, wins, winner}
use Rattle.rules.specs.Seen.{seen}
use Rattle.rules.specs.RuleTable.{TableFound, no_table, a_table, table_of}
use Rattle.rules.specs.Laws.Winners.{winner_matches, none_matching}
use Rattle.rule_answers.specs.MatchAnswers.{RuleAnswer, by_winner, with_winner, by_table, match_outcome, match_in, match_answer, tree_left, match_buffer_in, match_buffer}
use Rattle.rule_answers.specs.MatchAnswers
use Rattle.rule_answers.specs.MatchPromises.{MatchesAt, AcceptedTree, Won, MatchPromised}

-- ---- the parts of answers

abbrev matched_nodes : MatchAnswer → ℕ
matched_nodes (Ok m) = m.nodes
matched_nodes (Err r) = 0

abbrev matched_steps : MatchAnswer → ℕ
matched_steps (Ok m) = m.steps
matched_steps (Err r) = r.steps

abbrev matched_place : MatchAnswer → ℕ
matched_place (Ok m) = m.place
matched_place (Err r) = 0

-- The refusal's number, 0 if a rule wins.
abbrev match_number : MatchAnswer → ℕ
match_number (Ok m) = 0
match_number (Err r) = (refusal_of r.error).number

-- 1 if the answer is refused.
abbrev not_matched : MatchAnswer → ℕ
not_matched (Ok m) = 0
not_matched (Err r) = 1

-- A refused answer as that of a match.
abbrev refused_as : Answer → MatchAnswer
refused_as (Ok a) = matches_with a.nodes a.steps 0
refused_as (Err r) = match_refuses r.error r.steps

-- The row's answer, if the row was read.
abbrev pub passed_in : Outcome RowAnswer → RowAnswer → RowAnswer
passed_in (untouched e) a = a
passed_in (passes o) a = o

abbrev is_passed : Outcome RowAnswer → ℕ
is_passed (untouched e) = 0
is_passed (passes o) = 1

abbrev is_row_refused : RowAnswer → ℕ
is_row_refused (accepted x m) = 0
is_row_refused (refused e m) = 1

abbrev pub tree_in : RowAnswer → Nodes → Nodes
tree_in (accepted x m) y = x
tree_in (refused e m) y = y

abbrev steps_of : RowAnswer → ℕ
steps_of (accepted x m) = m
steps_of (refused e m) = m

abbrev is_formed : TableFound → ℕ
is_formed no_table = 0
is_formed (a_table rs) = 1

abbrev rules_in : TableFound → List Rule → List Rule
rules_in no_table rs = rs
rules_in (a_table rs) rs' = rs

-- ---- the buffer of a refusal

module _ (before : List ℕ) where
  zeroed : replicate {A = ℕ} (length before - 0) 0 ≡ replicate (length before) 0
  zeroed = ap (λ (n : ℕ). replicate {A = ℕ} n 0) (sub-zero (length before))

  -- A refusal above 6 leaves zeros.
  above : {after : List ℕ} (e : TypeNameError) → last_untouched < (refusal_of e).number → after ≡ replicate (length before) 0 → RefusedBuffer before after e
  above e p q = record { kept = λ l. absurd (omega (arith, p, l)); zeroed = λ _. q }

  same_refusal : {a : MatchAnswer} {after : List ℕ} {e e' : TypeNameError} {m m' : ℕ} → a ≡ match_refuses e m → a ≡ match_refuses e' m' → RefusedBuffer before after e
      → RefusedBuffer before after e'
  same_refusal {after = after} {e = e} {e' = e'} p q b =
      let same : (refusal_of e).number ≡ (refusal_of e').number = ap match_number (sym p ∙ q) in
      record { kept = λ l. b.kept (omega (arith, same, l)); zeroed = λ l. b.zeroed (omega (arith, same, l)) }

-- ---- a file that is refused before its row is read

module _ (file rules before : List ℕ) {e : TypeNameError} (low : Between 1 6 e) (q : file_row format file (length before) ≡ untouched e) where
  early_read : answer file (length before) ≡ refused_with e 0
  unfolding answer answer_in outcome on_pass
  early_read = rw q refl

  early_match : match_answer file rules (length before) ≡ match_refuses e 0
  unfolding match_answer match_in match_outcome on_pass
  early_match = rw q refl

  early_buffer : match_buffer file rules before ≡ before
  unfolding match_buffer match_buffer_in match_outcome on_pass buffer_in
  early_buffer = rw q refl

  early_left : final_buffer file before ≡ before
  unfolding final_buffer outcome on_pass buffer_in
  early_left = rw q refl

  early_outcome : outcome file (length before) ≡ untouched e
  unfolding outcome on_pass
  early_outcome = rw q refl

  not_passed : {o : RowAnswer} → outcome file (length before) ≡ passes o → ⊥
  not_passed {o} p =
      let clash : ◌≡◌ {A = ℕ} 0 1 = ap is_passed (sym early_outcome ∙ p) in
      absurd (omega (arith, clash))

  early : MatchPromised file rules before (match_refuses e 0) before
  early = record {
    answered = sym early_match;
    buffered = sym early_buffer;
    first_refusals = λ e' m p l. (ap refused_as (sym early_read ∙ p), refl);
    refused_table = λ passed. absurd (omega (arith, passed e 0 early_read, bounds 1 6 e low));
    refused_row = λ rs f e' m p. (ap refused_as (sym early_read ∙ p), sym early_left);
    none_matches = λ rs f ts x steps a. absurd (not_passed a.defined);
    won = λ nodes steps place p. let clash : ◌≡◌ {A = ℕ} 1 0 = ap not_matched p in absurd (omega (arith, clash));
    refused_buffer = λ e' m p.
        let same : (refusal_of e).number ≡ (refusal_of e').number = ap match_number p in
        record { kept = λ _. refl; zeroed = λ l. absurd (omega (arith, same, bounds 1 6 e low, l)) };
  }

-- ---- a row that is read

module _ (file rules before : List ℕ) (r : HeadRow) (has : Has file (length before) r) (q : file_row format file (length before) ≡ passes r) where
  read_is : outcome file (length before) ≡ passes (row_answer r)
  unfolding outcome on_pass
  read_is = rw q refl

  row_placed : RowPlaced (row_answer r)
  row_placed = subst Placed read_is (outcome_placed file (length before))

  -- "checked after 6": the refusals of a row have numbers above it.
  after_6 : (o : RowAnswer) → RowPlaced o → (e : TypeNameError) (m : ℕ) → answer_in (passes o) ≡ refused_with e m → last_untouched < (refusal_of e).number
  unfolding answer_in
  after_6 (accepted x n) p e m c = let clash : ◌≡◌ {A = ℕ} 0 1 = ap is_refused c in absurd (omega (arith, clash))
  after_6 (refused e' n) p e m c = omega (arith, ap number_in c, bounds 10 40 e' p)

  answer_is : answer file (length before) ≡ answer_in (passes (row_answer r))
  unfolding answer
  answer_is = ap answer_in read_is

  left_is : final_buffer file before ≡ buffer_in before (passes (row_answer r))
  unfolding final_buffer
  left_is = ap (buffer_in before) read_is

  high : (e : TypeNameError) (m : ℕ) → answer file (length before) ≡ refused_with e m → last_untouched < (refusal_of e).number
  high e m p = after_6 (row_answer r) row_placed e m (sym answer_is ∙ p)

  abbrev no_early : {a : MatchAnswer} {after : List ℕ} (e : TypeNameError) (m : ℕ) → answer file (length before) ≡ refused_with e m → (refusal_of e).number ≤ last_untouched
      → (a ≡ match_refuses e m) × (after ≡ before)
  no_early e m p l = absurd (omega (arith, high e m p, l))

  match_is : match_outcome file rules (length before) ≡ passes (by_table (table_of rules) r.tokens (row_answer r))
  unfolding match_outcome on_pass
  match_is = rw q refl

  -- ---- 50

  module _ (t : table_of rules ≡ no_table) where
    bad_outcome : match_outcome file rules (length before) ≡ passes (MatchAnswers.refused InvalidRuleTable 0)
    unfolding by_table
    bad_outcome = match_is ∙ rw t refl

    not_formed : (rs : List Rule) → table_of rules ≡ a_table rs → ⊥
    not_formed rs f =
        let clash : ◌≡◌ {A = ℕ} 0 1 = ap is_formed (sym t ∙ f) in
        absurd (omega (arith, clash))

    bad_table : MatchPromised file rules before (match_refuses InvalidRuleTable 0) (replicate (length before) 0)
    unfolding match_answer match_in match_buffer match_buffer_in buffer_in on_pass tree_left filled
    bad_table = record {
      answered = sym (ap match_in bad_outcome);
      buffered = sym (ap (match_buffer_in before) bad_outcome ∙ zeroed before);
      first_refusals = λ e m. no_early e m;
      refused_table = λ _. (λ _. refl, λ _. t);
      refused_row = λ rs f. absurd (not_formed rs f);
      none_matches = λ rs f. absurd (not_formed rs f);
      won = λ nodes steps place p. let clash : ◌≡◌ {A = ℕ} 1 0 = ap not_matched p in absurd (omega (arith, clash));
      refused_buffer = λ e m p. same_refusal before refl p (above before InvalidRuleTable (omega arith) refl);
    }

  -- ---- a table of the form

  module _ (rs : List Rule) (t : table_of rules ≡ a_table rs) where
    formed_outcome : match_outcome file rules (length before) ≡ passes (with_winner rs r.tokens (row_answer r))
    unfolding by_table
    formed_outcome = match_is ∙ rw t refl

    not_50 : {a : MatchAnswer} → match_number a < 50 ⊎ (50 < match_number a) → (table_of rules ≡ no_table) ↔ (a ≡ match_refuses InvalidRuleTable 0)
    not_50 {a} p = (λ n. let clash : ◌≡◌ {A = ℕ} 0 1 = ap is_formed (sym n ∙ t) in absurd (omega (arith, clash)), λ c. absurd (clash_50 c p))
      where
        clash_50 : a ≡ match_refuses InvalidRuleTable 0 → match_number a < 50 ⊎ (50 < match_number a) → ⊥
        clash_50 c (inl l) = omega (arith, ap match_number c, l)
        clash_50 c (inr l) = omega (arith, ap match_number c, l)

    -- A table has one list of rules.
    same_rules : {rs' : List Rule} → table_of rules ≡ a_table rs' → rs ≡ rs'
    same_rules f = ap (λ (x : TableFound). rules_in x rs) (sym t ∙ f)

    -- The row's refusal.
    module _ {e : TypeNameError} {m : ℕ} (o : row_answer r ≡ refused e m) where
      refused_outcome : match_outcome file rules (length before) ≡ passes (MatchAnswers.refused e m)
      unfolding with_winner
      refused_outcome = formed_outcome ∙ rw o refl

      is_placed : Between 10 40 e
      is_placed = subst RowPlaced o row_placed

      read_refuses : answer file (length before) ≡ refused_with e m
      unfolding answer_in
      read_refuses = answer_is ∙ rw o refl

      refused_left : final_buffer file before ≡ replicate (length before) 0
      unfolding buffer_in filled
      refused_left = left_is ∙ rw o (zeroed before)

      not_accepted : {x : Nodes} {n : ℕ} → outcome file (length before) ≡ passes (accepted x n) → ⊥
      not_accepted {x} {n} p =
          let clash : ◌≡◌ {A = ℕ} 1 0 = ap is_row_refused (sym o ∙ ap (λ (c : Outcome RowAnswer). passed_in c (row_answer r)) (sym read_is ∙ p)) in
          absurd (omega (arith, clash))

      row_refused : MatchPromised file rules before (match_refuses e m) (replicate (length before) 0)
      unfolding match_answer match_in match_buffer match_buffer_in buffer_in on_pass tree_left filled
      row_refused = record {
        answered = sym (ap match_in refused_outcome);
        buffered = sym (ap (match_buffer_in before) refused_outcome ∙ zeroed before);
        first_refusals = λ e' m'. no_early e' m';
        refused_table = λ _. not_50 (inl (omega (arith, bounds 10 40 e is_placed)));
        refused_row = λ rs' f e' m' p. (ap refused_as (sym read_refuses ∙ p), sym refused_left);
        none_matches = λ rs' f ts x steps a. absurd (not_accepted a.defined);
        won = λ nodes steps place p. let clash : ◌≡◌ {A = ℕ} 1 0 = ap not_matched p in absurd (omega (arith, clash));
        refused_buffer = λ e' m' p. same_refusal before refl p (above before e (omega (arith, bounds 10 40 e is_placed)) refl);
      }

    -- The row is accepted.
    module _ {x : Nodes} {m : ℕ} (o : row_answer r ≡ accepted x m) where
      won_outcome : match_outcome file rules (length before) ≡ passes (by_winner x m (winner rs (seen r.tokens x)))
      unfolding with_winner
      won_outcome = formed_outcome ∙ rw o refl

      read_accepts : answer file (length before) ≡ accepted_with (count x) m
      unfolding answer_in
      read_accepts = answer_is ∙ rw o refl

      is_accepted : AcceptedTree file (length before) r.tokens x m
      is_accepted = record { row_read = has.row_is; defined = read_is ∙ ap (λ (c : RowAnswer). passes c) o }

      no_refusal : {e : TypeNameError} {n : ℕ} → answer file (length before) ≡ refused_with e n → ⊥
      no_refusal p = let clash : ◌≡◌ {A = ℕ} 0 1 = ap is_refused (sym read_accepts ∙ p) in absurd (omega (arith, clash))

      -- It has one row and one tree.
      module _ {ts : List RowToken} {y : Nodes} {n : ℕ} (a : AcceptedTree file (length before) ts y n) where
        same_answer : accepted x m ≡ accepted y n
        same_answer = sym o ∙ ap (λ (c : Outcome RowAnswer). passed_in c (row_answer r)) (sym read_is ∙ a.defined)

        same_seen : seen r.tokens x ≡ seen ts y
        same_seen = ap (λ (us : List RowToken). seen us x) (one_row _ r.tokens ts has.row_is a.row_read) ∙ ap (λ (c : RowAnswer). seen ts (tree_in c x)) same_answer

        same_steps : m ≡ n
        same_steps = ap steps_of same_answer

        -- 51 exactly if no rule matches.
        none_left : {rs' : List Rule} → table_of rules ≡ a_table rs' → winner rs (seen r.tokens x) ≡ no_winner → (place : ℕ) → place < length rs' → MatchesAt rs' ts y place → ⊥
        unfolding winner
        none_left {rs'} f w = none_matching 0 rs' (seen ts y) (ap (λ (us : List Rule). winner us (seen ts y)) (sym (same_rules f)) ∙ ap (winner rs) (sym same_seen) ∙ w)

        one_left : {rs' : List Rule} {p : ℕ} → table_of rules ≡ a_table rs' → winner rs (seen r.tokens x) ≡ wins p → ((place : ℕ) → place < length rs' → MatchesAt rs' ts y place → ⊥) → ⊥
        one_left {rs'} {p} f w none =
            let v = winner_matches rs' (seen ts y) p (ap (λ (us : List Rule). winner us (seen ts y)) (sym (same_rules f)) ∙ ap (winner rs) (sym same_seen) ∙ w) in
            none p v.0 v.1

      module _ (w : winner rs (seen r.tokens x) ≡ no_winner) where
        none_outcome : match_outcome file rules (length before) ≡ passes (MatchAnswers.refused NoRuleMatches m)
        unfolding by_winner
        none_outcome = won_outcome ∙ rw w refl

        none_wins : MatchPromised file rules before (match_refuses NoRuleMatches m) (replicate (length before) 0)
        unfolding match_answer match_in match_buffer match_buffer_in buffer_in on_pass tree_left filled
        none_wins = record {
          answered = sym (ap match_in none_outcome);
          buffered = sym (ap (match_buffer_in before) none_outcome ∙ zeroed before);
          first_refusals = λ e n. no_early e n;
          refused_table = λ _. not_50 (inr (omega arith));
          refused_row = λ rs' f e n p. absurd (no_refusal p);
          none_matches = λ rs' f ts y n a. (λ _. ap (λ (k : ℕ). match_refuses NoRuleMatches k) (same_steps a), λ _. none_left a f w);
          won = λ nodes steps place p. let clash : ◌≡◌ {A = ℕ} 1 0 = ap not_matched p in absurd (omega (arith, clash));
          refused_buffer = λ e n p. same_refusal before refl p (above before NoRuleMatches (omega arith) refl);
        }

      module _ {place : ℕ} (w : winner rs (seen r.tokens x) ≡ wins place) where
        one_outcome : match_outcome file rules (length before) ≡ passes (MatchAnswers.matched x m place)
        unfolding by_winner
        one_outcome = won_outcome ∙ rw w refl

        won_as_read : match_buffer file rules before ≡ final_buffer file before
        unfolding match_buffer match_buffer_in buffer_in on_pass tree_left
        won_as_read = ap (match_buffer_in before) one_outcome ∙ sym (left_is ∙ rw o refl)

        winner_won : Won file rules before (count x) m place (match_buffer file rules before)
        winner_won =
            let v = winner_matches rs (seen r.tokens x) place w in
            record {
              read_accepts = read_accepts;
              as_read = won_as_read;
              table = rs;
              formed = t;
              tokens = r.tokens;
              tree = x;
              accepted_tree = is_accepted;
              in_table = v.0;
              wins = v.1;
              first = v.2;
            }

        one_wins : MatchPromised file rules before (matches_with (count x) m place) (match_buffer file rules before)
        unfolding match_answer match_in
        one_wins = record {
          answered = sym (ap match_in one_outcome);
          buffered = refl;
          first_refusals = λ e n. no_early e n;
          refused_table = λ _. not_50 (inl (omega arith));
          refused_row = λ rs' f e n p. absurd (no_refusal p);
          none_matches = λ rs' f ts y n a. (λ none. absurd (one_left a f w none), λ c. let clash : ◌≡◌ {A = ℕ} 0 1 = ap not_matched c in absurd (omega (arith, clash)));
          won = λ nodes steps place' p. same_won nodes steps place' (ap matched_nodes p) (ap matched_steps p) (ap matched_place p);
          refused_buffer = λ e n p. let clash : ◌≡◌ {A = ℕ} 0 1 = ap not_matched p in absurd (omega (arith, clash));
        }
          where
            same_won : (nodes steps place' : ℕ) → count x ≡ nodes → m ≡ steps → place ≡ place' → Won file rules before nodes steps place' (match_buffer file rules before)
            same_won nodes steps place' p q' s =
                subst (λ (k : ℕ). Won file rules before nodes steps k (match_buffer file rules before)) s
                (subst (λ (k : ℕ). Won file rules before nodes k place (match_buffer file rules before)) q'
                (subst (λ (k : ℕ). Won file rules before k m place (match_buffer file rules before)) p winner_won))

-- ---- every file, table and buffer

module _ (file rules before : List ℕ) where
  abbrev AsDefined : Type 0
  AsDefined = MatchPromised file rules before (match_answer file rules (length before)) (match_buffer file rules before)

  as_defined : {a : MatchAnswer} {after : List ℕ} → MatchPromised file rules before a after → AsDefined
  as_defined {a} {after} p =
      subst (λ (b : List ℕ). MatchPromised file rules before (match_answer file rules (length before)) b) p.buffered
      (subst (λ (c : MatchAnswer). MatchPromised file rules before c after) p.answered p)

  module _ (r : HeadRow) (has : Has file (length before) r) (q : file_row format file (length before) ≡ passes r) where
    by_the_winner : (rs : List Rule) → table_of rules ≡ a_table rs → {x : Nodes} {m : ℕ} → row_answer r ≡ accepted x m → (w : Winner) → winner rs (seen r.tokens x) ≡ w → AsDefined
    by_the_winner rs t o no_winner w = as_defined (none_wins file rules before r has q rs t o w)
    by_the_winner rs t o (wins place) w = as_defined (one_wins file rules before r has q rs t o w)

    by_the_row : (rs : List Rule) → table_of rules ≡ a_table rs → (o : RowAnswer) → row_answer r ≡ o → AsDefined
    by_the_row rs t (refused e m) o = as_defined (row_refused file rules before r has q rs t o)
    by_the_row rs t (accepted x m) o = by_the_winner rs t o (winner rs (seen r.tokens x)) refl

    by_the_table : (t : TableFound) → table_of rules ≡ t → AsDefined
    by_the_table no_table t = as_defined (bad_table file rules before r has q t)
    by_the_table (a_table rs) t = by_the_row rs t (row_answer r) refl

  by_the_file : (f : Outcome HeadRow) → Comes file (length before) f → file_row format file (length before) ≡ f → AsDefined
  by_the_file (untouched e) c q = as_defined (early file rules before c q)
  by_the_file (passes r) c q = by_the_table r c q (table_of rules) refl

  pub match_promised : (a : MatchAnswer) (after : List ℕ) → a ≡ match_answer file rules (length before) → after ≡ match_buffer file rules before → MatchPromised file rules before a after
  match_promised a after p q =
      subst (λ (b : List ℕ). MatchPromised file rules before a b) (sym q)
      (subst (λ (c : MatchAnswer). MatchPromised file rules before c (match_buffer file rules before)) (sym p)
      (by_the_file (file_row format file (length before)) (file_comes file (length before)) refl))

  -- ---- what an accepted row comes to, and what a refusal leaves

  module _ {rs : List Rule} (t : table_of rules ≡ a_table rs) {ts : List RowToken} {x : Nodes} {m : ℕ} (a : AcceptedTree file (length before) ts x m) where
    accepted_outcome : (f : Outcome HeadRow) → Comes file (length before) f → file_row format file (length before) ≡ f
        → match_outcome file rules (length before) ≡ passes (by_winner x m (winner rs (seen ts x)))
    accepted_outcome (untouched e) c q = absurd (not_passed file rules before c q a.defined)
    accepted_outcome (passes r) c q =
        let o : row_answer r ≡ accepted x m = ap (λ (b : Outcome RowAnswer). passed_in b (row_answer r)) (sym (read_is file rules before r c q) ∙ a.defined) in
        won_outcome file rules before r c q rs t o
        ∙ ap (λ (us : List RowToken). passes (by_winner x m (winner rs (seen us x)))) (one_row _ r.tokens ts c.row_is a.row_read)

    pub accepted_match : match_answer file rules (length before) ≡ match_in (passes (by_winner x m (winner rs (seen ts x))))
    unfolding match_answer
    accepted_match = ap match_in (accepted_outcome (file_row format file (length before)) (file_comes file (length before)) refl)

  module _ (late : (e : TypeNameError) (m : ℕ) → answer file (length before) ≡ refused_with e m → last_untouched < (refusal_of e).number) where
    refused_zeros : (a : RuleAnswer) {e : TypeNameError} {m : ℕ} → match_in (passes a) ≡ match_refuses e m → match_buffer_in before (passes a) ≡ replicate (length before) 0
    unfolding match_in match_buffer_in buffer_in on_pass tree_left filled
    refused_zeros (MatchAnswers.matched x n place) q = let clash : ◌≡◌ {A = ℕ} 0 1 = ap not_matched q in absurd (omega (arith, clash))
    refused_zeros (MatchAnswers.refused e n) q = zeroed before

    late_outcome : (f : Outcome HeadRow) → Comes file (length before) f → file_row format file (length before) ≡ f → (a : RuleAnswer) × (match_outcome file rules (length before) ≡ passes a)
    late_outcome (untouched e) c q = absurd (omega (arith, late e 0 (early_read file rules before c q), bounds 1 6 e c))
    late_outcome (passes r) c q = (_, match_is file rules before r c q)

    -- After a refusal the buffer holds zeros.
    pub late_zeros : {e : TypeNameError} {m : ℕ} → match_answer file rules (length before) ≡ match_refuses e m → match_buffer file rules before ≡ replicate (length before) 0
    unfolding match_answer match_buffer
    late_zeros p =
        let (a, is) = late_outcome (file_row format file (length before)) (file_comes file (length before)) refl in
        ap (match_buffer_in before) is ∙ refused_zeros a (sym (ap match_in is) ∙ p)
