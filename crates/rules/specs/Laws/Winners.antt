-- The search for the rule that wins. Assumes nothing.
use Rattle.std.specs.Prelude.{ℕ, zero, suc, ◌+◌, ◌≤◌, ◌<◌, ◌≡◌, Bool, true, false, not, length, get_or, drop, T}
use Rattle.std.proofs.Math.Path.{refl, ap}
use Rattle.std.proofs.Common.{sym, ◌∙◌, subst, arith, add-zero, drop_of_length-le, drop-cons, T_not}
use mathlib.Core.List.{List, [], ◌∷◌}
use Rattle.std.proofs.Math.Numerals.{add-one}
use Rattle.rows.specs.Laws.Tests.{by_if}
use Rattle.rows.specs.Records.{RowToken}
use Rattle.reader.specs.Nodes.{Nodes}
use Rattle.type_nodes.specs.Stands.{Stands}
use Rattle.rules.specs.Rules.{Node, Rule, matches, Winner, no_winner, wins, winner_from, winner}
use Rattle.rules.specs.Seen.{seen}
use Rattle.rules.specs.RuleTable.{at_items}
use Rattle.rules.specs.Overlaps.{rule}
use Rattle.rules.specs.RowSeen.{RowSeen, OfNodes}
use Rattle.rules.specs.ItemsStand.{OfRule}
use Rattle.rules.specs.TableStands.{RulesRead, OfTable}
use Rattle.rules.specs.Laws.Pairs.{of_table, stands_at}

module _ (rs : List Rule) (k : ℕ) (ns : List Node) where
  opened : k < length rs → winner_from k (drop k rs) ns ≡ winner_from k (rule rs k ∷ drop (suc k) rs) ns
  opened p = ap (λ (l : List Rule). winner_from k l ns) (drop-cons rs k _ p)

  wins_here : k < length rs → matches (rule rs k) ns ≡ true → winner_from k (drop k rs) ns ≡ wins k
  unfolding winner_from
  wins_here p e = opened p ∙ rw e refl

  goes_on : k < length rs → matches (rule rs k) ns ≡ false → winner_from k (drop k rs) ns ≡ winner_from (k + 1) (drop (k + 1) rs) ns
  unfolding winner_from
  goes_on p e = opened p ∙ rw (e, add-one k) refl

  none_wins : length rs ≤ k → winner_from k (drop k rs) ns ≡ no_winner
  unfolding winner_from
  none_wins p = ap (λ (l : List Rule). winner_from k l ns) (drop_of_length-le rs {i = k} p)

module _ {table : List ℕ} {count : ℕ} {starts : List ℕ} (t : RulesRead table count starts) (file kinds places tree : List ℕ) (nodes : ℕ) where
  -- The rules from this place on decide.
  pub record WinnerLoop (place : ℕ) : Type 0 where
    pub same : (row : List RowToken) → RowSeen file kinds places row → (x : Nodes) → Stands tree kinds 0 nodes x
        → winner t.rules (seen row x) ≡ winner_from place (drop place t.rules) (seen row x)

  pub winner_begins : WinnerLoop 0
  unfolding winner
  winner_begins = record { same = λ row s x st. refl }

  pub place_told : (place : ℕ) → place < count → {r : Bool}
      → OfNodes file kinds places tree 0 nodes (λ row x. OfRule table (get_or starts (place + 1) 0) (get_or starts place 0 + at_items) (λ p. r ≡ matches p (seen row x)))
      → OfNodes file kinds places tree 0 nodes (λ row x. OfTable table (λ rs. r ≡ matches (rule rs place) (seen row x)))
  place_told place p {r} h = record {
    says = λ row s x st. of_table table t {P = λ rs. r ≡ matches (rule rs place) (seen row x)} (h.says row s x st (rule t.rules place) (stands_at table t place p));
  }

  module _ {place : ℕ} (l : WinnerLoop place) where
    abbrev rs : List Rule
    rs = t.rules

    told : {w : Winner} → ((row : List RowToken) → RowSeen file kinds places row → (x : Nodes) → Stands tree kinds 0 nodes x → w ≡ winner_from place (drop place rs) (seen row x))
        → OfNodes file kinds places tree 0 nodes (λ row x. OfTable table (λ rs'. w ≡ winner rs' (seen row x)))
    told {w} h = record { says = λ row s x st. of_table table t {P = λ rs'. w ≡ winner rs' (seen row x)} (h row s x st ∙ sym (l.same row s x st)) }

    pub winner_ends : count ≤ place → OfNodes file kinds places tree 0 nodes (λ row x. OfTable table (λ rs'. no_winner ≡ winner rs' (seen row x)))
    winner_ends p = told (λ row s x st. sym (none_wins rs place (seen row x) (omega (arith, t.counted, p))))

    module _ (p : place < count) {r : Bool} (h : OfNodes file kinds places tree 0 nodes (λ row x. OfTable table (λ rs'. r ≡ matches (rule rs' place) (seen row x)))) where
      matched : (row : List RowToken) → RowSeen file kinds places row → (x : Nodes) → Stands tree kinds 0 nodes x → r ≡ matches (rule rs place) (seen row x)
      matched row s x st = (h.says row s x st).says rs t.is

      pub winner_here : r ≡ true → OfNodes file kinds places tree 0 nodes (λ row x. OfTable table (λ rs'. wins place ≡ winner rs' (seen row x)))
      winner_here e = told (λ row s x st. sym (wins_here rs place (seen row x) (omega (arith, t.counted, p)) (sym (matched row s x st) ∙ e)))

      pub winner_again : r ≡ false → WinnerLoop (place + 1)
      winner_again e = record {
        same = λ row s x st. l.same row s x st ∙ goes_on rs place (seen row x) (omega (arith, t.counted, p)) (sym (matched row s x st) ∙ e);
      }

-- ---- "The first rule that matches all top-level nodes wins"

-- The rule at place i of a list that begins at place k matches, and none before it.
record FirstMatch (k : ℕ) (rs : List Rule) (ns : List Node) (p : ℕ) : Type 0 where
  i : ℕ
  at : p ≡ k + i
  inside : i < length rs
  matched : T (matches (rule rs i) ns)
  none : (q : ℕ) → q < i → T (matches (rule rs q) ns) → ⊥

abbrev place_in : Winner → ℕ
place_in no_winner = 0
place_in (wins p) = p

abbrev is_won : Winner → ℕ
is_won no_winner = 0
is_won (wins p) = 1

first_match : (k : ℕ) (rs : List Rule) (ns : List Node) (p : ℕ) → winner_from k rs ns ≡ wins p → FirstMatch k rs ns p
unfolding winner_from
first_match k [] ns p = λ e. let clash : ◌≡◌ {A = ℕ} 0 1 = ap is_won e in absurd (omega (arith, clash))
first_match k (r ∷ rs) ns p =
    by_if (λ (w : Winner). w ≡ wins p → FirstMatch k (r ∷ rs) ns p) (matches r ns)
    (λ t e. record { i = 0; at = sym (ap place_in e) ∙ sym (add-zero k); inside = omega arith; matched = t; none = λ q l. absurd (omega arith) })
    (λ t e. later t (first_match (suc k) rs ns p e))
  where
    later : T (not (matches r ns)) → FirstMatch (suc k) rs ns p → FirstMatch k (r ∷ rs) ns p
    later t f = record { i = suc f.i; at = omega (arith, f.at); inside = omega (arith, f.inside); matched = f.matched; none = before }
      where
        before : (q : ℕ) → q < suc f.i → T (matches (rule (r ∷ rs) q) ns) → ⊥
        before zero l m = T_not (matches r ns) t m
        before (suc q) l m = f.none q (omega arith) m

-- The winner matches, and no earlier rule does;
pub winner_matches : (rs : List Rule) (ns : List Node) (p : ℕ) → winner rs ns ≡ wins p
    → (p < length rs) × T (matches (rule rs p) ns) × ((q : ℕ) → q < p → T (matches (rule rs q) ns) → ⊥)
unfolding winner
winner_matches rs ns p e =
    let f = first_match 0 rs ns p e in
    let same : f.i ≡ p = omega (arith, f.at) in
    (omega (arith, f.at, f.inside), subst (λ (i : ℕ). T (matches (rule rs i) ns)) same f.matched, λ q l. f.none q (omega (arith, same)))

-- without a winner no rule matches.
pub none_matching : (k : ℕ) (rs : List Rule) (ns : List Node) → winner_from k rs ns ≡ no_winner → (q : ℕ) → q < length rs → T (matches (rule rs q) ns) → ⊥
unfolding winner_from
none_matching k [] ns = λ e q l m. absurd (omega arith)
none_matching k (r ∷ rs) ns =
    by_if (λ (w : Winner). w ≡ no_winner → (q : ℕ) → q < suc (length rs) → T (matches (rule (r ∷ rs) q) ns) → ⊥) (matches r ns)
    (λ t e. let clash : ◌≡◌ {A = ℕ} 1 0 = ap is_won e in absurd (omega (arith, clash)))
    (λ t e. other t (none_matching (suc k) rs ns e))
  where
    other : T (not (matches r ns)) → ((q : ℕ) → q < length rs → T (matches (rule rs q) ns) → ⊥) → (q : ℕ) → q < suc (length rs) → T (matches (rule (r ∷ rs) q) ns) → ⊥
    other t f zero l m = T_not (matches r ns) t m
    other t f (suc q) l m = f q (omega arith) m
