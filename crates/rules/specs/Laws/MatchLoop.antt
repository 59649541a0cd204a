-- The walk over a rule's items and a tree's top-level nodes. Assumes nothing.
use Rattle.std.specs.Prelude.{ℕ, suc, ◌+◌, ◌*◌, ◌≤◌, ◌<◌, ◌≡◌, Bool, true, false, length, leb}
use Rattle.std.proofs.Math.Path.{refl, ap}
use Rattle.std.proofs.Common.{sym, ◌∙◌, subst, arith, lt_of_not-le, lt-ltb, le-ltb, le-leb}
use mathlib.Core.List.{List, [], ◌∷◌}
use Rattle.std.proofs.Math.Decide.{dec_le}
use Rattle.std.proofs.lemmas.Bool.{lt-leb}
use Rattle.rows.specs.Records.{RowToken}
use Rattle.reader.specs.Nodes.{Nodes, none, node, count, node_width, numbers_bound}
use Rattle.type_nodes.specs.Nodes.{empty, next}
use Rattle.type_nodes.specs.Stands.{Stands, NodesStand, Of, below}
use Rattle.type_nodes.specs.Laws.Siblings.{first, nothing_left, unique}
use Rattle.rules.specs.Rules.{Node, Item, Rule, fits, matches}
use Rattle.rules.specs.Seen.{seen}
use Rattle.rules.specs.RowSeen.{RowSeen, OfNodes, first_seen}
use Rattle.rules.specs.ItemsStand.{ItemsStand, SomeItem, RuleStands, SomeRule, OfItem, OfRule, counts}
use Rattle.rules.specs.Laws.Stand.{item_moves, OneLeft, counts_more, counts_none}
use Rattle.rules.specs.Laws.Meeting.{one_rule, items_there}

-- ---- what is left of a rule and of the nodes

module _ (p : Rule) where
  rest_matches : (ns : List Node) → p ≡ record { items = []; rest = true } → true ≡ matches p ns
  unfolding matches
  rest_matches [] e = rw e refl
  rest_matches (n ∷ ns) e = rw e refl

  none_matches : p ≡ record { items = []; rest = false } → true ≡ matches p []
  unfolding matches
  none_matches e = rw e refl

  none_fails : (n : Node) (ns : List Node) → p ≡ record { items = []; rest = false } → false ≡ matches p (n ∷ ns)
  unfolding matches
  none_fails n ns e = rw e refl

  more_fails : {i : Item} {is : List Item} → p.items ≡ i ∷ is → false ≡ matches p []
  unfolding matches
  more_fails e = rw e refl

  misfit : (n : Node) (ns : List Node) {i : Item} {is : List Item} → p.items ≡ i ∷ is → fits i n ≡ false → matches p (n ∷ ns) ≡ false
  unfolding matches
  misfit n ns e f = rw (e, f) refl

  fit_on : (n : Node) (ns : List Node) {i : Item} {is : List Item} → p.items ≡ i ∷ is → fits i n ≡ true → matches p (n ∷ ns) ≡ matches (record { items = is; rest = p.rest }) ns
  unfolding matches
  fit_on n ns e f = rw (e, f) refl

-- The first of some nodes, and the others.
seen_first : (row : List RowToken) (x : Nodes) → empty x ≡ false → seen row x ≡ first_seen row x ∷ seen row (next x)
unfolding seen first_seen empty next
seen_first row none e = absurd (never e)
  where
    never : true ≡ false → ⊥
    never q = let clash : ◌≡◌ {A = ℕ} 1 0 = ap one q in absurd (omega (arith, clash))
      where
        one : Bool → ℕ
        one true = 1
        one false = 0
seen_first row (node k i b x) e = refl

module _ (table : List ℕ) (end begin : ℕ) (file kinds places tree : List ℕ) (nodes : ℕ) where
  -- The items left and the nodes left decide.
  pub record MatchLoop (item at : ℕ) : Type 0 where
    pub whole : Rule
    pub whole_stands : RuleStands table end begin whole
    pub left : Rule
    pub left_stands : ItemsStand table end item left
    pub rest : Nodes
    pub rest_stands : Stands tree kinds at nodes rest
    pub room : node_width * nodes ≤ length tree
    pub few : nodes ≤ numbers_bound
    pub same : (row : List RowToken) → RowSeen file kinds places row → (x : Nodes) → Stands tree kinds 0 nodes x → matches whole (seen row x) ≡ matches left (seen row rest)

  pub match_begins : SomeRule table end begin → NodesStand tree kinds 0 nodes → MatchLoop begin 0
  match_begins s n = record {
    whole = s.rule;
    whole_stands = s.stands;
    left = s.rule;
    left_stands = items_there table s.stands;
    rest = n.nodes;
    rest_stands = n.stands;
    room = n.room;
    few = n.few;
    same = λ row s' x st. ap (λ (y : Nodes). matches s.rule (seen row y)) (unique st n.stands);
  }

  module _ {item at : ℕ} (m : MatchLoop item at) where
    -- What the walk finds out is said of the rule and the nodes that stand there.
    told : {r : Bool} → ((row : List RowToken) → RowSeen file kinds places row → r ≡ matches m.left (seen row m.rest))
        → OfNodes file kinds places tree 0 nodes (λ row x. OfRule table end begin (λ p. r ≡ matches p (seen row x)))
    told h = record {
      says = λ row s x st p ps. h row s ∙ sym (m.same row s x st) ∙ ap (λ (z : Rule). matches z (seen row x)) (one_rule table m.whole_stands ps);
    }

    pub match_nodes : NodesStand tree kinds at nodes
    match_nodes = record { nodes = m.rest; stands = m.rest_stands; room = m.room; few = m.few }

    nodes_none : nodes ≤ at → (row : List RowToken) → seen row m.rest ≡ []
    unfolding seen
    nodes_none p row = ap (seen row) (nothing_left m.rest_stands p)

    module _ (c : counts table end item ≡ false) where
      pub match_rest : item < end → OfNodes file kinds places tree 0 nodes (λ row x. OfRule table end begin (λ p. true ≡ matches p (seen row x)))
      match_rest p = told (λ row s. rest_matches m.left (seen row m.rest) (counts_none table m.left_stands c ∙ ap (λ (z : Bool). record { items = []; rest = z }) (lt-ltb item end p)))

      nothing : end ≤ item → m.left ≡ record { items = []; rest = false }
      nothing p = counts_none table m.left_stands c ∙ ap (λ (z : Bool). record { items = []; rest = z }) (le-ltb item end p)

      pub match_ends : end ≤ item → OfNodes file kinds places tree 0 nodes (λ row x. OfRule table end begin (λ p. leb nodes at ≡ matches p (seen row x)))
      match_ends p = told (λ row s. elim (dec_le nodes at) [
        | yes q ↦ le-leb nodes at q ∙ none_matches m.left (nothing p) ∙ ap (matches m.left) (sym (nodes_none q row))
        | no q ↦ lt-leb nodes at (lt_of_not-le q) ∙ none_fails m.left (first_seen row m.rest) (seen row (next m.rest)) (nothing p) ∙ ap (matches m.left) (sym (seen_first row m.rest (first m.rest_stands (lt_of_not-le q)).full))
      ])

    module _ (c : counts table end item ≡ true) where
      one : OneLeft table end item m.left
      one = counts_more table m.left_stands c

      pub match_item : SomeItem table item
      match_item = record { the_item = one.the_item; next = one.next; stands = one.item_stands }

      pub match_no_node : nodes ≤ at → OfNodes file kinds places tree 0 nodes (λ row x. OfRule table end begin (λ p. false ≡ matches p (seen row x)))
      match_no_node q = told (λ row s. more_fails m.left one.is ∙ ap (matches m.left) (sym (nodes_none q row)))

      module _ (before : at < nodes) {r : Bool} (h : OfNodes file kinds places tree at nodes (λ row x. OfItem table item (λ i _. r ≡ fits i (first_seen row x)))) where
        fitting : (row : List RowToken) → RowSeen file kinds places row → r ≡ fits one.the_item (first_seen row m.rest)
        fitting row s = h.says row s m.rest m.rest_stands one.the_item one.next one.item_stands

        opened : (row : List RowToken) → seen row m.rest ≡ first_seen row m.rest ∷ seen row (next m.rest)
        opened row = seen_first row m.rest (first m.rest_stands before).full

        pub match_misfit : r ≡ false → OfNodes file kinds places tree 0 nodes (λ row x. OfRule table end begin (λ p. false ≡ matches p (seen row x)))
        match_misfit e = told (λ row s. sym (ap (matches m.left) (opened row) ∙ misfit m.left (first_seen row m.rest) (seen row (next m.rest)) one.is (sym (fitting row s) ∙ e)))

        pub match_again : r ≡ true → {item' at' : ℕ} → OfItem table item (λ i n. item' ≡ n) → Of tree kinds at nodes (λ x. at' ≡ suc (at + count (below x))) → MatchLoop item' at'
        match_again e {item'} {at'} en en' =
            let f = first m.rest_stands before in
            let there : at' ≡ suc (at + count (below m.rest)) = en' m.rest m.rest_stands in
            record {
              whole = m.whole;
              whole_stands = m.whole_stands;
              left = record { items = one.others; rest = m.left.rest };
              left_stands = subst (λ (n : ℕ). ItemsStand table end n (record { items = one.others; rest = m.left.rest })) (sym (en one.the_item one.next one.item_stands)) one.later;
              rest = next m.rest;
              rest_stands = subst (λ (n : ℕ). Stands tree kinds n nodes (next m.rest)) (sym there) f.rest;
              room = m.room;
              few = m.few;
              same = λ row s x st.
                  m.same row s x st ∙ ap (matches m.left) (opened row) ∙ fit_on m.left (first_seen row m.rest) (seen row (next m.rest)) one.is (sym (fitting row s) ∙ e);
            }

      pub match_further : {item' : ℕ} → OfItem table item (λ i n. item' ≡ n) → (item < item') × (item' ≤ end)
      match_further en =
          let there = en one.the_item one.next one.item_stands in (omega (arith, there, item_moves table one.item_stands), omega (arith, there, one.within))
