-- When two rules overlap, and what the shown sequence says: document 02, C-11. Assumes nothing.
use Rattle.std.specs.Prelude.{ℕ, ◌≤◌, ◌≡◌, refl, ◌⊎◌, ◌↔◌, Bool, true, not, ◌||◌, length, get_or, drop, eqb, T, if◌then◌else◌}
use Rattle.std.proofs.Common.{sym, ap, ◌∙◌, subst, inl, inr, ⊎_elim, T_not, eqb→eq}
use Rattle.std.proofs.Math.Bool.{false}
use mathlib.Core.List.{List, [], ◌∷◌, map}
use native.Mathlib.Omega.{arith}
use Rattle.std.proofs.Math.Dec.{eqb_refl}
use Rattle.std.proofs.Math.Facts.{and_yes, yes_and, or_yes}
use Rattle.rows.specs.Laws.Tests.{by_if}
use Rattle.rows.specs.Words.{same_exactly, same_through}
use Rattle.rules.specs.Rules.{Node, word_node, kind_node, group_node, list_node, Item, word, kind, group, list, any, Rule, good_node, good_nodes, good_item, good_items, fits, matches_items, matches}
use Rattle.rules.specs.RuleTable.{word_byte, kind_byte, group_byte, list_byte, item_bytes}
use Rattle.rules.specs.Overlaps.{Overlap, is_any, shown_item, shown}
use Rattle.rules.specs.Meeting.{agree, meets, rules_meet}

-- ---- tests

by_test {ℓ} : {P : Type ℓ} (b : Bool) → (T b → P) → (T (not b) → P) → P
by_test true f g = f tt
by_test false f g = g tt

or_left : (a b : Bool) → T a → T (a || b)
or_left true b t = tt
or_left false b t = absurd t

or_right : (a b : Bool) → T b → T (a || b)
or_right true b t = tt
or_right false b t = t

-- ---- words

pub same_itself : (w : List ℕ) → T (same_exactly w w)
unfolding same_exactly same_through
same_itself [] = tt
same_itself (b ∷ w) = yes_and (eqb b b) _ (eqb_refl b) (same_itself w)

pub same_equal : (w v : List ℕ) → T (same_exactly w v) → w ≡ v
unfolding same_exactly same_through
same_equal [] [] t = refl
same_equal [] (c ∷ v) t = absurd t
same_equal (b ∷ w) [] t = absurd t
same_equal (b ∷ w) (c ∷ v) t =
    let p = and_yes (eqb b c) _ t in
    ap (λ (x : ℕ). x ∷ w) (eqb→eq b c p.0) ∙ ap (λ (x : List ℕ). c ∷ x) (same_equal w v p.1)

-- ---- an item and its node

-- A node that the item takes; the only one unless it is "any one node".
unfoldable pub node_of : Item → Node
node_of (word w) = word_node w
node_of (kind k) = kind_node k
node_of group = group_node
node_of list = list_node
node_of any = group_node

pub takes_own : (i : Item) → T (fits i (node_of i))
unfolding fits node_of
takes_own (word w) = same_itself w
takes_own (kind k) = eqb_refl k
takes_own group = tt
takes_own list = tt
takes_own any = tt

pub takes_only : (i : Item) (n : Node) → T (fits i n) → T (is_any i) ⊎ (n ≡ node_of i)
unfolding fits node_of is_any
takes_only (word w) (word_node v) t = inr (ap word_node (sym (same_equal w v t)))
takes_only (word w) (kind_node k) t = absurd t
takes_only (word w) group_node t = absurd t
takes_only (word w) list_node t = absurd t
takes_only (kind k) (word_node v) t = absurd t
takes_only (kind k) (kind_node j) t = inr (ap kind_node (sym (eqb→eq k j t)))
takes_only (kind k) group_node t = absurd t
takes_only (kind k) list_node t = absurd t
takes_only group (word_node v) t = absurd t
takes_only group (kind_node k) t = absurd t
takes_only group group_node t = inr refl
takes_only group list_node t = absurd t
takes_only list (word_node v) t = absurd t
takes_only list (kind_node k) t = absurd t
takes_only list group_node t = absurd t
takes_only list list_node t = inr refl
takes_only any n t = inl tt

-- "Any one node" takes every node.
pub any_takes : (i : Item) (n : Node) → T (is_any i) → T (fits i n)
unfolding fits is_any
any_takes (word w) n t = absurd t
any_takes (kind k) n t = absurd t
any_takes group n t = absurd t
any_takes list n t = absurd t
any_takes any n t = tt

-- ---- items by their bytes

-- The item whose bytes these are.
item_in : List ℕ → Item
item_in [] = any
item_in (b ∷ bs) =
    if eqb b word_byte then word (drop 1 bs)
    else if eqb b kind_byte then kind (get_or bs 0 0)
    else if eqb b group_byte then group
    else if eqb b list_byte then list
    else any

in_bytes : (i : Item) → item_in (item_bytes i) ≡ i
unfolding item_in item_bytes
in_bytes (word w) = refl
in_bytes (kind k) = refl
in_bytes group = refl
in_bytes list = refl
in_bytes any = refl

pub bytes_injective : (i j : Item) → item_bytes i ≡ item_bytes j → i ≡ j
bytes_injective i j e = sym (in_bytes i) ∙ ap item_in e ∙ in_bytes j

-- The item that takes this node alone.
item_for : Node → Item
item_for (word_node w) = word w
item_for (kind_node k) = kind k
item_for group_node = group
item_for list_node = list

for_node : (i : Item) → T (not (is_any i)) → item_for (node_of i) ≡ i
unfolding item_for node_of is_any
for_node (word w) o = refl
for_node (kind k) o = refl
for_node group o = refl
for_node list o = refl
for_node any o = absurd o

node_injective : (i j : Item) → T (not (is_any i)) → T (not (is_any j)) → node_of i ≡ node_of j → i ≡ j
node_injective i j o o' e = sym (for_node i o) ∙ ap item_for e ∙ for_node j o'

-- ---- a place at which both rules have an item

-- An item that is not "any one node" takes its own node alone.
pub own_only : (i : Item) (n : Node) → T (not (is_any i)) → T (fits i n) → n ≡ node_of i
own_only i n o t = ⊎_elim (λ a. absurd (T_not (is_any i) o a)) (λ e. e) (takes_only i n t)

-- What both take, the shown item takes;
pub shown_takes : (i j : Item) (n : Node) → T (fits i n) → T (fits j n) → T (fits (shown_item i j) n)
unfolding shown_item
shown_takes i j n p q = by_if (λ (x : Item). T (fits x n)) (is_any i) (λ _. q) (λ _. p)

-- the items agree if they have a node in common,
pub agree_by : (i j : Item) (n : Node) → T (fits i n) → T (fits j n) → T (agree i j)
unfolding agree
agree_by i j n p q =
    by_test (is_any i) (λ a. or_left (is_any i || is_any j) _ (or_left (is_any i) (is_any j) a)) λ o.
    by_test (is_any j) (λ b. or_left (is_any i || is_any j) _ (or_right (is_any i) (is_any j) b)) λ o'.
    let one : i ≡ j = node_injective i j o o' (sym (own_only i n o p) ∙ own_only j n o' q) in
    or_right (is_any i || is_any j) _ (subst (λ (k : Item). T (same_exactly (item_bytes i) (item_bytes k))) one (same_itself (item_bytes i)))

-- and where they agree, both take what the shown item takes.
pub agree_takes : (i j : Item) (n : Node) → T (agree i j) → T (fits (shown_item i j) n) → T (fits i n) × T (fits j n)
unfolding agree shown_item
agree_takes i j n g =
    by_if (λ (x : Item). T (fits x n) → T (fits i n) × T (fits j n)) (is_any i)
    (λ a p. (any_takes i n a, p))
    (λ o p. (
      p,
      ⊎_elim
          (λ e. any_takes j n (⊎_elim (λ a. absurd (T_not (is_any i) o a)) (λ b. b) (or_yes (is_any i) (is_any j) e)))
          (λ s. subst (λ (k : Item). T (fits k n)) (bytes_injective i j (same_equal (item_bytes i) (item_bytes j) s)) p)
          (or_yes (is_any i || is_any j) _ g),
    ))

-- ---- two rules

module _ (r : Bool) where
  pub takes_nodes : (is : List Item) → T (matches_items r is (map node_of is))
  unfolding matches_items
  takes_nodes [] = tt
  takes_nodes (i ∷ is) = yes_and (fits i (node_of i)) _ (takes_own i) (takes_nodes is)

  -- Without "the rest" a rule takes a sequence only if it is as long as the items; with it, if it is not shorter.
  pub takes_long : (is : List Item) (ns : List Node) → T (matches_items r is ns) → length is ≤ length ns
  unfolding matches_items
  takes_long [] ns t = omega arith
  takes_long (i ∷ is) [] t = absurd t
  takes_long (i ∷ is) (n ∷ ns) t = omega (arith, takes_long is ns (and_yes (fits i n) _ t).1)

  pub takes_exactly : (is : List Item) (ns : List Node) → length ns ≡ length is → T (matches_items r is ns) → T (matches_items false is ns)
  unfolding matches_items
  takes_exactly [] [] e t = tt
  takes_exactly [] (n ∷ ns) e t = absurd (omega (arith, e))
  takes_exactly (i ∷ is) [] e t = t
  takes_exactly (i ∷ is) (n ∷ ns) e t =
      let p = and_yes (fits i n) _ t in yes_and (fits i n) _ p.0 (takes_exactly is ns (omega (arith, e)) p.1)

  pub takes_loosely : (is : List Item) (ns : List Node) → T (matches_items false is ns) → T (matches_items r is ns)
  unfolding matches_items
  takes_loosely [] [] t = tt
  takes_loosely [] (n ∷ ns) t = absurd t
  takes_loosely (i ∷ is) [] t = t
  takes_loosely (i ∷ is) (n ∷ ns) t = let p = and_yes (fits i n) _ t in yes_and (fits i n) _ p.0 (takes_loosely is ns p.1)

module _ (r r' : Bool) where
  -- A sequence that both take: then they meet,
  pub meets_by : (is js : List Item) (ns : List Node) → T (matches_items r is ns) → T (matches_items r' js ns) → T (meets r r' is js)
  unfolding meets matches_items
  meets_by [] [] ns p q = tt
  meets_by [] (j ∷ js) [] p q = absurd q
  meets_by [] (j ∷ js) (n ∷ ns) p q = p
  meets_by (i ∷ is) [] [] p q = absurd p
  meets_by (i ∷ is) [] (n ∷ ns) p q = q
  meets_by (i ∷ is) (j ∷ js) [] p q = absurd p
  meets_by (i ∷ is) (j ∷ js) (n ∷ ns) p q =
      let a = and_yes (fits i n) _ p in
      let b = and_yes (fits j n) _ q in
      yes_and (agree i j) _ (agree_by i j n a.0 b.0) (meets_by is js ns a.1 b.1)

  -- it is not shorter than the shown one,
  pub not_shorter : (is js : List Item) (ns : List Node) → T (matches_items r is ns) → T (matches_items r' js ns) → length (shown is js) ≤ length ns
  unfolding shown matches_items
  not_shorter [] js ns p q = takes_long r' js ns q
  not_shorter (i ∷ is) [] ns p q = takes_long r (i ∷ is) ns p
  not_shorter (i ∷ is) (j ∷ js) [] p q = absurd p
  not_shorter (i ∷ is) (j ∷ js) (n ∷ ns) p q = omega (arith, not_shorter is js ns (and_yes (fits i n) _ p).1 (and_yes (fits j n) _ q).1)

  -- and if it is as long, it fits the shown items place by place.
  pub fits_shown : (is js : List Item) (ns : List Node) → length ns ≡ length (shown is js) → T (matches_items r is ns) → T (matches_items r' js ns)
      → T (matches_items false (shown is js) ns)
  unfolding shown matches_items
  fits_shown [] js ns e p q = takes_exactly r' js ns e q
  fits_shown (i ∷ is) [] ns e p q = takes_exactly r (i ∷ is) ns e p
  fits_shown (i ∷ is) (j ∷ js) [] e p q = p
  fits_shown (i ∷ is) (j ∷ js) (n ∷ ns) e p q =
      let a = and_yes (fits i n) _ p in
      let b = and_yes (fits j n) _ q in
      yes_and (fits (shown_item i j) n) _ (shown_takes i j n a.0 b.0) (fits_shown is js ns (omega (arith, e)) a.1 b.1)

  -- Where they meet, both take what fits the shown items place by place.
  pub shown_fits : (is js : List Item) (ns : List Node) → T (meets r r' is js) → T (matches_items false (shown is js) ns)
      → T (matches_items r is ns) × T (matches_items r' js ns)
  unfolding meets shown matches_items
  shown_fits [] [] [] m t = (tt, tt)
  shown_fits [] [] (n ∷ ns) m t = absurd t
  shown_fits [] (j ∷ js) [] m t = absurd t
  shown_fits [] (j ∷ js) (n ∷ ns) m t = (m, takes_loosely r' (j ∷ js) (n ∷ ns) t)
  shown_fits (i ∷ is) [] [] m t = absurd t
  shown_fits (i ∷ is) [] (n ∷ ns) m t = (takes_loosely r (i ∷ is) (n ∷ ns) t, m)
  shown_fits (i ∷ is) (j ∷ js) [] m t = absurd t
  shown_fits (i ∷ is) (j ∷ js) (n ∷ ns) m t =
      let g = and_yes (agree i j) _ m in
      let a = and_yes (fits (shown_item i j) n) _ t in
      let here = agree_takes i j n g.0 a.0 in
      let later = shown_fits is js ns g.1 a.1 in
      (yes_and (fits i n) _ here.0 later.0, yes_and (fits j n) _ here.1 later.1)

-- ---- which rules overlap

node_good : (i : Item) → T (good_item i) → T (good_node (node_of i))
unfolding good_item good_node node_of
node_good (word w) g = g
node_good (kind k) g = g
node_good group g = tt
node_good list g = tt
node_good any g = tt

pub nodes_good : (is : List Item) → T (good_items is) → T (good_nodes (map node_of is))
unfolding good_items good_nodes
nodes_good [] g = tt
nodes_good (i ∷ is) g =
    let u = and_yes (good_item i) (good_items is) g in yes_and (good_node (node_of i)) _ (node_good i u.0) (nodes_good is u.1)

item_good : (i j : Item) → T (good_item i) → T (good_item j) → T (good_item (shown_item i j))
unfolding shown_item
item_good i j g h = by_if (λ (x : Item). T (good_item x)) (is_any i) (λ _. h) (λ _. g)

pub shown_good : (is js : List Item) → T (good_items is) → T (good_items js) → T (good_items (shown is js))
unfolding shown good_items
shown_good [] js g h = h
shown_good (i ∷ is) [] g h = g
shown_good (i ∷ is) (j ∷ js) g h =
    let u = and_yes (good_item i) (good_items is) g in
    let v = and_yes (good_item j) (good_items js) h in
    yes_and (good_item (shown_item i j)) _ (item_good i j u.0 v.0) (shown_good is js u.1 v.1)

module _ (r s : Rule) where
  -- What the walk over the items finds out is what document 02 asks: some sequence is matched by both.
  pub overlap_found : T (good_items r.items) → T (good_items s.items) → T (rules_meet r s) → Overlap r s
  unfolding rules_meet matches
  overlap_found g h m =
      let both = shown_fits r.rest s.rest r.items s.items (map node_of (shown r.items s.items)) m (takes_nodes false (shown r.items s.items)) in
      record {
        nodes = map node_of (shown r.items s.items);
        good = nodes_good (shown r.items s.items) (shown_good r.items s.items g h);
        by_first = both.0;
        by_second = both.1;
      }

  pub overlap_meets : Overlap r s → T (rules_meet r s)
  unfolding rules_meet matches
  overlap_meets o = meets_by r.rest s.rest r.items s.items o.nodes o.by_first o.by_second

  -- ---- the sequence that is shown

  -- No shorter sequence is matched by both;
  pub none_shorter : (ns : List Node) → T (matches r ns) → T (matches s ns) → length (shown r.items s.items) ≤ length ns
  unfolding matches
  none_shorter ns p q = not_shorter r.rest s.rest r.items s.items ns p q

  -- those of its length that both match are exactly those that fit the shown items place by place.
  pub exactly_shown : T (rules_meet r s) → (ns : List Node) → length ns ≡ length (shown r.items s.items)
      → (T (matches r ns) × T (matches s ns)) ↔ T (matches (record { items = shown r.items s.items; rest = false }) ns)
  unfolding rules_meet matches
  exactly_shown m ns e =
      ((λ p. fits_shown r.rest s.rest r.items s.items ns e p.0 p.1), (λ t. shown_fits r.rest s.rest r.items s.items ns m t))
