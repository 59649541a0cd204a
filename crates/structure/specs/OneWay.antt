-- Nodes stand in a range in one way only: so a type may keep the fact.
-- Assumes nothing.
use mathlib.Core.HLevel.{is_prop→PathP}
use Rattle.std.proofs.Math.Nat.{ℕ_set}
use Rattle.std.proofs.Math.Bridge.{le_prop}
use Rattle.std.specs.Prelude.{ℕ, ◌≡◌, List}
use Rattle.reader.specs.Nodes.{Nodes}
use Rattle.type_nodes.specs.Stands.{Stands, NodesStand, WordedNodes}
use Rattle.type_nodes.specs.Laws.Siblings.{unique}

module _ {tree kinds : List ℕ} where
  stands_prop : {a e : ℕ} {x : Nodes} (p q : Stands tree kinds a e x) → p ≡ q
  stands_prop (Stands.ends p) (Stands.ends q) = λ i. Stands.ends (ℕ_set _ _ p q i)
  stands_prop (Stands.here k n c l s r) (Stands.here k' n' c' l' s' r') =
      λ i. Stands.here (ℕ_set _ _ k k' i) (ℕ_set _ _ n n' i) (ℕ_set _ _ c c' i) (le_prop l l' i) (stands_prop s s' i) (stands_prop r r' i)

  nodes_stand_prop : {from to : ℕ} (p q : NodesStand tree kinds from to) → p ≡ q
  nodes_stand_prop {from} {to} p q =
      let e : p.nodes ≡ q.nodes = unique p.stands q.stands in
      λ i. record {
        nodes = e i;
        stands = is_prop→PathP (λ j. Stands tree kinds from to (e j)) (λ j. stands_prop) p.stands q.stands i;
        room = le_prop p.room q.room i;
        few = le_prop p.few q.few i;
      }

pub worded_one_way : (tree kinds words : List ℕ) (from to : ℕ) → IsProp (WordedNodes tree kinds words from to)
worded_one_way tree kinds words from to p q = λ i. record { nodes_stand = nodes_stand_prop p.nodes_stand q.nodes_stand i; worded = ℕ_set _ _ p.worded q.worded i }
