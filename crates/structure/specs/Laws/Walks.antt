-- A walk over the nodes of a level under an allowance, whatever is done at each node. Assumes nothing.
use Rattle.std.specs.Prelude.{ℕ, suc, ◌+◌, ◌*◌, ◌≤◌, ◌<◌, ◌≡◌, Bool, List, length, Ok, Err, IsErrAnd}
use Rattle.std.proofs.Common.{sym, ap, ◌∙◌, subst, arith, add-one}
use Rattle.reader.specs.Nodes.{Nodes, count, node_width, numbers_bound}
use Rattle.type_nodes.specs.Nodes.{next}
use Rattle.type_nodes.specs.Stands.{Stands, NodesStand, WordedNodes, Of, below}
use Rattle.type_nodes.specs.Laws.Siblings.{first, unique}
use Rattle.structure.specs.Said.{Said, both, plain}
use Rattle.structure.specs.Allowance.{Verdict, verdict_within}
use Rattle.structure.specs.VerdictSays.{VerdictSays}
use Rattle.structure.specs.Laws.Limits.{on_holds, handed_on, limited_both}
use Rattle.structure.specs.declared.moves.Fault.{Fault}

-- The check `whole` of all the nodes, with the steps allowed, comes to what `todo` of the nodes from `at` on does with the steps that are left.
pub record Walk (tree kinds : List ℕ) (whole : Nodes → Said) (from to allowed left : ℕ) (todo : Nodes → Said) (at : ℕ) : Type 0 where
  pub rest : Nodes
  pub stands : Stands tree kinds at to rest
  pub room : node_width * to ≤ length tree
  pub few : to ≤ numbers_bound
  pub past : from ≤ at
  pub is : (x : Nodes) → Stands tree kinds from to x → verdict_within allowed (whole x) ≡ verdict_within left (todo rest)

-- What is done at the nodes `rest`: the check f of the nodes from a to e, and if it holds todo' of the nodes from at' on.
pub record Turn (tree kinds : List ℕ) (todo f todo' : Nodes → Said) (to : ℕ) (rest : Nodes) (at a e at' : ℕ) : Type 0 where
  pub element : Nodes
  pub element_stands : Stands tree kinds a e element
  pub after : Nodes
  pub after_stands : Stands tree kinds at' to after
  pub further : at ≤ at'
  pub is : todo rest ≡ both (f element) (λ _. todo' after)

module _ {tree kinds : List ℕ} {whole : Nodes → Said} {from to allowed : ℕ} where
  pub walk_start : {left : ℕ} (todo : Nodes → Said) → NodesStand tree kinds from to
      → ((x : Nodes) → Stands tree kinds from to x → verdict_within allowed (whole x) ≡ verdict_within left (todo x)) → Walk tree kinds whole from to allowed left todo from
  walk_start {left} todo r e = record {
    rest = r.nodes;
    stands = r.stands;
    room = r.room;
    few = r.few;
    past = omega arith;
    is = λ x s. e x s ∙ ap (λ (y : Nodes). verdict_within left (todo y)) (unique s r.stands);
  }

  module _ {left : ℕ} {todo : Nodes → Said} {at : ℕ} (lp : Walk tree kinds whole from to allowed left todo at) where
    -- A range within what is left of the level.
    pub walk_element : {words : List ℕ} {a e : ℕ} {element : Nodes} → Stands tree kinds a e element → e ≤ to → length words ≡ length kinds → WordedNodes tree kinds words a e
    walk_element s h k = record {
      nodes_stand = record { nodes = _; stands = s; room = omega (arith, lp.room); few = omega (arith, lp.few) };
      worded = k;
    }

    pub walk_ends : (r : Bool) {v : Verdict} → todo lp.rest ≡ plain r → v ≡ verdict_within left (plain r) → VerdictSays tree kinds from to allowed whole v
    walk_ends r t e = record { says = λ x s. e ∙ sym (lp.is x s ∙ ap (verdict_within left) t) }

    -- On to other nodes without a check.
    pub walk_on : {at' : ℕ} {rest' : Nodes} (todo' : Nodes → Said) → todo lp.rest ≡ todo' rest' → Stands tree kinds at' to rest' → at ≤ at'
        → Walk tree kinds whole from to allowed left todo' at'
    walk_on todo' t s h = record {
      rest = _;
      stands = s;
      room = lp.room;
      few = lp.few;
      past = omega (arith, lp.past);
      is = λ x u. lp.is x u ∙ ap (verdict_within left) t;
    }

    -- A check of some nodes first.
    module _ {f todo' : Nodes → Said} {a e at' : ℕ} {v : Verdict} (t : Turn tree kinds todo f todo' to lp.rest at a e at') (sv : VerdictSays tree kinds a e left f v) where
      gone : verdict_within left (todo lp.rest) ≡ on_holds v (λ m. verdict_within m (todo' t.after))
      gone = ap (verdict_within left) t.is ∙ limited_both left _ _ ∙ rw (← sv.says t.element t.element_stands)

      pub walk_stops : {r : Verdict} {fault : Fault} → v ≡ Err fault → IsErrAnd r (λ y. y ≡ fault) → VerdictSays tree kinds from to allowed whole r
      unfolding on_holds
      walk_stops q o = record { says = λ x u. handed_on q o ∙ sym (lp.is x u ∙ gone ∙ rw q) }

      pub walk_holds : {m : ℕ} → v ≡ Ok m → Walk tree kinds whole from to allowed m todo' at'
      unfolding on_holds
      walk_holds q = record {
        rest = t.after;
        stands = t.after_stands;
        room = lp.room;
        few = lp.few;
        past = omega (arith, lp.past, t.further);
        is = λ x u. lp.is x u ∙ gone ∙ rw q;
      }

    -- The node at hand ends at e.
    module _ (h : at < to) {e : ℕ} (en : Of tree kinds at to (λ x. e ≡ suc (at + count (below x)))) where
      ended : e ≡ suc (at + count (below lp.rest))
      ended = en lp.rest lp.stands

      pub after_it : Stands tree kinds e to (next lp.rest)
      after_it = subst (λ (u : ℕ). Stands tree kinds u to (next lp.rest)) (sym ended) (first lp.stands h).rest

      pub below_it : Stands tree kinds (at + 1) e (below lp.rest)
      below_it = subst (λ (u : ℕ). Stands tree kinds (at + 1) u (below lp.rest)) (sym ended) (rw add-one (first lp.stands h).inner)

      pub walk_further : at < e
      walk_further = omega (arith, ended)

      pub walk_fits : e ≤ to
      walk_fits = omega (arith, ended, (first lp.stands h).fits)

      pub walk_below : {words : List ℕ} → length words ≡ length kinds → WordedNodes tree kinds words (at + 1) e
      walk_below k = walk_element below_it walk_fits k

      pub walk_after : NodesStand tree kinds e to
      walk_after = record { nodes = next lp.rest; stands = after_it; room = lp.room; few = lp.few }
