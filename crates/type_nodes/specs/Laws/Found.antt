-- The walk that finds a node of a shape. Assumes nothing.
use Rattle.std.specs.Prelude.{ℕ, suc, ◌+◌, ◌*◌, ◌≤◌, ◌<◌, ◌≡◌, refl, true, false, ◌||◌, List, length, eqb}
use Rattle.std.proofs.Common.{sym, ◌∙◌, subst, true≢false, eq-eqb, ne_eqb}
use Rattle.reader.specs.Nodes.{Nodes, none, node, count, node_width, numbers_bound}
use Rattle.type_nodes.specs.Nodes.{empty, next, shape}
use Rattle.type_nodes.specs.AbstractDeclarators.{any}
use Rattle.type_nodes.specs.Stands.{Stands, NodesStand, Of, below}
use Rattle.type_nodes.specs.Laws.Siblings.{first, nothing_left, unique}

pub record AnyLoop (tree kinds : List ℕ) (wanted from to at : ℕ) : Type 0 where
  pub rest : Nodes
  pub stands : Stands tree kinds at to rest
  pub room : node_width * to ≤ length tree
  pub few : to ≤ numbers_bound
  pub is : (x : Nodes) → Stands tree kinds from to x → any kinds wanted x ≡ any kinds wanted rest

any_first : (kinds : List ℕ) (wanted : ℕ) (x : Nodes) → empty x ≡ false → any kinds wanted x ≡ (eqb (shape kinds x) wanted || any kinds wanted (next x))
unfolding any empty next
any_first kinds wanted none h = absurd (true≢false h)
any_first kinds wanted (node k i b x) h = refl

any_none : (kinds : List ℕ) (wanted : ℕ) (x : Nodes) → x ≡ none → any kinds wanted x ≡ false
unfolding any
any_none kinds wanted x e = rw (e)

module _ {tree kinds : List ℕ} {from to : ℕ} where
  pub any_start : (w : ℕ) → NodesStand tree kinds from to → AnyLoop tree kinds w from to from
  any_start w r = record {
    rest = r.nodes;
    stands = r.stands;
    room = r.room;
    few = r.few;
    is = λ x s. rw (unique s r.stands) refl;
  }

module _ {tree kinds : List ℕ} {wanted from to at : ℕ} (lp : AnyLoop tree kinds wanted from to at) where
  pub any_end : to ≤ at → Of tree kinds from to (λ x. false ≡ any kinds wanted x)
  any_end h x s = sym (lp.is x s ∙ any_none kinds wanted lp.rest (nothing_left lp.stands h))

  module _ (h : at < to) {m : ℕ} (sh : Of tree kinds at to (λ x. m ≡ shape kinds x)) where
    pub any_here : m ≡ wanted → Of tree kinds from to (λ x. true ≡ any kinds wanted x)
    any_here e x t =
        sym (lp.is x t ∙ any_first kinds wanted lp.rest (first lp.stands h).full ∙ rw (← sh lp.rest lp.stands, eq-eqb m wanted e) refl)

    module _ {e : ℕ} (en : Of tree kinds at to (λ x. e ≡ suc (at + count (below x)))) where
      pub any_next : (m ≡ wanted → ⊥) → AnyLoop tree kinds wanted from to e
      any_next n = record {
        rest = next lp.rest;
        stands = subst (λ (u : ℕ). Stands tree kinds u to (next lp.rest)) (sym (en lp.rest lp.stands)) (first lp.stands h).rest;
        room = lp.room;
        few = lp.few;
        is = λ x t. lp.is x t ∙ any_first kinds wanted lp.rest (first lp.stands h).full ∙ rw (← sh lp.rest lp.stands, ne_eqb m wanted n) refl;
      }
