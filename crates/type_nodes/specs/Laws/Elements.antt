-- The parts between commas, one at a time, and the walk to the end of the first. Assumes nothing.
use Prim.Native.Nat.{ℕ, suc, ◌+◌, ◌*◌, ◌≤◌, ◌<◌}
use Rattle.std.specs.Prelude.{◌≡◌, refl, Bool, List, [], ◌∷◌, length, eqb, if◌then◌else◌}
use Rattle.std.proofs.Common.{sym, ap, ◌∙◌, true≢false, eq-eqb, ne_eqb}
use Rattle.std.proofs.Math.Path.{subst}
use Rattle.std.proofs.Math.Bool.{true, false}
use native.Mathlib.Omega.{arith}
use Rattle.rows.specs.Kinds.{Comma}
use Rattle.reader.specs.Nodes.{Nodes, none, node, count, node_width, numbers_bound}
use Rattle.type_nodes.specs.Nodes.{empty, next, shape}
use Rattle.type_nodes.specs.SplitOnCommas.{prepend, split_on_commas}
use Rattle.type_nodes.specs.Stands.{first_element, from_comma, Stands, ends, here, NodesStand, Of, below}
use Rattle.type_nodes.specs.Laws.Siblings.{first, nothing_left, unique}

-- The parts after the first: the nodes are those from the first comma on.
unfoldable pub others : (kinds : List ℕ) → Nodes → List Nodes
others kinds none = []
others kinds (node k i b x) = split_on_commas kinds x

pub split_first : (kinds : List ℕ) (x : Nodes) → split_on_commas kinds x ≡ first_element kinds x ∷ others kinds (from_comma kinds x)
unfolding split_on_commas first_element from_comma others prepend
split_first kinds none = refl
split_first kinds (node k i b x) = go (eqb (shape kinds (node k i b x)) Comma) (split_first kinds x)
  where
    go : (c : Bool) → split_on_commas kinds x ≡ first_element kinds x ∷ others kinds (from_comma kinds x)
        → ◌≡◌ {A = List Nodes} (if c then none ∷ split_on_commas kinds x else prepend k i b (split_on_commas kinds x))
        ((if c then none else node k i b (first_element kinds x)) ∷ others kinds (if c then node k i b x else from_comma kinds x))
    go true e = refl
    go false e = ap (prepend k i b) e

pub others_next : (kinds : List ℕ) (x : Nodes) → empty x ≡ false → others kinds x ≡ split_on_commas kinds (next x)
unfolding others empty next
others_next kinds none h = absurd (true≢false h)
others_next kinds (node k i b x) h = refl

pub others_none : (kinds : List ℕ) (x : Nodes) → x ≡ none → others kinds x ≡ []
unfolding others
others_none kinds x e = rw e

-- A part stands in the range that it takes up, and the nodes from the comma on after it.
module _ {tree kinds : List ℕ} where
  pub element_stands : {a e : ℕ} {x : Nodes} → Stands tree kinds a e x → Stands tree kinds a (a + count (first_element kinds x)) (first_element kinds x)
  unfolding first_element count
  element_stands {a} (ends p) = let u : a ≡ a + 0 = omega arith in ends u
  element_stands {a} (here {k = k} {i = i} {b = b} {x = x} p q c t s r) = go (eqb (shape kinds (node k i b x)) Comma) (element_stands r)
    where
      go : (z : Bool) → Stands tree kinds (suc (a + count b)) (suc (a + count b) + count (first_element kinds x)) (first_element kinds x)
          → Stands tree kinds a (a + count (if z then none else node k i b (first_element kinds x))) (if z then none else node k i b (first_element kinds x))
      go true u = let v : a ≡ a + 0 = omega arith in ends v
      go false u =
          let v : suc (a + count b) + count (first_element kinds x) ≡ a + suc (count b + count (first_element kinds x)) = omega arith in
          here p q c t s (subst (λ (m : ℕ). Stands tree kinds (suc (a + count b)) m (first_element kinds x)) v u)

  pub comma_stands : {a e : ℕ} {x : Nodes} → Stands tree kinds a e x → Stands tree kinds (a + count (first_element kinds x)) e (from_comma kinds x)
  unfolding first_element from_comma count
  comma_stands {a} {e} (ends p) = let u : a + 0 ≡ e = omega (arith, p) in ends u
  comma_stands {a} {e} (here {k = k} {i = i} {b = b} {x = x} p q c t s r) = go (eqb (shape kinds (node k i b x)) Comma) (comma_stands r)
    where
      go : (z : Bool) → Stands tree kinds (suc (a + count b) + count (first_element kinds x)) e (from_comma kinds x)
          → Stands tree kinds (a + count (if z then none else node k i b (first_element kinds x))) e (if z then node k i b x else from_comma kinds x)
      go true u = subst (λ (m : ℕ). Stands tree kinds m e (node k i b x)) (omega arith) (here p q c t s r)
      go false u = subst (λ (m : ℕ). Stands tree kinds m e (from_comma kinds x)) (omega arith) u

-- ---- where the first part ends

pub record ElementLoop (tree kinds : List ℕ) (from to at : ℕ) : Type 0 where
  pub rest : Nodes
  pub stands : Stands tree kinds at to rest
  pub room : node_width * to ≤ length tree
  pub few : to ≤ numbers_bound
  pub is : (x : Nodes) → Stands tree kinds from to x → from + count (first_element kinds x) ≡ at + count (first_element kinds rest)

first_comma : (kinds : List ℕ) (x : Nodes) → shape kinds x ≡ Comma → count (first_element kinds x) ≡ 0
unfolding first_element count
first_comma kinds none e = refl
first_comma kinds (node k i b x) e = rw (eq-eqb _ _ e)

first_other : (kinds : List ℕ) (x : Nodes) → empty x ≡ false → (shape kinds x ≡ Comma → ⊥)
    → count (first_element kinds x) ≡ suc (count (below x) + count (first_element kinds (next x)))
unfolding first_element count empty below next
first_other kinds none h e = absurd (true≢false h)
first_other kinds (node k i b x) h e = rw (ne_eqb _ _ e)

first_none : (kinds : List ℕ) (x : Nodes) → x ≡ none → count (first_element kinds x) ≡ 0
unfolding first_element count
first_none kinds x e = rw e

module _ {tree kinds : List ℕ} {from to : ℕ} where
  pub element_start : NodesStand tree kinds from to → ElementLoop tree kinds from to from
  element_start r = record {
    rest = r.nodes;
    stands = r.stands;
    room = r.room;
    few = r.few;
    is = λ x s. ap (λ (y : Nodes). from + count (first_element kinds y)) (unique s r.stands);
  }

  module _ {at : ℕ} (lp : ElementLoop tree kinds from to at) where
    pub element_last : to ≤ at → Of tree kinds from to (λ x. at ≡ from + count (first_element kinds x))
    element_last h x s = omega (arith, lp.is x s, first_none kinds lp.rest (nothing_left lp.stands h))

    module _ (h : at < to) {m : ℕ} (sh : Of tree kinds at to (λ x. m ≡ shape kinds x)) where
      pub element_comma : m ≡ Comma → Of tree kinds from to (λ x. at ≡ from + count (first_element kinds x))
      element_comma e x s = omega (arith, lp.is x s, first_comma kinds lp.rest (sym (sh lp.rest lp.stands) ∙ e))

      module _ {e : ℕ} (en : Of tree kinds at to (λ x. e ≡ suc (at + count (below x)))) where
        pub element_next : (m ≡ Comma → ⊥) → ElementLoop tree kinds from to e
        element_next n = record {
          rest = next lp.rest;
          stands = subst (λ (u : ℕ). Stands tree kinds u to (next lp.rest)) (sym (en lp.rest lp.stands)) (first lp.stands h).rest;
          room = lp.room;
          few = lp.few;
          is = λ x s. omega (
            arith,
            lp.is x s,
            en lp.rest lp.stands,
            first_other kinds lp.rest (first lp.stands h).full (λ q. n (sh lp.rest lp.stands ∙ q)),
          );
        }
