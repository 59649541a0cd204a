-- The walk that finds an empty part between commas, and the ellipsis. Assumes nothing.
use Rattle.std.specs.Prelude.{ℕ, suc, ◌+◌, ◌*◌, ◌≤◌, ◌<◌, Bool, not, ◌&&◌, ◌||◌, length, eqb}
use Rattle.std.proofs.Math.Path.{◌≡◌, refl, sym, ap}
use Rattle.std.proofs.Common.{◌∙◌, subst, arith}
use Rattle.std.proofs.Math.Bool.{true, false}
use mathlib.Core.List.{List, [], ◌∷◌}
use Rattle.std.proofs.Math.Decide.{dec_le}
use borrow.Author.Tests.{eq-eqb, ne_eqb}
use Rattle.reader.specs.Nodes.{Nodes, none, node, count, node_width, numbers_bound}
use Rattle.type_nodes.specs.Nodes.{empty, next, shape, is_ellipsis}
use Rattle.type_nodes.specs.SplitOnCommas.{prepend, split_on_commas, elements_are_full}
use Rattle.type_nodes.specs.Shapes.{NoNode}
use Rattle.type_nodes.specs.Stands.{Stands, NodesStand, Of, below}
use Rattle.type_nodes.specs.Laws.Siblings.{first, nothing_left, shape_none, last_empty, unique}

-- ---- commas: `some` tells whether the part at hand has a node already

unfoldable pub full_from : (some : Bool) → List Nodes → Bool
full_from some [] = true
full_from some (x ∷ xs) = (some || not (empty x)) && elements_are_full xs

pub full_none : (some : Bool) (kinds : List ℕ) (x : Nodes) → x ≡ none → full_from some (split_on_commas kinds x) ≡ some
unfolding full_from split_on_commas empty elements_are_full
full_none true kinds x e = rw e
full_none false kinds x e = rw e

pub full_start : (kinds : List ℕ) (x : Nodes) → elements_are_full (split_on_commas kinds x) ≡ full_from false (split_on_commas kinds x)
unfolding full_from elements_are_full
full_start kinds x = go (split_on_commas kinds x)
  where
    go : (l : List Nodes) → elements_are_full l ≡ full_from false l
    go [] = refl
    go (y ∷ ys) = refl

module _ (kinds : List ℕ) (some : Bool) where
  pub full_comma : (x : Nodes) → empty x ≡ false → shape kinds x ≡ 12 → full_from some (split_on_commas kinds x) ≡ some && full_from false (split_on_commas kinds (next x))
  unfolding split_on_commas full_from empty next
  full_comma none h e = let z : ◌≡◌ {A = ℕ} 0 1 = cc in absurd (omega arith)
  full_comma (node k i b x) h e = rw (eq-eqb _ _ e) (two some ∙ ap (λ (t : Bool). some && t) (full_start kinds x))
    where
      two : (t : Bool) → (t || false) && elements_are_full (split_on_commas kinds x) ≡ t && elements_are_full (split_on_commas kinds x)
      two true = refl
      two false = refl

  pub full_other : (x : Nodes) → empty x ≡ false → (shape kinds x ≡ 12 → ⊥) → full_from some (split_on_commas kinds x) ≡ full_from true (split_on_commas kinds (next x))
  unfolding split_on_commas empty next prepend full_from
  full_other none h e = let z : ◌≡◌ {A = ℕ} 0 1 = cc in absurd (omega arith)
  full_other (node k i b x) h e = rw (ne_eqb _ _ e) (go some (split_on_commas kinds x))
    where
      go : (t : Bool) (l : List Nodes) → full_from t (prepend k i b l) ≡ full_from true l
      go t [] = refl
      go true (y ∷ ys) = refl
      go false (y ∷ ys) = refl

pub record CommaLoop (tree kinds : List ℕ) (from to : ℕ) (some : Bool) (at : ℕ) : Type 0 where
  pub rest : Nodes
  pub stands : Stands tree kinds at to rest
  pub room : node_width * to ≤ length tree
  pub few : to ≤ numbers_bound
  pub is : (x : Nodes) → Stands tree kinds from to x → elements_are_full (split_on_commas kinds x) ≡ full_from some (split_on_commas kinds rest)

module _ {tree kinds : List ℕ} {from to : ℕ} where
  pub comma_start : NodesStand tree kinds from to → CommaLoop tree kinds from to false from
  comma_start r = record {
    rest = r.nodes;
    stands = r.stands;
    room = r.room;
    few = r.few;
    is = λ x s. rw (unique s r.stands) (full_start kinds r.nodes);
  }

  module _ {some : Bool} {at : ℕ} (lp : CommaLoop tree kinds from to some at) where
    pub comma_end : to ≤ at → Of tree kinds from to (λ x. some ≡ elements_are_full (split_on_commas kinds x))
    comma_end h x s = sym (lp.is x s ∙ full_none some kinds lp.rest (nothing_left lp.stands h))

    module _ (h : at < to) {s : ℕ} (sh : Of tree kinds at to (λ x. s ≡ shape kinds x)) where
      pub comma_bad : s ≡ 12 → some ≡ false → Of tree kinds from to (λ x. false ≡ elements_are_full (split_on_commas kinds x))
      comma_bad e z x t = sym (lp.is x t ∙ full_comma kinds some lp.rest (first lp.stands h).full (sym (sh lp.rest lp.stands) ∙ e) ∙ rw z)

      module _ {e : ℕ} (en : Of tree kinds at to (λ x. e ≡ suc (at + count (below x)))) where
        ended : e ≡ suc (at + count (below lp.rest))
        ended = en lp.rest lp.stands

        after_it : Stands tree kinds e to (next lp.rest)
        after_it = subst (λ (u : ℕ). Stands tree kinds u to (next lp.rest)) (sym ended) (first lp.stands h).rest

        pub comma_next : s ≡ 12 → some ≡ true → CommaLoop tree kinds from to false e
        comma_next c z = record {
          rest = next lp.rest;
          stands = after_it;
          room = lp.room;
          few = lp.few;
          is = λ x t. lp.is x t ∙ full_comma kinds some lp.rest (first lp.stands h).full (sym (sh lp.rest lp.stands) ∙ c) ∙ rw z;
        }

        pub comma_other : (s ≡ 12 → ⊥) → CommaLoop tree kinds from to true e
        comma_other c = record {
          rest = next lp.rest;
          stands = after_it;
          room = lp.room;
          few = lp.few;
          is = λ x t. lp.is x t ∙ full_other kinds some lp.rest (first lp.stands h).full (λ q. c (sh lp.rest lp.stands ∙ q));
        }

-- ---- three dots

module _ {tree kinds : List ℕ} where
  -- A shape that is not `NoNode` is that of a node.
  pub shaped_range : {at to s : ℕ} → NodesStand tree kinds at to → Of tree kinds at to (λ x. s ≡ shape kinds x) → s < NoNode → at < to
  shaped_range {at} {to} f sh h =
      elim (dec_le to at) [
        | yes p ↦ let u = sh f.nodes f.stands ∙ shape_none f.stands p in absurd (omega (arith, u, h))
        | no p ↦ omega arith
      ]

  pub inside_range : {at to s : ℕ} → NodesStand tree kinds at to → Of tree kinds at to (λ x. s ≡ shape kinds x) → s ≡ 16 → at < to
  inside_range f sh e = shaped_range f sh (omega (arith, e))

  pub formed_next : {at to e : ℕ} → NodesStand tree kinds at to → at < to → Of tree kinds at to (λ x. e ≡ suc (at + count (below x))) → NodesStand tree kinds e to
  formed_next {to = to} f h en = record {
    nodes = next f.nodes;
    stands = subst (λ (u : ℕ). Stands tree kinds u to (next f.nodes)) (sym (en f.nodes f.stands)) (first f.stands h).rest;
    room = f.room;
    few = f.few;
  }

  pub stands_next : {at to e : ℕ} {x : Nodes} → Stands tree kinds at to x → at < to → Of tree kinds at to (λ x. e ≡ suc (at + count (below x))) → Stands tree kinds e to (next x)
  stands_next {to = to} {x = x} t h en = subst (λ (u : ℕ). Stands tree kinds u to (next x)) (sym (en x t)) (first t h).rest

  module _ {from to s₁ : ℕ} (sh₁ : Of tree kinds from to (λ x. s₁ ≡ shape kinds x)) where
    pub no_dot_1 : (s₁ ≡ 16 → ⊥) → Of tree kinds from to (λ x. false ≡ is_ellipsis kinds x)
    unfolding is_ellipsis
    no_dot_1 n x t = sym (rw (← sh₁ x t, ne_eqb s₁ 16 n))

    module _ {a s₂ : ℕ} (y₁ : s₁ ≡ 16) (h₁ : from < to) (en₁ : Of tree kinds from to (λ x. a ≡ suc (from + count (below x)))) (sh₂ : Of tree kinds a to (λ x. s₂ ≡ shape kinds x)) where
      pub no_dot_2 : (s₂ ≡ 16 → ⊥) → Of tree kinds from to (λ x. false ≡ is_ellipsis kinds x)
      unfolding is_ellipsis
      no_dot_2 n x t = sym (rw (← sh₁ x t, eq-eqb s₁ 16 y₁, ← sh₂ (next x) (stands_next t h₁ en₁), ne_eqb s₂ 16 n))

      module _ {b s₃ : ℕ} (y₂ : s₂ ≡ 16) (h₂ : a < to) (en₂ : Of tree kinds a to (λ x. b ≡ suc (a + count (below x)))) (sh₃ : Of tree kinds b to (λ x. s₃ ≡ shape kinds x)) where
        pub no_dot_3 : (s₃ ≡ 16 → ⊥) → Of tree kinds from to (λ x. false ≡ is_ellipsis kinds x)
        unfolding is_ellipsis
        no_dot_3 n x t = let u = stands_next t h₁ en₁ in
            sym (rw (← sh₁ x t, eq-eqb s₁ 16 y₁, ← sh₂ (next x) u, eq-eqb s₂ 16 y₂, ← sh₃ (next (next x)) (stands_next u h₂ en₂), ne_eqb s₃ 16 n))

        pub dots : {e : ℕ} → s₃ ≡ 16 → b < to → Of tree kinds b to (λ x. e ≡ suc (b + count (below x))) → Of tree kinds from to (λ x. eqb e to ≡ is_ellipsis kinds x)
        unfolding is_ellipsis
        dots {e} y₃ h₃ en₃ x t = let u = stands_next t h₁ en₁ in let v = stands_next u h₂ en₂ in
            sym (rw (← sh₁ x t, eq-eqb s₁ 16 y₁, ← sh₂ (next x) u, eq-eqb s₂ 16 y₂, ← sh₃ (next (next x)) v, eq-eqb s₃ 16 y₃) (sym (last_empty (stands_next v h₃ en₃))))
