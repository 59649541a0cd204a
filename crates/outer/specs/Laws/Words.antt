-- In a formed tree the node before an L is a word.
-- Assumes nothing.
use Rattle.std.specs.Prelude.{ℕ, suc, ◌-◌, ◌<◌, ◌≡◌, refl, ◌⊎◌, Bool, List, T}
use Rattle.std.proofs.Common.{sym, ◌∙◌, subst, arith}
use Rattle.std.proofs.Math.Path.{ap}
use Rattle.std.proofs.Math.Logic.{inl, inr}
use Rattle.std.proofs.Math.Bool.{false}
use Rattle.std.proofs.Math.Dec.{eqb→eq}
use Rattle.rows.specs.Kinds.{Identifier}
use Rattle.reader.specs.Nodes.{NodeKind, t_node, g_node, b_node, l_node, a_node, Nodes, none, node, number, count, records}
use Rattle.reader.specs.Reading.{kind_at}
use Rattle.reader.specs.Laws.NodeNumbers.{In, here, beside, below, place, numbered, says, said}
use Rattle.outer.specs.OuterTemplate.{is_word}
use Rattle.outer.specs.Formed.{NodeFormed, Formed, TreeFormed}
use Rattle.outer.specs.OuterPromises.{WordAt, WordsBeforeLists}

-- A word stands in the tree right before node number n.
record WordBefore (kinds : List ℕ) (x : Nodes) (n : ℕ) : Type 0 where
  token : ℕ
  stands : In t_node token none x
  before : suc (place stands) ≡ n
  identifier : kind_at kinds token ≡ Identifier

module _ (kinds : List ℕ) where
  -- A first node that is a word stands right before the node after it.
  first_word : (k : NodeKind) (i : ℕ) (b x : Nodes) (w : Bool) → NodeFormed k w b → T (is_word kinds k i) → WordBefore kinds (node k i b x) (suc (count b))
  unfolding is_word count place
  first_word t_node i none x w f t = record { token = i; stands = here; before = refl; identifier = eqb→eq _ Identifier t }
  first_word t_node i (node k j b y) x w f t = let clash : count (node k j b y) ≡ 0 = ap count f in absurd (omega (arith, clash))
  first_word g_node i b x w f t = absurd t
  first_word b_node i b x w f t = absurd t
  first_word l_node i b x w f t = absurd t
  first_word a_node i b x w f t = absurd t

  behind_word : (x : Nodes) (w : Bool) → Formed kinds w x → {i : ℕ} {b : Nodes} (u : In l_node i b x) → ((place u ≡ 0) × T w) ⊎ WordBefore kinds x (place u)
  unfolding place count
  behind_word (node k i b x) w f here = inl (refl, f.0.0)
  behind_word (node k i b x) w f (beside u) =
      elim (behind_word x (is_word kinds k i) f.2 u) [
        | inl p ↦ let v = first_word k i b x w f.0 p.1 in inr (record { token = v.token; stands = v.stands; before = omega (arith, v.before, p.0); identifier = v.identifier })
        | inr v ↦ inr (record { token = v.token; stands = beside v.stands; before = omega (arith, v.before); identifier = v.identifier })
      ]
  behind_word (node k i b x) w f (below u) =
      elim (behind_word b false f.1 u) [
        | inl p ↦ absurd p.1
        | inr v ↦ inr (record { token = v.token; stands = below v.stands; before = omega (arith, v.before); identifier = v.identifier })
      ]
  behind_word none w f u = elim u [ ]

  told : (x : Nodes) (n : ℕ) → WordBefore kinds x n → (0 < n) × WordAt kinds (records x) (n - 1)
  unfolding number
  told x n v =
      let at : place v.stands ≡ n - 1 = omega (arith, v.before) in
      let s = rw at at (said v.stands) in
      (omega (arith, v.before), record { is_token = s.the_kind; is_identifier = ap (kind_at kinds) s.the_token ∙ v.identifier })

  at_list : (x : Nodes) → Formed kinds false x → (k : NodeKind) → number k ≡ number l_node → {i : ℕ} {b : Nodes} (u : In k i b x) (n : ℕ) → place u ≡ n
      → (0 < n) × WordAt kinds (records x) (n - 1)
  unfolding number
  at_list x f t_node e u n p = absurd (omega (arith, e))
  at_list x f g_node e u n p = absurd (omega (arith, e))
  at_list x f b_node e u n p = absurd (omega (arith, e))
  at_list x f l_node e u n p =
      elim (behind_word x false f u) [
        | inl q ↦ absurd q.1
        | inr v ↦ told x n (subst (WordBefore kinds x) p v)
      ]
  at_list x f a_node e u n p = absurd (omega (arith, e))

  pub words_before_lists : (x : Nodes) → TreeFormed kinds x → WordsBeforeLists kinds x
  words_before_lists x f n p e = let v = numbered x n p in at_list x f.formed v.the_kind (sym (says v).the_kind ∙ e) v.stands n v.placed
