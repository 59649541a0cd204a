-- The nodes of a tree by number: each number below the count is one node's, and the node records say that node's kind, token and extent.
-- Assumes nothing.
use Rattle.std.specs.Prelude.{ℕ, zero, suc, ◌+◌, ◌*◌, ◌-◌, ◌≤◌, ◌<◌, ◌≡◌, refl, List, [], ◌∷◌, ◌++◌, length, get_or}
use Rattle.std.proofs.Common.{ap, ◌∙◌, append_assoc, arith, length-append, get_or-append-add}
use Rattle.std.proofs.Math.Decide.{dec_le}
use Rattle.reader.specs.Nodes.{NodeKind, Nodes, none, node, number, count, node_width, records}
use Rattle.reader.specs.Nodes.{kind_of, token_of, extent_of}

-- A node of this kind, with this token and these nodes below it, stands in the tree.
pub data In (k : NodeKind) (i : ℕ) (b : Nodes) : Nodes → Type 0 where
  here : {x : Nodes} → In k i b (node k i b x)
  beside : {k' : NodeKind} {i' : ℕ} {b' x : Nodes} → In k i b x → In k i b (node k' i' b' x)
  below : {k' : NodeKind} {i' : ℕ} {b' x : Nodes} → In k i b b' → In k i b (node k' i' b' x)

-- Its number, parents first.
unfoldable pub place : {k : NodeKind} {i : ℕ} {b x : Nodes} → In k i b x → ℕ
unfolding count
place here = 0
place (beside {b' = b'} u) = suc (count b' + place u)
place (below u) = suc (place u)

pub in_count : {k : NodeKind} {i : ℕ} {b x : Nodes} (u : In k i b x) → place u + suc (count b) ≤ count x
unfolding place count
in_count here = omega arith
in_count (below u) = omega (arith, in_count u)
in_count (beside u) = omega (arith, in_count u)

-- ---- in the records

-- "Three 32-bit numbers" each.
pub three_each : (x : Nodes) → length (records x) ≡ node_width * count x
unfolding records count
three_each none = refl
three_each (node k i b x) = simp length-append (omega (arith, three_each b, three_each x))

-- A node's record, and those of the nodes below it, begin at three times its number.
pub recorded : {k : NodeKind} {i : ℕ} {b x : Nodes} (u : In k i b x)
    → (front : List ℕ) × (back : List ℕ) × (length front ≡ node_width * place u) × (records x ≡ front ++ (number k ∷ i ∷ suc (count b) ∷ records b ++ back))
unfolding records place count
recorded (here {x = x}) = ([], records x, refl, refl)
recorded (below {k' = k'} {i' = i'} {b' = b'} {x = x} u) =
    let r = recorded u in
    (number k' ∷ i' ∷ suc (count b') ∷ r.0, r.1 ++ records x, omega (arith, r.2), rw r.3 (simp append_assoc))
recorded (beside {k' = k'} {i' = i'} {b' = b'} u) =
    let r = recorded u in
    (number k' ∷ i' ∷ suc (count b') ∷ records b' ++ r.0, r.1, simp length-append (omega (arith, r.2, three_each b')), rw r.3 (simp append_assoc))

-- Number n of these records is a node of this kind, token and extent.
pub record RecordSays (records : List ℕ) (n k i extent : ℕ) : Type 0 where
  pub the_kind : kind_of records n ≡ k
  pub the_token : token_of records n ≡ i
  pub the_extent : extent_of records n ≡ extent

pub said : {k : NodeKind} {i : ℕ} {b x : Nodes} (u : In k i b x) → RecordSays (records x) (place u) (number k) i (suc (count b))
unfolding kind_of token_of extent_of
said {k} {i} {b} {x} u =
    let r = recorded u in
    let tail : List ℕ = number k ∷ i ∷ suc (count b) ∷ records b ++ r.1 in
    let field : (j : ℕ) → get_or (records x) (node_width * place u + j) 0 ≡ get_or tail j 0 =
    λ j. rw (r.3, ← r.2) (get_or-append-add r.0 tail j 0) in
    record { the_kind = ap (λ (n : ℕ). get_or (records x) n 0) (omega arith) ∙ field 0; the_token = field 1; the_extent = field 2 }

-- ---- by number

-- Node n of a tree.
pub record Node (x : Nodes) (n : ℕ) : Type 0 where
  pub the_kind : NodeKind
  pub the_token : ℕ
  pub beneath : Nodes
  pub stands : In the_kind the_token beneath x
  pub placed : place stands ≡ n

-- Every number below the count is a node's.
pub numbered : (x : Nodes) (n : ℕ) → n < count x → Node x n
unfolding count place
numbered none n h = absurd (omega arith)
numbered (node k i b x) zero h = record { the_kind = k; the_token = i; beneath = b; stands = here; placed = refl }
numbered (node k i b x) (suc n) h =
    elim (dec_le (count b) n) [
      | yes p ↦
          let r = numbered x (n - count b) (omega arith) in
          record { the_kind = r.the_kind; the_token = r.the_token; beneath = r.beneath; stands = beside r.stands; placed = omega (arith, r.placed) }
      | no p ↦
          let r = numbered b n (omega arith) in
          record { the_kind = r.the_kind; the_token = r.the_token; beneath = r.beneath; stands = below r.stands; placed = omega (arith, r.placed) }
    ]

-- The records say of node n what it is in the tree.
pub says : {x : Nodes} {n : ℕ} (v : Node x n) → RecordSays (records x) n (number v.the_kind) v.the_token (suc (count v.beneath))
says v = rw v.placed at (said v.stands)

-- The nodes whose number is within a node's extent stand below it.
pub in_extent : {k k' : NodeKind} {i t : ℕ} {b c x : Nodes} (u : In k i b x) (v : In k' t c x)
    → place u < place v → place v < place u + suc (count b) → In k' t c b
unfolding place count
in_extent here here p q = absurd (omega arith)
in_extent here (below v) p q = v
in_extent here (beside v) p q = absurd (omega arith)
in_extent (below u) here p q = absurd (omega arith)
in_extent (below u) (below v) p q = in_extent u v (omega arith) (omega arith)
in_extent (below u) (beside v) p q = absurd (omega (arith, in_count u))
in_extent (beside u) here p q = absurd (omega arith)
in_extent (beside u) (below v) p q = absurd (omega (arith, in_count v))
in_extent (beside u) (beside v) p q = in_extent u v (omega arith) (omega arith)
