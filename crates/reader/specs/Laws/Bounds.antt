-- Where a reading ends, how deep and how large its tree is, and that nothing is left over, so that refusal 23 never comes.
-- Assumes nothing.
use Rattle.std.specs.Prelude.{ℕ, suc, ◌+◌, ◌*◌, ◌≤◌, ◌<◌, ◌≡◌, refl, Bool, false, List, length, T}
use Rattle.std.proofs.Common.{sym, ◌∙◌}
use native.Mathlib.Omega.{arith}
use Rattle.rows.specs.Kinds.{NoToken}
use Rattle.reader.specs.Nodes.{NodeKind, Nodes, count}
use Rattle.reader.specs.Reading.{Region, top, round, square, argument, list, kind_at, MAX_NESTING_DEPTH}
use Rattle.reader.specs.Standing.{deeper, depth}
use Rattle.reader.specs.Laws.Tokens.{inside, KindsKnown, past_end}
use Rattle.reader.specs.Derivation.{Opens, parens, brackets, nodal, Closes, by_half, by_one, by_two, Derivation, end_row, end_group, end_argument, a_token, a_group, a_list, last, more, RowDerived}
use Rattle.reader.specs.Laws.Derived.{opener_kind, closer_kind}

-- One at a list, none elsewhere: for the size it is the node of an argument, for the half of a `>>` the list itself, for the fuel one turn more.
abbrev pub for_list : Region → ℕ
for_list top = 0
for_list round = 0
for_list square = 0
for_list argument = 0
for_list list = 1

pub for_list_small : (l : Region) → for_list l ≤ 1
for_list_small top = omega arith
for_list_small round = omega arith
for_list_small square = omega arith
for_list_small argument = omega arith
for_list_small list = omega arith

pub nodal_for_list : (l : Region) (h : Bool) → T (nodal l h) → for_list l ≡ 0
nodal_for_list top h t = refl
nodal_for_list round h t = refl
nodal_for_list square h t = refl
nodal_for_list argument h t = refl
nodal_for_list list h t = absurd t

pub group_for_list : {k : NodeKind} {v : Region} {o c : ℕ} → Opens k v o c → for_list v ≡ 0
group_for_list parens = refl
group_for_list brackets = refl

-- One at a group: the closer that it takes.
abbrev pub closer : Region → ℕ
closer top = 0
closer round = 1
closer square = 1
closer argument = 0
closer list = 0

pub group_closer : {k : NodeKind} {v : Region} {o c : ℕ} → Opens k v o c → closer v ≡ 1
group_closer parens = refl
group_closer brackets = refl

group_deeper : {k : NodeKind} {v : Region} {o c : ℕ} → Opens k v o c → (d : ℕ) → deeper k d ≡ suc d
unfolding deeper
group_deeper parens d = refl
group_deeper brackets d = refl

module _ (row : List ℕ) where
  pub opener_inside : {k : NodeKind} {v : Region} {o c : ℕ} → Opens k v o c → (a : ℕ) → kind_at row a ≡ o → a < length row
  opener_inside op a e = inside row a (λ u. opener_kind op (sym e ∙ u))

  -- ---- where a reading ends

  pub closes_forwards : {d a a' : ℕ} {h h' : Bool} → Closes row d a h a' h' → a ≤ a'
  closes_forwards by_half = omega arith
  closes_forwards (by_one e) = omega arith
  closes_forwards (by_two e two) = omega arith

  closes_within : {d a a' : ℕ} {h h' : Bool} → Closes row d a h a' h' → a ≤ length row → a' ≤ length row
  closes_within by_half s = s
  closes_within {a = a} (by_one e) s = inside row a (omega arith)
  closes_within {a = a} (by_two e two) s = inside row a (omega arith)

  -- A reading ends at its start or after it, a group behind its closer.
  pub spans : {inner : ℕ → ℕ} {l : Region} {d n a a' : ℕ} {h h' : Bool} {x : Nodes} → Derivation row inner l d n a h x a' h' → a + closer l ≤ a'
  spans (end_row e) = omega arith
  spans (end_group op e) = omega (arith, group_closer op)
  spans (end_argument s) = omega arith
  spans (a_token t p r) = omega (arith, spans r)
  spans (a_group t lim op e r₁ r) = omega (arith, spans r₁, spans r)
  spans (a_list t lim e r₁ r) = omega (arith, spans r₁, spans r)
  spans (last r c) = omega (arith, spans r, closes_forwards c)
  spans (more r e r₁) = omega (arith, spans r, spans r₁)

  pub forwards : {inner : ℕ → ℕ} {l : Region} {d n a a' : ℕ} {h h' : Bool} {x : Nodes} → Derivation row inner l d n a h x a' h' → a ≤ a'
  forwards r = omega (arith, spans r)

  -- ---- nesting

  pub nests : {inner : ℕ → ℕ} {l : Region} {d n a a' : ℕ} {h h' : Bool} {x : Nodes} → Derivation row inner l d n a h x a' h' → n ≤ MAX_NESTING_DEPTH → n + depth x ≤ MAX_NESTING_DEPTH
  unfolding depth deeper
  nests (end_row e) s = omega arith
  nests (end_group op e) s = omega arith
  nests (end_argument s₁) s = omega arith
  nests (a_token t p r) s = omega (arith, nests r s)
  nests (a_group {b = b} t lim op e r₁ r) s = omega (arith, nests r₁ lim, nests r s, group_deeper op (depth b))
  nests (a_list t lim e r₁ r) s = omega (arith, nests r₁ lim, nests r s)
  nests (last r c) s = omega (arith, nests r s)
  nests (more r e r₁) s = omega (arith, nests r s, nests r₁ s)

  -- ---- size: at most two nodes a token, and one for a list

  pub sized : {inner : ℕ → ℕ} {l : Region} {d n a a' : ℕ} {h h' : Bool} {x : Nodes} → Derivation row inner l d n a h x a' h' → count x + 2 * a ≤ 2 * a' + for_list l
  unfolding count
  sized (end_row e) = omega arith
  sized (end_group op e) = omega arith
  sized (end_argument s) = omega arith
  sized (a_token t p r) = omega (arith, sized r)
  sized (a_group t lim op e r₁ r) = omega (arith, sized r₁, sized r, group_for_list op)
  sized (a_list t lim e r₁ r) = omega (arith, sized r₁, sized r)
  sized (last r c) = omega (arith, sized r, closes_forwards c)
  sized (more r e r₁) = omega (arith, sized r, sized r₁)

  -- ---- half a `>>`

  -- Where no list is open around it, a reading that begins with no half leaves none: a list leaves one only if another is open.
  pub no_half : {inner : ℕ → ℕ} {l : Region} {d n a a' : ℕ} {h h' : Bool} {x : Nodes} → ((d : ℕ) → inner d ≤ d) → Derivation row inner l d n a h x a' h' → d ≤ for_list l → h ≡ false
      → h' ≡ false
  no_half fewer (end_row e) s q = q
  no_half fewer (end_group op e) s q = q
  no_half fewer (end_argument s₁) s q = q
  no_half fewer (a_token t p r) s q = no_half fewer r s q
  no_half fewer (a_group {l = l} {d = d} {h = h} t lim op e r₁ r) s q = no_half fewer r s (no_half fewer r₁ (omega (arith, fewer d, nodal_for_list l h t)) q)
  no_half fewer (a_list {l = l} {h = h} t lim e r₁ r) s q = no_half fewer r s (no_half fewer r₁ (omega (arith, nodal_for_list l h t)) q)
  no_half fewer (last r by_half) s q = refl
  no_half fewer (last r (by_one e)) s q = refl
  no_half fewer (last r (by_two e f)) s q = absurd (omega arith)
  no_half fewer (more r e r₁) s q = no_half fewer r₁ s refl

  -- The top level ends at the end of the row.
  top_ends : {inner : ℕ → ℕ} {d n a a' : ℕ} {h h' : Bool} {x : Nodes} → Derivation row inner top d n a h x a' h' → kind_at row a' ≡ NoToken
  top_ends (end_row e) = e
  top_ends (a_token t p r) = top_ends r
  top_ends (a_group t lim op e r₁ r) = top_ends r
  top_ends (a_list t lim e r₁ r) = top_ends r
  top_ends (end_group x19 _) = elim x19 [ ]

  -- A reading that begins in the row, or at its end, ends so.
  pub within : {inner : ℕ → ℕ} {l : Region} {d n a a' : ℕ} {h h' : Bool} {x : Nodes} → Derivation row inner l d n a h x a' h' → a ≤ length row → a' ≤ length row
  within (end_row e) s = s
  within (end_group {a = a} op e) s = inside row a (λ u. closer_kind op (sym e ∙ u))
  within (end_argument s₁) s = s
  within (a_token {a = a} t p r) s = within r (inside row a p.inside)
  within (a_group {a = a} t lim op e r₁ r) s = within r (within r₁ (opener_inside op a e))
  within (a_list {a = a} t lim e r₁ r) s = within r (within r₁ (inside row a (omega arith)))
  within (last r c) s = closes_within c (within r s)
  within (more {a₁ = a₁} r e r₁) s = within r₁ (inside row a₁ (omega arith))

  -- ---- of the whole row

  module _ {inner : ℕ → ℕ} {x : Nodes} (q : RowDerived row inner x) where
    -- Every token has been read, and no half a `>>` is left: refusal 23 never comes.
    pub nothing_left : KindsKnown row → (q.at ≡ length row) × (q.half ≡ false)
    nothing_left ks =
        let r = q.derivation in
        (omega (arith, within r (omega arith), past_end row ks q.at (top_ends r)), no_half q.fewer r (omega arith) refl)

    -- "Groups and lists nest to 64."
    pub nesting : depth x ≤ MAX_NESTING_DEPTH
    nesting = omega (arith, nests q.derivation (omega arith))

    -- Two nodes a token.
    pub two_nodes : count x ≤ 2 * length row
    two_nodes =
        let r = q.derivation in
        omega (arith, sized r, within r (omega arith))
