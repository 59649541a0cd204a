-- What stands in a range of nodes, as code reads it. Assumes nothing.
use Rattle.std.specs.Prelude.{ℕ, suc, ◌+◌, ◌≤◌, ◌<◌, Bool, ◌&&◌, List, length, get_or, eqb, if◌then◌else◌, Option, Some, None}
use Rattle.std.proofs.Math.Path.{◌≡◌, refl}
use Rattle.std.proofs.Common.{sym, ap, ◌∙◌, subst, true≢false}
use Rattle.std.proofs.Math.Bool.{true, false}
use native.Mathlib.Omega.{arith}
use Rattle.std.proofs.lemmas.List.{get_or_default}
use borrow.Author.Tests.{eq-eqb, ne_eqb}
use Rattle.rows.specs.Kinds.{Identifier}
use Rattle.rows.specs.Words.{no_word}
use Rattle.reader.specs.Nodes.{NodeKind, t_node, g_node, b_node, l_node, a_node, number, Nodes, none, node, count, kind_of, token_of, extent_of}
use Rattle.type_nodes.specs.Shapes.{NoNode, shape_of}
use Rattle.type_nodes.specs.Nodes.{empty, next, shape, node_identifier, is_single_token}
use Rattle.type_nodes.specs.Stands.{Stands, ends, here, Finds, below, token_of_first}
use Rattle.type_nodes.specs.declared.nodes.Node.{Node}

-- The number of the first node's kind.
unfoldable pub kind_number : Nodes → ℕ
kind_number none = 0
kind_number (node k i b x) = number k

-- the first of the nodes, where there is one
pub record First (tree kinds : List ℕ) (at to : ℕ) (x : Nodes) : Type 0 where
  pub full : empty x ≡ false
  pub kind : kind_of tree at ≡ kind_number x
  pub token : token_of tree at ≡ token_of_first x
  pub extent : extent_of tree at ≡ suc (count (below x))
  pub known : token_of_first x < length kinds
  pub inner : Stands tree kinds (suc at) (suc (at + count (below x))) (below x)
  pub rest : Stands tree kinds (suc (at + count (below x))) to (next x)
  pub fits : suc (at + count (below x)) ≤ to
  pub fewer : count x ≡ suc (count (below x) + count (next x))

module _ {tree kinds : List ℕ} where
  pub stands_count : {from to : ℕ} {x : Nodes} → Stands tree kinds from to x → from + count x ≡ to
  unfolding count
  stands_count (ends e) = omega arith
  stands_count (here k i x t s r) = omega (arith, stands_count s, stands_count r)

  pub first : {at to : ℕ} {x : Nodes} → Stands tree kinds at to x → at < to → First tree kinds at to x
  unfolding empty below token_of_first kind_number next count
  first (ends e) h = absurd (omega arith)
  first (here k i x t s r) h =
      record { full = refl; kind = k; token = i; extent = x; known = t; inner = s; rest = r; fits = omega (arith, stands_count r); fewer = refl }

  -- no node
  pub nothing_left : {at to : ℕ} {x : Nodes} → Stands tree kinds at to x → to ≤ at → x ≡ none
  nothing_left (ends e) h = refl
  nothing_left (here k i x t s r) h = absurd (omega (arith, stands_count r))

  pub empty_range : {from to : ℕ} {x : Nodes} → Stands tree kinds from to x → from ≡ to → empty x ≡ true
  unfolding empty
  empty_range (ends e) h = refl
  empty_range (here k i x t s r) h = absurd (omega (arith, stands_count r))

  -- the shape of the first node, as code reads it
  pub shape_token : {at to : ℕ} {x : Nodes} → First tree kinds at to x → kind_of tree at ≡ 0 → shape kinds x ≡ get_or kinds (token_of_first x) NoNode
  unfolding shape shape_of token_of_first kind_number empty number
  shape_token {x = none} f h = let z : ◌≡◌ {A = Bool} true false = f.full in let u : ◌≡◌ {A = ℕ} 0 1 = cc in absurd (omega arith)
  shape_token {x = node t_node i b x} f h = refl
  shape_token {x = node g_node i b x} f h = absurd (omega (arith, f.kind))
  shape_token {x = node b_node i b x} f h = absurd (omega (arith, f.kind))
  shape_token {x = node l_node i b x} f h = absurd (omega (arith, f.kind))
  shape_token {x = node a_node i b x} f h = absurd (omega (arith, f.kind))

  pub shape_group : {at to : ℕ} {x : Nodes} → First tree kinds at to x → (kind_of tree at ≡ 0 → ⊥) → shape kinds x ≡ NoNode + kind_of tree at
  unfolding shape shape_of token_of_first kind_number empty number
  shape_group {x = none} f h = let z : ◌≡◌ {A = Bool} true false = f.full in let u : ◌≡◌ {A = ℕ} 0 1 = cc in absurd (omega arith)
  shape_group {x = node t_node i b x} f h = absurd (h f.kind)
  shape_group {x = node g_node i b x} f h = omega (arith, f.kind)
  shape_group {x = node b_node i b x} f h = omega (arith, f.kind)
  shape_group {x = node l_node i b x} f h = omega (arith, f.kind)
  shape_group {x = node a_node i b x} f h = omega (arith, f.kind)

  pub kind_small : {at to : ℕ} {x : Nodes} → First tree kinds at to x → kind_number x ≤ 4
  unfolding kind_number number
  kind_small {x = none} f = omega arith
  kind_small {x = node t_node i b x} f = omega arith
  kind_small {x = node g_node i b x} f = omega arith
  kind_small {x = node b_node i b x} f = omega arith
  kind_small {x = node l_node i b x} f = omega arith
  kind_small {x = node a_node i b x} f = omega arith

  pub shape_none : {at to : ℕ} {x : Nodes} → Stands tree kinds at to x → to ≤ at → shape kinds x ≡ NoNode
  unfolding shape
  shape_none (ends e) h = refl
  shape_none (here k i x t s r) h = absurd (omega (arith, stands_count r))

-- what code reads
module _ {tree kinds : List ℕ} {at to : ℕ} {x : Nodes} (s : Stands tree kinds at to x) (h : at < to) where
  pub read_known : {t : ℕ} → t ≡ token_of tree at → t < length kinds
  read_known e = let f = first s h in omega (arith, e, f.token)

  pub read_token : {t : ℕ} → kind_of tree at ≡ 0 → t ≡ token_of tree at → get_or kinds t 0 ≡ shape kinds x
  read_token {t} z e =
      let f = first s h in
      get_or_default kinds t 0 NoNode (read_known e) ∙ ap (λ (m : ℕ). get_or kinds m NoNode) (e ∙ f.token) ∙ sym (shape_token f z)

  pub read_group : (kind_of tree at ≡ 0 → ⊥) → NoNode + kind_of tree at ≡ shape kinds x
  read_group z = sym (shape_group (first s h) z)

  pub read_small : kind_of tree at ≤ 4
  read_small = let f = first s h in omega (arith, kind_small f, f.kind)

  pub read_end : {e : ℕ} → e ≡ extent_of tree at → at + e ≡ suc (at + count (below x))
  read_end e = let f = first s h in omega (arith, e, f.extent)

-- The number of each kind, and back.
unfoldable kind_of_number : ℕ → NodeKind
kind_of_number n =
    if eqb n 0 then t_node else if eqb n 1 then g_node else if eqb n 2 then b_node else if eqb n 3 then l_node else a_node

kind_back : (k : NodeKind) → kind_of_number (number k) ≡ k
unfolding kind_of_number number
kind_back t_node = refl
kind_back g_node = refl
kind_back b_node = refl
kind_back l_node = refl
kind_back a_node = refl

same_kind : (k l : NodeKind) → number k ≡ number l → k ≡ l
same_kind k l e = sym (kind_back k) ∙ ap kind_of_number e ∙ kind_back l

module _ {tree kinds : List ℕ} where
  pub last_empty : {a e : ℕ} {y : Nodes} → Stands tree kinds a e y → eqb a e ≡ empty y
  unfolding empty
  last_empty {a} {e} (ends p) = eq-eqb a e p
  last_empty {a} {e} (here k i b t u r) = ne_eqb a e (omega (arith, stands_count r))

  -- The same nodes, wherever two lists of nodes stand in one range.
  pub unique : {a e : ℕ} {x y : Nodes} → Stands tree kinds a e x → Stands tree kinds a e y → x ≡ y
  unique (Stands.ends p) (Stands.ends q) = refl
  unique (Stands.ends p) (Stands.here k i b t s r) = absurd (omega (arith, stands_count r))
  unique (Stands.here k i b t s r) (Stands.ends q) = absurd (omega (arith, stands_count r))
  unique {a = a} {e = e} (Stands.here {k = k₁} {b = b₁} {x = x₁} k i c t s r) (Stands.here {k = k₂} {b = b₂} {x = x₂} k' i' c' t' s' r') =
      let n : count b₂ ≡ count b₁ = omega (arith, c, c') in
      let u : b₁ ≡ b₂ = unique s (subst (λ (m : ℕ). Stands tree kinds (suc a) (suc (a + m)) b₂) n s') in
      let v : x₁ ≡ x₂ = unique r (subst (λ (m : ℕ). Stands tree kinds (suc (a + m)) e x₂) n r') in
      let w : k₁ ≡ k₂ = same_kind k₁ k₂ (sym k ∙ k') in
      cc

-- ---- what a lookup finds

pub found_there : (kinds : List ℕ) (at : ℕ) (x : Nodes) {r : Option Node} {d : Node} → Finds kinds at r x → r ≡ Some d → Finds kinds at (Some d) x
found_there kinds at x f e = subst (λ (o : Option Node). Finds kinds at o x) e f

pub found_nothing : (kinds : List ℕ) (at : ℕ) (x : Nodes) {r : Option Node} → Finds kinds at r x → r ≡ None → x ≡ none
found_nothing kinds at x f e = subst (λ (o : Option Node). Finds kinds at o x) e f

identifier_of : (kinds words : List ℕ) (y : Nodes) → empty y ≡ false
    → node_identifier kinds words y ≡ if eqb (shape kinds y) Identifier then get_or words (token_of_first y) no_word else no_word
unfolding node_identifier token_of_first empty
identifier_of kinds words none h = absurd (true≢false h)
identifier_of kinds words (node k i b y) h = refl

module _ {tree kinds : List ℕ} {at to : ℕ} {x : Nodes} (s : Stands tree kinds at to x) where
  pub there : empty x ≡ false → at < to
  unfolding empty
  there h = started s h
    where
      started : {a e : ℕ} {y : Nodes} → Stands tree kinds a e y → empty y ≡ false → a < e
      started (ends p) h = absurd (true≢false h)
      started (here k i b t u r) h = omega (arith, stands_count r)

  module _ {d : Node} (f : Finds kinds at (Some d) x) where
    pub token_known : d.token < length kinds
    token_known = omega (arith, f.2, (first s (there f.0)).known)

    pub single_node : (kind : ℕ) → (eqb d.shape kind && eqb d.next to) ≡ is_single_token kinds kind x
    unfolding is_single_token
    single_node kind = rw (f.1, f.3, last_empty (first s (there f.0)).rest)

    pub identifier_read : (words : List ℕ) → d.shape ≡ Identifier → get_or words d.token 0 ≡ node_identifier kinds words x
    identifier_read words e = rw f.2 (sym (identifier_of kinds words x f.0 ∙ rw (← f.1, eq-eqb d.shape Identifier e)))

    pub identifier_other : (words : List ℕ) → (d.shape ≡ Identifier → ⊥) → no_word ≡ node_identifier kinds words x
    identifier_other words e = sym (identifier_of kinds words x f.0 ∙ rw (← f.1, ne_eqb d.shape Identifier e))

pub single_none : (kinds : List ℕ) (kind : ℕ) {x : Nodes} → kind < NoNode → x ≡ none → false ≡ is_single_token kinds kind x
unfolding is_single_token shape
single_none kinds kind k e = sym (rw e (rw (ne_eqb NoNode kind (omega arith))))

pub identifier_none : (kinds words : List ℕ) {x : Nodes} → x ≡ none → no_word ≡ node_identifier kinds words x
unfolding node_identifier
identifier_none kinds words e = sym (rw e)
