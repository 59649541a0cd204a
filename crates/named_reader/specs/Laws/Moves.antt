-- What the code's moves come to in the definition's state.
-- Assumes nothing.
use Prim.Native.Nat.{ℕ, suc, ◌+◌, ◌*◌, ◌-◌, ◌≤◌}
use Rattle.std.specs.Prelude.{◌≡◌, ◌≢◌, length, set}
use Rattle.std.proofs.Math.Path.{refl, sym, ap}
use Rattle.std.proofs.Common.{◌∙◌, length-append, length-take}
use Rattle.std.proofs.Math.Bool.{false}
use mathlib.Core.List.{List, [], ◌∷◌, ◌++◌, append_assoc}
use native.Mathlib.Omega.{arith}
use borrow.Author.Tests.{eq-eqb, ne_eqb}
use Rattle.std.proofs.Math.ListN.{get_or, take}
use Rattle.std.proofs.Math.Dec.{eqb}
use Rattle.rows.specs.declared.answer.Delimiter.{Delimiter}
use Rattle.rows.specs.declared.answer.Delimiter.TheVariants.{Parenthesis, Bracket}
use Rattle.reader.specs.Nodes.{t_node, l_node, a_node, number, Nodes, none, count, node_width, records}
use Rattle.reader.specs.Tables.{node_of}
use Rattle.reader.specs.Laws.NodeNumbers.{three_each}
use Rattle.named_reader.specs.NamedReading.{Frame, group, list, State, push, closed}
use Rattle.named_reader.specs.NamedSays.{begun, link, open_records, Stands, list_innermost}
use Rattle.named_reader.specs.declared.frames.NamedReader.{NamedReader}
use Rattle.named_reader.specs.Laws.Frames.{count_push, records_push, begun_push, open_push, open_length, kind_there, last_there, last_put}

abbrev pub moved : (nodes inner nesting left : ℕ) → NamedReader
moved nodes inner nesting left = record { nodes = nodes; inner = inner; nesting = nesting; left = left }

module _ {tree : List ℕ} {r : NamedReader} {s : State} (st : Stands tree r s) where
  -- The buffer holds all nodes that are begun.
  pub all_held : node_width * r.nodes ≤ length tree
  all_held =
      let l : length (take (node_width * r.nodes) tree) ≡ node_width * r.nodes = ap length st.written ∙ open_length s.frames s.nodes ∙ omega (arith, st.nodes_begun) in
      let m = rw length-take at l in
      omega arith

  -- ---- what begins

  pub plain_stands : {after : List ℕ} (at left : ℕ) → take (node_width * (r.nodes + 1)) after ≡ take (node_width * r.nodes) tree ++ number t_node ∷ at ∷ 1 ∷ []
      → Stands after (moved (r.nodes + 1) r.inner r.nesting left) (record { frames = s.frames; nodes = push t_node at none s.nodes; steps = suc s.steps })
  unfolding records count
  plain_stands at left e = record {
    nodes_begun = omega (arith, st.nodes_begun, begun_push s.frames t_node at none s.nodes);
    linked = st.linked;
    nested = st.nested;
    written = e ∙ ap (λ (l : List ℕ). l ++ number t_node ∷ at ∷ 1 ∷ []) st.written ∙ sym (open_push s.frames t_node at none s.nodes);
  }

  pub group_stands : {after : List ℕ} (d : Delimiter) (at left k : ℕ) → k ≡ number (node_of d)
      → take (node_width * (r.nodes + 1)) after ≡ take (node_width * r.nodes) tree ++ k ∷ at ∷ r.inner ∷ []
      → Stands after (moved (r.nodes + 1) (r.nodes + 1) (r.nesting + 1) left) (record { frames = group d at s.nodes ∷ s.frames; nodes = none; steps = suc s.steps })
  unfolding records count begun link open_records
  group_stands d at left k q e = record {
    nodes_begun = omega (arith, st.nodes_begun);
    linked = omega (arith, st.nodes_begun);
    nested = omega (arith, st.nested);
    written = e ∙ rw (st.written, st.linked, q) refl;
  }

  pub list_stands : {after : List ℕ} (between : List ℕ) (at first left : ℕ) → first ≡ suc at
      → take (node_width * (r.nodes + 1)) between ≡ take (node_width * r.nodes) tree ++ number l_node ∷ at ∷ r.inner ∷ []
      → take (node_width * (r.nodes + 1 + 1)) after ≡ take (node_width * (r.nodes + 1)) between ++ number a_node ∷ first ∷ r.nodes ∷ []
      → Stands after (moved (r.nodes + 2) (r.nodes + 2) (r.nesting + 1) left)
      (record { frames = list at s.nodes none (suc at) ∷ s.frames; nodes = none; steps = suc s.steps })
  unfolding records count begun link open_records
  list_stands {after} between at first left q e f = record {
    nodes_begun = omega (arith, st.nodes_begun);
    linked = omega (arith, st.nodes_begun);
    nested = omega (arith, st.nested);
    written =
        let two : r.nodes + 2 ≡ r.nodes + 1 + 1 = omega arith in
        ap (λ (n : ℕ). take (node_width * n) after) two ∙ f ∙ rw (e, st.written, st.linked, st.nodes_begun, q) (simp append_assoc);
  }

-- ---- what ends, in a state with this open innermost

-- A list.
module _ {tree : List ℕ} {r : NamedReader} {s : State} (st : Stands tree r s) (i : ℕ) (x y : Nodes) (j : ℕ) (outer : List Frame)
    (is : s.frames ≡ list i x y j ∷ outer) where
  abbrev before_argument : List ℕ
  before_argument = open_records outer x ++ number l_node ∷ i ∷ link outer ∷ records y

  pub many : r.nodes ≡ begun outer x + suc (count y + suc (count s.nodes))
  unfolding begun
  many = st.nodes_begun ∙ ap (λ (fs : List Frame). begun fs s.nodes) is

  -- The argument's node, the list's and what is open around it.
  pub list_inner : r.inner ≡ suc (begun outer x + suc (count y))
  unfolding link
  list_inner = st.linked ∙ ap link is

  pub list_nesting : r.nesting ≡ suc (length outer)
  list_nesting = st.nested ∙ ap length is

  held : take (node_width * r.nodes) tree ≡ before_argument ++ number a_node ∷ j ∷ begun outer x ∷ records s.nodes
  unfolding open_records
  held = st.written ∙ ap (λ (fs : List Frame). open_records fs s.nodes) is ∙ simp append_assoc

  before_long : length before_argument ≡ node_width * (begun outer x + suc (count y))
  before_long = rw length-append (omega (arith, open_length outer x, three_each y))

  abbrev p : ℕ
  p = begun outer x + suc (count y)

  pub argument_kind : get_or tree (node_width * p) 0 ≡ number a_node
  argument_kind = kind_there (node_width * r.nodes) tree before_argument (records s.nodes) (number a_node) j (begun outer x) (node_width * p) held before_long (omega (arith, many))

  pub argument_link : get_or tree (node_width * p + 2) 0 ≡ begun outer x
  argument_link = last_there (node_width * r.nodes) tree before_argument (records s.nodes) (number a_node) j (begun outer x) (node_width * p) held before_long (omega (arith, many))

  -- Its argument has ended.
  ended : take (node_width * r.nodes) (set tree (node_width * p + 2) (suc (count s.nodes))) ≡ before_argument ++ number a_node ∷ j ∷ suc (count s.nodes) ∷ records s.nodes
  ended = last_put (node_width * r.nodes) tree before_argument (records s.nodes) (number a_node) j (begun outer x) (node_width * p) held before_long (omega (arith, many)) (suc (count s.nodes))

  with_argument : before_argument ++ number a_node ∷ j ∷ suc (count s.nodes) ∷ records s.nodes
      ≡ open_records outer x ++ number l_node ∷ i ∷ link outer ∷ records (push a_node j s.nodes y)
  with_argument = append_assoc (open_records outer x) _ _ ∙ ap (λ (l : List ℕ). open_records outer x ++ number l_node ∷ i ∷ link outer ∷ l) (sym (records_push a_node j s.nodes y))

  -- The link of the list.
  pub list_link : get_or tree (node_width * begun outer x + 2) 0 ≡ link outer
  list_link =
      last_there (node_width * r.nodes) tree (open_records outer x) (records y ++ number a_node ∷ j ∷ begun outer x ∷ records s.nodes) (number l_node) i (link outer)
      (node_width * begun outer x) (held ∙ append_assoc (open_records outer x) _ _) (open_length outer x) (omega (arith, many))

  module _ (n : ℕ) (is_n : n ≡ suc (count s.nodes)) where
    ended_by : take (node_width * r.nodes) (set tree (node_width * p + 2) n) ≡ open_records outer x ++ number l_node ∷ i ∷ link outer ∷ records (push a_node j s.nodes y)
    ended_by = ap (λ (m : ℕ). take (node_width * r.nodes) (set tree (node_width * p + 2) m)) is_n ∙ ended ∙ with_argument

    -- The list is closed: its extent and its last argument's take their links' places.
    pub closed_stands : (m nesting left : ℕ) → m ≡ suc (count y + n) → r.nesting ≡ suc nesting
        → Stands (set (set tree (node_width * p + 2) n) (node_width * begun outer x + 2) m) (moved r.nodes (link outer) nesting left) (closed i x y j outer s)
    unfolding closed
    closed_stands m nesting left q e = record {
      nodes_begun = omega (arith, many, begun_push outer l_node i (push a_node j s.nodes y) x, count_push a_node j s.nodes y);
      linked = refl;
      nested = omega (arith, e, list_nesting);
      written =
          last_put (node_width * r.nodes) (set tree (node_width * p + 2) n) (open_records outer x) (records (push a_node j s.nodes y)) (number l_node) i (link outer)
          (node_width * begun outer x) ended_by (open_length outer x) (omega (arith, many)) m
          ∙ ap (λ (k : ℕ). open_records outer x ++ number l_node ∷ i ∷ k ∷ records (push a_node j s.nodes y)) (omega (arith, q, is_n, count_push a_node j s.nodes y))
          ∙ sym (open_push outer l_node i (push a_node j s.nodes y) x);
    }

    -- The argument has ended, and the next begins.
    pub argument_stands : {after : List ℕ} (at first left l : ℕ) → first ≡ suc at → l ≡ begun outer x
        → take (node_width * (r.nodes + 1)) after ≡ take (node_width * r.nodes) (set tree (node_width * p + 2) n) ++ number a_node ∷ first ∷ l ∷ []
        → Stands after (moved (r.nodes + 1) (r.nodes + 1) r.nesting left)
        (record { frames = list i x (push a_node j s.nodes y) (suc at) ∷ outer; nodes = none; steps = s.steps })
    unfolding records count begun link open_records
    argument_stands at first left l q e f = record {
      nodes_begun = omega (arith, many, count_push a_node j s.nodes y);
      linked = omega (arith, many, count_push a_node j s.nodes y);
      nested = omega (arith, list_nesting);
      written = f ∙ rw (ended_by, q, e) (simp append_assoc);
    }

-- A group.
module _ {tree : List ℕ} {r : NamedReader} {s : State} (st : Stands tree r s) (d : Delimiter) (i : ℕ) (x : Nodes) (outer : List Frame)
    (is : s.frames ≡ group d i x ∷ outer) where
  pub many_in : r.nodes ≡ begun outer x + suc (count s.nodes)
  unfolding begun
  many_in = st.nodes_begun ∙ ap (λ (fs : List Frame). begun fs s.nodes) is

  pub group_inner : r.inner ≡ suc (begun outer x)
  unfolding link
  group_inner = st.linked ∙ ap link is

  pub group_nesting : r.nesting ≡ suc (length outer)
  group_nesting = st.nested ∙ ap length is

  held_group : take (node_width * r.nodes) tree ≡ open_records outer x ++ number (node_of d) ∷ i ∷ link outer ∷ records s.nodes
  unfolding open_records
  held_group = st.written ∙ ap (λ (fs : List Frame). open_records fs s.nodes) is

  pub group_kind : get_or tree (node_width * begun outer x) 0 ≡ number (node_of d)
  group_kind = kind_there (node_width * r.nodes) tree (open_records outer x) (records s.nodes) (number (node_of d)) i (link outer) (node_width * begun outer x) held_group (open_length outer x) (omega (arith, many_in))

  pub group_link : get_or tree (node_width * begun outer x + 2) 0 ≡ link outer
  group_link = last_there (node_width * r.nodes) tree (open_records outer x) (records s.nodes) (number (node_of d)) i (link outer) (node_width * begun outer x) held_group (open_length outer x) (omega (arith, many_in))

  pub group_closed_stands : (n nesting left : ℕ) → n ≡ suc (count s.nodes) → r.nesting ≡ suc nesting
      → Stands (set tree (node_width * begun outer x + 2) n) (moved r.nodes (link outer) nesting left)
      (record { frames = outer; nodes = push (node_of d) i s.nodes x; steps = s.steps })
  group_closed_stands n nesting left q e = record {
    nodes_begun = omega (arith, many_in, begun_push outer (node_of d) i s.nodes x);
    linked = refl;
    nested = omega (arith, e, group_nesting);
    written =
        last_put (node_width * r.nodes) tree (open_records outer x) (records s.nodes) (number (node_of d)) i (link outer) (node_width * begun outer x) held_group (open_length outer x) (omega (arith, many_in)) n
        ∙ ap (λ (k : ℕ). open_records outer x ++ number (node_of d) ∷ i ∷ k ∷ records s.nodes) q
        ∙ sym (open_push outer (node_of d) i s.nodes x);
  }

-- ---- what is open innermost

pub group_no_argument : (d : Delimiter) → number (node_of d) ≢ number a_node
unfolding number
group_no_argument Parenthesis = omega arith
group_no_argument Bracket = omega arith

module _ {tree : List ℕ} {r : NamedReader} {s : State} (st : Stands tree r s) where
  -- Nothing is.
  pub nothing_open : r.inner ≡ 0 → false ≡ list_innermost s.frames
  unfolding list_innermost link
  nothing_open e = by s.frames (sym st.linked ∙ e)
    where
      by : (fs : List Frame) → link fs ≡ 0 → false ≡ list_innermost fs
      by [] q = refl
      by (group d i x ∷ outer) q = absurd (omega (arith, q))
      by (list i x y j ∷ outer) q = absurd (omega (arith, q))

  -- Its node's kind tells.
  pub kind_tells : {k : ℕ} → r.inner ≢ 0 → k ≡ get_or tree (node_width * (r.inner - 1)) 0 → eqb k (number a_node) ≡ list_innermost s.frames
  unfolding list_innermost link
  kind_tells {k} e q = by s.frames refl
    where
      by : (fs : List Frame) → s.frames ≡ fs → eqb k (number a_node) ≡ list_innermost fs
      by [] is = absurd (e (st.linked ∙ ap link is))
      by (group d i x ∷ outer) is =
          let at : r.inner - 1 ≡ begun outer x = omega (arith, group_inner st d i x outer is) in
          ne_eqb k (number a_node) (λ z. group_no_argument d (sym (group_kind st d i x outer is) ∙ ap (λ (m : ℕ). get_or tree (node_width * m) 0) (sym at) ∙ sym q ∙ z))
      by (list i x y j ∷ outer) is =
          let at : r.inner - 1 ≡ begun outer x + suc (count y) = omega (arith, list_inner st i x y j outer is) in
          eq-eqb k (number a_node) (q ∙ ap (λ (m : ℕ). get_or tree (node_width * m) 0) at ∙ argument_kind st i x y j outer is)

  -- It is one of the nodes that are begun.
  pub inner_begun : r.inner ≤ r.nodes
  unfolding link
  inner_begun = by s.frames refl
    where
      by : (fs : List Frame) → s.frames ≡ fs → r.inner ≤ r.nodes
      by [] is = omega (arith, st.linked ∙ ap link is)
      by (group d i x ∷ outer) is = omega (arith, group_inner st d i x outer is, many_in st d i x outer is)
      by (list i x y j ∷ outer) is = omega (arith, list_inner st i x y j outer is, many st i x y j outer is)
