-- What the functions that close and continue ask and say, of whichever state the code's state and buffer are.
-- Assumes nothing.
use Rattle.std.specs.Prelude.{ℕ, suc, ◌+◌, ◌*◌, ◌-◌, ◌≤◌, ◌<◌, ◌≡◌, ◌≢◌, length, set}
use Rattle.std.proofs.Math.Path.{refl, sym, ap}
use Rattle.std.proofs.Common.{◌∙◌, true≢false, arith}
use Rattle.std.proofs.Math.Bool.{true}
use mathlib.Core.List.{List, [], ◌∷◌, ◌++◌}
use Rattle.std.proofs.Math.ListN.{get_or, take}
use Rattle.rows.specs.declared.answer.Delimiter.{Delimiter}
use Rattle.reader.specs.Nodes.{a_node, number, Nodes, count, node_width}
use Rattle.named_reader.specs.NamedReading.{Frame, group, list, State}
use Rattle.named_reader.specs.NamedSays.{begun, link, Stands, HeldList, HeldGroup, list_innermost, innermost_closed, argument_ended, group_closed, Moves}
use Rattle.named_reader.specs.declared.frames.NamedReader.{NamedReader}
use Rattle.named_reader.specs.Laws.Moves.{moved, all_held, many, many_in, list_inner, list_nesting, argument_link, list_link, closed_stands, argument_stands, group_inner, group_nesting, group_link, group_closed_stands, kind_tells}

-- ---- a list is open innermost

-- Where its nodes are.
pub record ListPlaced (tree : List ℕ) (r : NamedReader) (argument list_node : ℕ) : Type 0 where
  pub argument_is : suc argument ≡ r.inner
  pub link_is : get_or tree (node_width * argument + 2) 0 ≡ list_node
  pub above : list_node < argument
  pub begun_there : argument < r.nodes
  pub within : node_width * r.nodes ≤ length tree
  pub deep : 0 < r.nesting
  pub outer_begun : get_or tree (node_width * list_node + 2) 0 ≤ list_node

link_begun : (fs : List Frame) (b : Nodes) → link fs ≤ begun fs b
unfolding link begun
link_begun [] b = omega arith
link_begun (group d i x ∷ outer) b = omega arith
link_begun (list i x y j ∷ outer) b = omega arith

module _ {tree : List ℕ} {r : NamedReader} where
  pub list_placed : (h : HeldList tree r) → ListPlaced tree r (r.inner - 1) (get_or tree (node_width * (r.inner - 1) + 2) 0)
  list_placed h =
      let st = h.stands in
      let inner = list_inner st h.token h.before h.arguments h.first h.outer h.is in
      let at : r.inner - 1 ≡ begun h.outer h.before + suc (count h.arguments) = omega (arith, inner) in
      let l : get_or tree (node_width * (r.inner - 1) + 2) 0 ≡ begun h.outer h.before =
      ap (λ (m : ℕ). get_or tree (node_width * m + 2) 0) at ∙ argument_link st h.token h.before h.arguments h.first h.outer h.is in
      record {
        argument_is = omega (arith, inner);
        link_is = refl;
        above = omega (arith, l, at);
        begun_there = omega (arith, at, many st h.token h.before h.arguments h.first h.outer h.is);
        within = all_held st;
        deep = omega (arith, list_nesting st h.token h.before h.arguments h.first h.outer h.is);
        outer_begun =
            let o = ap (λ (m : ℕ). get_or tree (node_width * m + 2) 0) l ∙ list_link st h.token h.before h.arguments h.first h.outer h.is in
            omega (arith, l, o, link_begun h.outer h.before);
      }

  is_list : HeldList tree r → (s : State) → Stands tree r s → list_innermost s.frames ≡ true
  unfolding list_innermost
  is_list h s st =
      let placed = list_placed h in
      let some : r.inner ≢ 0 = omega (arith, placed.argument_is) in
      sym (kind_tells st some refl) ∙ kind_tells h.stands some refl ∙ ap list_innermost h.is

  -- By the state's list.
  by_list : (P : State → Type 0) (h : HeldList tree r) (s : State) → Stands tree r s
      → ((i : ℕ) (x y : Nodes) (j : ℕ) (outer : List Frame) → s.frames ≡ list i x y j ∷ outer → P s) → P s
  unfolding list_innermost
  by_list P h s st f = by s.frames refl (is_list h s st)
    where
      by : (fs : List Frame) → s.frames ≡ fs → list_innermost fs ≡ true → P s
      by [] is q = absurd (true≢false (sym q))
      by (group d i x ∷ outer) is q = absurd (true≢false (sym q))
      by (list i x y j ∷ outer) is q = f i x y j outer is

  module _ (h : HeldList tree r) (argument list_node outer_link : ℕ) (is_argument : argument ≡ r.inner - 1)
      (is_list_node : list_node ≡ get_or tree (node_width * argument + 2) 0) where
    -- The numbers of these nodes in a state.
    node_of_argument : (s : State) (st : Stands tree r s) (i : ℕ) (x y : Nodes) (j : ℕ) (outer : List Frame) → s.frames ≡ list i x y j ∷ outer
        → argument ≡ begun outer x + suc (count y)
    node_of_argument s st i x y j outer is = omega (arith, is_argument, list_inner st i x y j outer is)

    node_of_list : (s : State) (st : Stands tree r s) (i : ℕ) (x y : Nodes) (j : ℕ) (outer : List Frame) → s.frames ≡ list i x y j ∷ outer → list_node ≡ begun outer x
    node_of_list s st i x y j outer is =
        is_list_node ∙ ap (λ (m : ℕ). get_or tree (node_width * m + 2) 0) (node_of_argument s st i x y j outer is) ∙ argument_link st i x y j outer is

    pub list_closed : {between after : List ℕ} (n m nesting : ℕ) → n ≡ r.nodes - argument → m ≡ r.nodes - list_node → nesting ≡ r.nesting - 1
        → outer_link ≡ get_or tree (node_width * list_node + 2) 0
        → between ≡ set tree (node_width * argument + 2) n → after ≡ set between (node_width * list_node + 2) m
        → Moves tree r after (moved r.nodes outer_link nesting r.left) 0 (λ s. innermost_closed s.frames s)
    unfolding innermost_closed
    list_closed {between} {after} n m nesting en em ed eo eb e = record {
      says = λ s st. by_list (λ s. Stands after (moved r.nodes outer_link nesting r.left) (innermost_closed s.frames s)) h s st λ i x y j outer is.
          let a = node_of_argument s st i x y j outer is in
          let l = node_of_list s st i x y j outer is in
          let o : outer_link ≡ link outer = eo ∙ ap (λ (k : ℕ). get_or tree (node_width * k + 2) 0) l ∙ list_link st i x y j outer is in
          let nodes = many st i x y j outer is in
          let nested = list_nesting st i x y j outer is in
          rw (e, eb, is, a, l, o)
          (closed_stands st i x y j outer is n (omega (arith, en, a, nodes)) m nesting r.left (omega (arith, em, l, en, a, nodes)) (omega (arith, ed, nested)));
      same_left = refl;
      grown = omega arith;
    }

    pub argument_closed : {after : List ℕ} (at first n : ℕ) → n ≡ r.nodes - argument → first ≡ at + 1
        → take (node_width * (r.nodes + 1)) after ≡ take (node_width * r.nodes) (set tree (node_width * argument + 2) n) ++ number a_node ∷ first ∷ list_node ∷ []
        → Moves tree r after (moved (r.nodes + 1) (r.nodes + 1) r.nesting r.left) 1 (λ s. argument_ended at s.frames s)
    unfolding argument_ended
    argument_closed {after} at first n en ef e = record {
      says = λ s st. by_list (λ s. Stands after (moved (r.nodes + 1) (r.nodes + 1) r.nesting r.left) (argument_ended at s.frames s)) h s st λ i x y j outer is.
          let a = node_of_argument s st i x y j outer is in
          let l = node_of_list s st i x y j outer is in
          let nodes = many st i x y j outer is in
          rw is
          (argument_stands st i x y j outer is n (omega (arith, en, a, nodes)) at first r.left list_node (omega (arith, ef)) l
          (e ∙ ap (λ (k : ℕ). take (node_width * r.nodes) (set tree (node_width * k + 2) n) ++ number a_node ∷ first ∷ list_node ∷ []) a));
      same_left = refl;
      grown = omega arith;
    }

-- ---- a group is open innermost

pub record GroupPlaced (tree : List ℕ) (r : NamedReader) (node : ℕ) : Type 0 where
  pub node_is : suc node ≡ r.inner
  pub begun_there : node < r.nodes
  pub within : node_width * r.nodes ≤ length tree
  pub deep : 0 < r.nesting

module _ {tree : List ℕ} {r : NamedReader} where
  pub group_placed : (h : HeldGroup tree r) → GroupPlaced tree r (r.inner - 1)
  group_placed h =
      let st = h.stands in
      record {
        node_is = omega (arith, group_inner st h.delimiter h.token h.before h.outer h.is);
        begun_there = omega (arith, group_inner st h.delimiter h.token h.before h.outer h.is, many_in st h.delimiter h.token h.before h.outer h.is);
        within = all_held st;
        deep = omega (arith, group_nesting st h.delimiter h.token h.before h.outer h.is);
      }

  -- By the state's group.
  by_group : (P : State → Type 0) (h : HeldGroup tree r) (s : State) → Stands tree r s
      → ((d : Delimiter) (i : ℕ) (x : Nodes) (outer : List Frame) → s.frames ≡ group d i x ∷ outer → P s) → P s
  unfolding list_innermost link
  by_group P h s st f = by s.frames refl
    where
      some : r.inner ≢ 0
      some = omega (arith, (group_placed h).node_is)

      by : (fs : List Frame) → s.frames ≡ fs → P s
      by [] is = absurd (some (st.linked ∙ ap link is))
      by (group d i x ∷ outer) is = f d i x outer is
      by (list i x y j ∷ outer) is = absurd (true≢false (sym (ap list_innermost is) ∙ sym (kind_tells st some refl) ∙ kind_tells h.stands some refl ∙ ap list_innermost h.is))

  pub group_shut : {after : List ℕ} (h : HeldGroup tree r) (node outer_link n nesting : ℕ) → node ≡ r.inner - 1 → outer_link ≡ get_or tree (node_width * node + 2) 0
      → n ≡ r.nodes - node → nesting ≡ r.nesting - 1 → after ≡ set tree (node_width * node + 2) n
      → Moves tree r after (moved r.nodes outer_link nesting r.left) 0 (λ s. group_closed s.frames s)
  unfolding group_closed
  group_shut {after} h node outer_link n nesting eg eo en ed e = record {
    says = λ s st. by_group (λ s. Stands after (moved r.nodes outer_link nesting r.left) (group_closed s.frames s)) h s st λ d i x outer is.
        let g : node ≡ begun outer x = omega (arith, eg, group_inner st d i x outer is) in
        let o : outer_link ≡ link outer = eo ∙ ap (λ (k : ℕ). get_or tree (node_width * k + 2) 0) g ∙ group_link st d i x outer is in
        rw (e, is, g, o) (group_closed_stands st d i x outer is n nesting r.left (omega (arith, en, g, many_in st d i x outer is)) (omega (arith, ed, group_nesting st d i x outer is)));
    same_left = refl;
    grown = omega arith;
  }
