-- The nodes of a row's tree as rules see them, found by their records. Assumes nothing.
use Rattle.std.specs.Prelude.{ℕ, ◌≤◌, ◌<◌, ◌≡◌, Bool, Option, Some, None}
use Rattle.std.proofs.Math.Path.{refl, ap}
use Rattle.std.proofs.Common.{sym, ◌∙◌, arith, le-leb}
use Rattle.std.proofs.Math.Bool.{false, true≢false}
use mathlib.Core.List.{List}
use mathlib.Core.Logic.{∥∥₁_elim}
use native.Mathlib.Bridge.{le_prop}
use Rattle.std.proofs.Math.ListN.{length, get_or, length-map, get_or-map}
use Rattle.rows.specs.Kinds.{End}
use Rattle.rows.specs.Format.{format}
use Rattle.rows.specs.Records.{RowToken, found, kinds_of, places_of, word_in}
use Rattle.reader.specs.Nodes.{NodeKind, t_node, g_node, b_node, l_node, a_node, Nodes, none, node}
use Rattle.type_nodes.specs.Shapes.{NoNode, shape_of}
use Rattle.type_nodes.specs.Nodes.{empty, shape}
use Rattle.type_nodes.specs.Stands.{NodesStand, Of, Finds, token_of_first}
use Rattle.type_nodes.specs.declared.nodes.Node.{Node}
use Rattle.type_nodes.specs.Laws.Siblings.{first, found_there, found_nothing}
use Rattle.rules.specs.ItemsStand.{OfItem}
use Rattle.rules.specs.Rules.{fits}
use Rattle.rules.specs.Seen.{no_row_token, token_seen, node_seen}
use Rattle.rules.specs.RowSeen.{RowSeen, SomeRow, OfNodes, shape_seen, first_seen}

module _ {file kinds places : List ℕ} {row : List RowToken} (r : RowSeen file kinds places row) where
  kind_there : (i : ℕ) → get_or kinds i NoNode ≡ (get_or row i no_row_token).kind
  unfolding kinds_of
  kind_there i = ap (λ (l : List ℕ). get_or l i NoNode) r.kinds_are ∙ get_or-map (λ (t : RowToken). t.kind) row i no_row_token

  place_there : (i : ℕ) → get_or places i 0 ≡ (get_or row i no_row_token).place
  unfolding places_of
  place_there i = ap (λ (l : List ℕ). get_or l i 0) r.places_are ∙ get_or-map (λ (t : RowToken). t.place) row i no_row_token

  pub as_long : length kinds ≡ length row
  unfolding kinds_of
  as_long = ap length r.kinds_are ∙ length-map row (λ (t : RowToken). t.kind)

  pub places_as_long : length places ≡ length row
  unfolding places_of
  places_as_long = ap length r.places_are ∙ length-map row (λ (t : RowToken). t.place)

  -- A token as rules see it, by its kind and its word.
  by_kind : (t : RowToken) → t.kind ≤ End → shape_seen t.kind t.word ≡ token_seen t
  unfolding shape_seen token_seen
  by_kind t p = rw (le-leb t.kind End p) refl

  -- A node by its shape.
  by_shape : (k : NodeKind) (t : RowToken) → t.kind ≤ End → shape_seen (shape_of k t.kind) t.word ≡ node_seen k t
  unfolding shape_of node_seen shape_seen
  by_shape t_node t p = by_kind t p
  by_shape g_node t p = refl
  by_shape b_node t p = refl
  by_shape l_node t p = refl
  by_shape a_node t p = refl

  pub first_is : (x : Nodes) → empty x ≡ false → token_of_first x < length row → {s : ℕ} {text : List ℕ} → s ≡ shape kinds x
      → text ≡ word_in format file (get_or places (token_of_first x) 0) (found format file (get_or places (token_of_first x) 0)) → shape_seen s text ≡ first_seen row x
  unfolding empty shape token_of_first first_seen
  first_is none e p h q = absurd (true≢false e)
  first_is (node k i b x) e p {s} {text} h q =
      let t = get_or row i no_row_token in
      let the_word : text ≡ t.word = q ∙ ap (λ (n : ℕ). word_in format file n (found format file n)) (place_there i) ∙ r.words i p in
      let the_shape : s ≡ shape_of k t.kind = h ∙ ap (shape_of k) (kind_there i) in
      ap (λ (n : ℕ). shape_seen n text) the_shape ∙ ap (shape_seen (shape_of k t.kind)) the_word ∙ by_shape k t (r.known i p)

-- ---- what a lookup finds

module _ {file kinds places tree : List ℕ} {at to : ℕ} (before : at < to) {l : Option Node} (o : Of tree kinds at to (λ x. Finds kinds at l x)) where
  pub not_nothing : l ≡ None → {P : List RowToken → Nodes → Type 0} → OfNodes file kinds places tree at to P
  unfolding empty
  not_nothing e {P} = record {
    says = λ row r x st.
        let none_there : empty x ≡ empty none = ap empty (found_nothing kinds at x (o x st) e) in
        absurd (never (sym (first st before).full ∙ none_there));
  }
    where
      never : false ≡ empty none → ⊥
      never q = true≢false (sym q)

  module _ {d : Node} (e : l ≡ Some d) where
    pub token_there : NodesStand tree kinds at to → ∥ SomeRow file kinds places ∥₁ → d.token < length places
    token_there ns h = ∥∥₁_elim h le_prop (λ row.
        let f = found_there kinds at ns.nodes (o ns.nodes ns.stands) e in
        omega (arith, f.2, (first ns.stands before).known, as_long row.seen, places_as_long row.seen))

    pub node_told : {text : List ℕ} → text ≡ word_in format file (get_or places d.token 0) (found format file (get_or places d.token 0)) → {table : List ℕ} {item : ℕ} {r : Bool}
        → OfItem table item (λ i _. r ≡ fits i (shape_seen d.shape text)) → OfNodes file kinds places tree at to (λ row x. OfItem table item (λ i _. r ≡ fits i (first_seen row x)))
    node_told {text} q h = record {
      says = λ row r x st i n' stands.
          let f = found_there kinds at x (o x st) e in
          let fst = first st before in
          h i n' stands
          ∙ ap (fits i) (first_is r x f.0 (omega (arith, fst.known, as_long r)) f.1 (q ∙ ap (λ (m : ℕ). word_in format file (get_or places m 0) (found format file (get_or places m 0))) f.2));
    }
