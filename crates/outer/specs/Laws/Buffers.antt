-- The buffers that the entries leave: a tree, and numbers behind it.
-- Assumes nothing.
use Rattle.rows.specs.Answer.{Answer}
use Prim.Native.Nat.{ℕ, zero, suc, ◌+◌, ◌*◌, ◌-◌, ◌<◌}
use Rattle.std.specs.Prelude.{◌≡◌, ◌≢◌, ◌&&◌, get_or, T}
use Rattle.std.proofs.Common.{sym, ◌∙◌, arith, length-append, get_or-append-add}
use Rattle.std.proofs.Math.Path.{ap, subst}
use mathlib.Core.List.{List, [], ◌∷◌, ◌++◌, append_assoc, Memᴰ}
use Rattle.std.proofs.Math.ListN.{length, replicate, get_or-append}
use Rattle.std.proofs.Math.Facts.{and_yes}
use Rattle.rows.specs.Format.{format, head_length, most_tokens}
use Rattle.rows.specs.Laws.Tests.{by_if}
use Rattle.rows.specs.Laws.RowFacts.{good_row}
use Rattle.rows.specs.declared.head.Head.{Head}
use Rattle.rows.specs.Records.{RowToken, kinds_of, words_of}
use Rattle.reader.specs.Nodes.{NodeKind, t_node, g_node, b_node, l_node, a_node, Nodes, none, node, number, count, node_width, records, kind_of}
use Rattle.reader.specs.Laws.NodeNumbers.{three_each}
use Rattle.type_nodes.specs.Nodes.{next}
use Rattle.type_nodes.specs.Stands.{below}
use Rattle.type_name.specs.FileRow.{Outcome}
use Rattle.type_name.specs.Answers.{RowAnswer, filled}
use Rattle.type_name.specs.Promises.{TreeOf, HasTree}
use Rattle.type_name.specs.Laws.Fields.{one_row}
use Rattle.type_name.specs.Laws.AcceptedRow.{accepted_by, accepted_file, accepted_read}
use Rattle.type_list.specs.ListAnswers.{records_in_all}
use Rattle.type_list.specs.ListPromises.{PartTree, trees_of, PartRead, EachRead, AcceptedList}
use Rattle.named_answers.specs.NamedAnswers.{named_answer, named_outcome}
use Rattle.outer.specs.Formed.{TreeFormed}
use Rattle.outer.specs.OuterTemplate.{node_numbers, list_first, is_word, word_first, begins_with_list, outer_arguments, argument_nodes}
use Rattle.outer.specs.ByExtents.{outer_by_extents}
use Rattle.outer.specs.OuterPromises.{Agrees}
use Rattle.outer.specs.Laws.ReadTrees.{read_formed, accepted_formed}
use Rattle.outer.specs.Laws.NamedTrees.{accepted_named_formed}
use Rattle.outer.specs.Laws.Placed.{numbers_below}
use Rattle.outer.specs.Laws.Counted.{counted}

-- ---- a tree in front

-- Below its end the numbers are its own.
agrees_in_front : (x : Nodes) (rest : List ℕ) (n : ℕ) → n < count x → Agrees (records x ++ rest) x n
agrees_in_front x rest n p =
    (get_or-append (records x) rest 0 (node_width * n) (omega (arith, p, three_each x)), get_or-append (records x) rest 0 (node_width * n + 2) (omega (arith, p, three_each x)))

-- The argument nodes of a tree are its nodes.
of_list : (kinds : List ℕ) (k : NodeKind) (i : ℕ) (b y : Nodes) (n : ℕ) → T (list_first y) → Memᴰ n (node_numbers 2 (below y)) → n < suc (count b + count y)
unfolding list_first below count
of_list kinds k i b none n t m = absurd t
of_list kinds k i b (node l j c z) n t m = omega (arith, numbers_below 2 c n m)

argument_within : (kinds : List ℕ) (x : Nodes) (n : ℕ) → Memᴰ n (argument_nodes kinds x) → n < count x
unfolding argument_nodes begins_with_list word_first next count node_numbers
argument_within kinds none n m = absurd (omega (arith, numbers_below 0 none n m))
argument_within kinds (node k i b y) n m =
    by_if (λ (ns : List ℕ). Memᴰ n ns → n < suc (count b + count y)) (is_word kinds k i && list_first y)
    (λ t m. of_list kinds k i b y n (and_yes (is_word kinds k i) (list_first y) t).1 m)
    (λ _ m. absurd (omega (arith, numbers_below 0 none n m))) m

-- What stands behind a tree does not matter, if it does not begin with an L.
pub in_front : (kinds : List ℕ) (x : Nodes) (rest : List ℕ) → TreeFormed kinds x → get_or rest 0 0 ≢ number l_node → outer_by_extents (records x ++ rest) ≡ outer_arguments kinds x
in_front kinds x rest f other =
    counted (records x ++ rest) kinds x f (record {
      long = simp length-append (omega arith);
      first = agrees_in_front x rest 0 f.some;
      second = λ p. agrees_in_front x rest 1 p;
      no_second = λ e _ q. other (sym (behind e) ∙ q);
      arguments = λ n m. agrees_in_front x rest n (argument_within kinds x n m);
    })
  where
    behind : count x ≡ 1 → kind_of (records x ++ rest) 1 ≡ get_or rest 0 0
    behind e = ap (λ (n : ℕ). get_or (records x ++ rest) n 0) (omega (arith, e, three_each x)) ∙ get_or-append-add (records x) rest 0 0

-- ---- zeros behind

zeros_no_list : (n : ℕ) → get_or (replicate n 0) 0 0 ≢ number l_node
unfolding number
zeros_no_list zero = omega arith
zeros_no_list (suc n) = omega arith

-- "The tree buffer's numbers after the tree are 0", as many of them as there are.
zeros_behind : (kinds : List ℕ) (x : Nodes) (room : ℕ) → TreeFormed kinds x → outer_by_extents (filled room (records x)) ≡ outer_arguments kinds x
unfolding filled
zeros_behind kinds x room f = in_front kinds x (replicate (room - length (records x)) 0) f (zeros_no_list (room - length (records x)))

-- ---- one type name

-- The tree of an accepted file is formed.
has_formed : {file before after : List ℕ} {a : Answer} {steps : ℕ} (t : HasTree file before a after steps) → TreeFormed (kinds_of t.tokens) t.tree
has_formed {file} {before} {after} {a} {steps} t =
    let f = accepted_file file (length before) t.tree steps t.defined in
    let r = f.1.row_accepted in
    let h = f.1.head_of in
    subst (λ (ts : List RowToken). TreeFormed (kinds_of ts) t.tree) (one_row _ f.0 t.tokens f.1.row_is t.accepted_as.row_read)
    (read_formed h.language (kinds_of f.0) (accepted_read h.language h.standard h.flag (kinds_of f.0) (words_of f.0) r))

-- and so is that of a file read by names.
has_named_formed : (names : List ℕ) {file before after : List ℕ} {a : Answer} {steps : ℕ} (t : TreeOf (named_outcome file names (length before)) file before a after steps) → TreeFormed (kinds_of t.tokens) t.tree
unfolding named_outcome
has_named_formed names {file} {before} {after} {a} {steps} t =
    let f = accepted_by (named_answer names) file (length before) t.tree steps t.defined in
    subst (λ (ts : List RowToken). TreeFormed (kinds_of ts) t.tree) (one_row _ f.0 t.tokens f.1.row_is t.accepted_as.row_read)
    (accepted_named_formed names f.1.head_of f.0 (good_row format file most_tokens head_length f.0 f.1.row_is) f.1.answers_so)

module _ {o : Outcome RowAnswer} {file before after : List ℕ} {a : Answer} {steps : ℕ} (t : TreeOf o file before a after steps) (f : TreeFormed (kinds_of t.tokens) t.tree) where
  cut_buffer_of : (room : ℕ) → outer_by_extents (filled room (records t.tree)) ≡ outer_arguments (kinds_of t.tokens) t.tree
  cut_buffer_of room = zeros_behind (kinds_of t.tokens) t.tree room f

  read_buffer_of : outer_by_extents after ≡ outer_arguments (kinds_of t.tokens) t.tree
  read_buffer_of = ap outer_by_extents t.whole ∙ cut_buffer_of (length before)

module _ {file before after : List ℕ} {a : Answer} {steps : ℕ} (t : HasTree file before a after steps) where
  pub cut_buffer : (room : ℕ) → outer_by_extents (filled room (records t.tree)) ≡ outer_arguments (kinds_of t.tokens) t.tree
  cut_buffer room = cut_buffer_of t (has_formed t) room

  pub read_buffer : outer_by_extents after ≡ outer_arguments (kinds_of t.tokens) t.tree
  read_buffer = read_buffer_of t (has_formed t)

module _ (names : List ℕ) {file before after : List ℕ} {a : Answer} {steps : ℕ} (t : TreeOf (named_outcome file names (length before)) file before a after steps) where
  pub cut_named_buffer : (room : ℕ) → outer_by_extents (filled room (records t.tree)) ≡ outer_arguments (kinds_of t.tokens) t.tree
  cut_named_buffer room = cut_buffer_of t (has_named_formed names t) room

  pub named_buffer : outer_by_extents after ≡ outer_arguments (kinds_of t.tokens) t.tree
  named_buffer = read_buffer_of t (has_named_formed names t)

-- ---- a list of types

-- No tree begins with an L.
first_no_list : (kinds : List ℕ) (x : Nodes) (rest : List ℕ) → TreeFormed kinds x → get_or (records x ++ rest) 0 0 ≢ number l_node
unfolding records number count
first_no_list kinds none rest f = absurd (omega (arith, f.some))
first_no_list kinds (node t_node i b x) rest f = omega arith
first_no_list kinds (node g_node i b x) rest f = omega arith
first_no_list kinds (node b_node i b x) rest f = omega arith
first_no_list kinds (node l_node i b x) rest f = absurd f.formed.0.0
first_no_list kinds (node a_node i b x) rest f = omega arith

part_formed : {h : Head} {p : PartTree} → PartRead h p → TreeFormed (kinds_of p.part) p.tree
part_formed {h} {p} r = accepted_formed h.language h.standard h.flag (kinds_of p.part) (words_of p.part) p.steps (r.row_alone p.steps (omega arith))

-- Nor do the numbers behind the first part's tree.
behind_first : (h : Head) (ps : List PartTree) → EachRead h ps → (n : ℕ) → get_or (records_in_all (trees_of ps) ++ replicate n 0) 0 0 ≢ number l_node
unfolding records_in_all
behind_first h [] r n = zeros_no_list n
behind_first h (p ∷ ps) r n =
    rw (append_assoc (records p.tree) (records_in_all (trees_of ps)) (replicate n 0))
    (first_no_list (kinds_of p.part) p.tree (records_in_all (trees_of ps) ++ replicate n 0) (part_formed r.0))

module _ {file before after : List ℕ} {parts nodes steps : ℕ} (l : AcceptedList file before after parts nodes steps) where
  -- Of the buffer of a list of types the first part's tree is counted.
  pub first_part : (p : PartTree) (ps : List PartTree) → l.read ≡ p ∷ ps → outer_by_extents after ≡ outer_arguments (kinds_of p.part) p.tree
  unfolding filled records_in_all
  first_part p ps e =
      let r : EachRead l.head_of (p ∷ ps) = subst (EachRead l.head_of) e l.each_read in
      let all : List ℕ = records_in_all (trees_of (p ∷ ps)) in
      let zeros : List ℕ = replicate (length before - length all) 0 in
      let held : after ≡ records p.tree ++ (records_in_all (trees_of ps) ++ zeros) =
      l.held ∙ ap (λ (qs : List PartTree). filled (length before) (records_in_all (trees_of qs))) e ∙ append_assoc (records p.tree) (records_in_all (trees_of ps)) zeros in
      ap outer_by_extents held
      ∙ in_front (kinds_of p.part) p.tree (records_in_all (trees_of ps) ++ zeros) (part_formed r.0) (behind_first l.head_of ps r.1 (length before - length all))
