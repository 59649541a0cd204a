-- What the four loops of the code say so far, and what they do at a node. Assumes nothing.
use Rattle.std.specs.Prelude.{ℕ, suc, ◌+◌, ◌-◌, ◌≤◌, ◌<◌, ◌≡◌, Bool, ◌&&◌, ◌||◌, not, List, eqb, Ok}
use Rattle.std.proofs.Math.Path.{refl, ap}
use Rattle.std.proofs.Common.{sym, ◌∙◌, subst, true≢false, zero-add}
use Rattle.std.proofs.Math.Bool.{true, false}
use borrow.Author.Tests.{eqb-true}
use Rattle.std.proofs.Math.Bool.{and-false}
use Rattle.rows.specs.Languages.{Cpp}
use Rattle.rows.specs.Kinds.{Identifier, Integer, Scope}
use Rattle.rows.specs.Words.{no_word, exactly}
use Rattle.reader.specs.Nodes.{Nodes, none, node, count}
use Rattle.type_nodes.specs.Shapes.{NoNode, TemplateArguments}
use Rattle.type_nodes.specs.Nodes.{empty, next, shape, node_identifier, exact_word, is_single_token}
use Rattle.type_nodes.specs.Sets.{is_c_builtin_type_word, is_c_family_declarator_qualifier}
use Rattle.type_nodes.specs.Moves.{Move, stop, on, inside, on_if, arguments}
use Rattle.std.proofs.lemmas.Bool.{and_parts}
use Rattle.type_nodes.specs.Laws.SpecifierLoop.{word_specified}
use Rattle.type_nodes.specs.Specifiers.{validate_c_decl_specifiers}
use Rattle.type_nodes.specs.Stands.{Of, below}
use Rattle.structure.specs.Said.{Said, holds, fails, after, both, plain, a_type, an_expression, a_declarator}
use Rattle.structure.specs.Declarators.{TypeState, type_state, type_end, c_family_node, scope_has_valid_neighbors, DeclaratorState, declarator_state, declarator_end, abstract_declarator_node}
use Rattle.structure.specs.Expressions.{ExpressionState, expression_state, expression_end, expression_node}
use Rattle.structure.specs.FortranTypes.{FortranState, fortran_state, fortran_end, fortran_node, validate_fortran_type_head, fortran_move}
use Rattle.structure.specs.Checks.{checked, turn, loop, type_move, declarator_move, expression_move}
use Rattle.structure.specs.Checks.{validate_c_family_type, validate_expression, validate_abstract_declarator}
use Rattle.structure.specs.FortranTypes.{validate_fortran_type}
use Rattle.structure.specs.RepresentedMoves.{type_state_of, type_move_of, declarator_state_of, declarator_move_of, expression_state_of, expression_move_of}
use Rattle.structure.specs.RepresentedMoves.{TypeMove, DeclaratorMove, ExpressionMove, FortranMove, fortran_state_of, fortran_move_of, Moves, Waits}
use Rattle.structure.specs.Laws.Fixed.{fixed}
use Rattle.structure.specs.Laws.Walks.{after_it}
use Rattle.structure.specs.VerdictSays.{VerdictSays}
use Rattle.structure.specs.Laws.Limits.{limited_entry, limited_yes, limited_both, on_holds}
use Rattle.structure.specs.Laws.Tables.{word_taken, scope_taken, list_taken}
use Rattle.structure.specs.Laws.Loops.{Run, turn_on, turn_end}
use Rattle.structure.specs.Allowance.{verdict_within}
use Rattle.structure.specs.declared.moves.Inner.{Inner}
use Rattle.structure.specs.declared.moves.TypeLoop.{TypeLoop}
use Rattle.structure.specs.declared.moves.DeclaratorLoop.{DeclaratorLoop}
use Rattle.structure.specs.declared.moves.ExpressionLoop.{ExpressionLoop}
use Rattle.structure.specs.declared.moves.FortranLoop.{FortranLoop}
use Rattle.structure.specs.declared.moves.Move.TheVariants.{On, Inside}

-- ---- the entries

after_none : (s : Said) → after 0 s ≡ s
unfolding after
after_none (holds n) = ap holds (zero-add n)
after_none (fails n) = ap fails (zero-add n)

module _ (lang : ℕ) (kinds words : List ℕ) where
  abbrev type_body : Nodes → Said
  type_body x = loop lang kinds words (checked lang kinds words) TypeState (type_move lang kinds words) type_end x NoNode no_word (type_state false false false)

  abbrev declarator_body : Nodes → Said
  declarator_body x =
      loop lang kinds words (checked lang kinds words) DeclaratorState (declarator_move lang kinds words) declarator_end x NoNode no_word (declarator_state false false)

  abbrev expression_body : Nodes → Said
  expression_body x =
      loop lang kinds words (checked lang kinds words) ExpressionState (expression_move lang kinds words) expression_end x NoNode no_word (expression_state true false 0)

  abbrev fortran_body : Nodes → Said
  fortran_body x = loop lang kinds words (checked lang kinds words) FortranState (fortran_move lang kinds words) fortran_end x NoNode no_word (fortran_state false false)

  -- A list without a node fails without the test for one: the code has no such test.
  pub type_entry : (x : Nodes) → checked lang kinds words a_type x ≡ after 1 (both (plain (validate_c_decl_specifiers lang kinds words x)) (λ _. type_body x))
  unfolding turn validate_c_family_type validate_c_decl_specifiers both plain
  type_entry none = fixed lang kinds words a_type none
  type_entry (node k i b x) = fixed lang kinds words a_type (node k i b x)

  pub declarator_entry : (x : Nodes) → checked lang kinds words a_declarator x ≡ after 1 (declarator_body x)
  unfolding turn validate_abstract_declarator both plain
  declarator_entry none = fixed lang kinds words a_declarator none
  declarator_entry (node k i b x) = fixed lang kinds words a_declarator (node k i b x) ∙ ap (after 1) (after_none (declarator_body (node k i b x)))

  pub expression_entry : (x : Nodes) → checked lang kinds words an_expression x ≡ after 1 (expression_body x)
  unfolding turn validate_expression both plain
  expression_entry none = fixed lang kinds words an_expression none
  expression_entry (node k i b x) = fixed lang kinds words an_expression (node k i b x) ∙ ap (after 1) (after_none (expression_body (node k i b x)))

  pub fortran_entry : (x : Nodes) → validate_fortran_type lang kinds words (checked lang kinds words) x
      ≡ after 1 (both (plain (validate_fortran_type_head kinds words x)) (λ _. fortran_body x))
  unfolding validate_fortran_type validate_fortran_type_head both plain
  fortran_entry none = refl
  fortran_entry (node k i b x) = refl

-- ---- a type of one word

module _ (lang : ℕ) (kinds words : List ℕ) where
  twice_yes : (left : ℕ) → on_holds (verdict_within left (plain true)) (λ l. verdict_within l (plain true)) ≡ Ok left
  unfolding on_holds
  twice_yes left = rw (limited_yes left) (limited_yes left)

  word_body : (x : Nodes) → empty x ≡ false → next x ≡ none → shape kinds x ≡ Identifier → type_body lang kinds words x ≡ plain true
  unfolding type_end on_if
  word_body x full alone i =
      turn_on lang kinds words TypeState (type_move lang kinds words) type_end x NoNode no_word (type_state false false false) full (type_state true false false)
      (word_taken lang NoNode (exactly no_word) (shape kinds x) (exact_word kinds words x) (shape kinds (next x)) false false false i refl)
      ∙ turn_end lang kinds words TypeState (type_move lang kinds words) type_end (next x) (shape kinds x) (node_identifier kinds words x) (type_state true false false) alone

  -- The code asks whether a type is one word.
  abbrev one_word : Nodes → Bool
  one_word x = is_single_token kinds Identifier x && (eqb (exact_word kinds words x) no_word || is_c_builtin_type_word (exact_word kinds words x))

  word_passes : (x : Nodes) → one_word x ≡ true → (validate_c_decl_specifiers lang kinds words x ≡ true) × (type_body lang kinds words x ≡ plain true)
  unfolding is_single_token shape empty next
  word_passes none y = absurd (true≢false (sym y))
  word_passes (node k i b none) y =
      let single : (eqb (shape kinds (node k i b none)) Identifier && true) ≡ true = (and_parts _ (eqb (exact_word kinds words (node k i b none)) no_word || is_c_builtin_type_word (exact_word kinds words (node k i b none))) y).0 in
      let s : shape kinds (node k i b none) ≡ Identifier = eqb-true _ Identifier (and_parts (eqb (shape kinds (node k i b none)) Identifier) true single).0 in
      (word_specified lang kinds words (node k i b none) refl refl s (and_parts (eqb (shape kinds (node k i b none)) Identifier && true) _ y).1, word_body (node k i b none) refl refl s)
  word_passes (node k i b (node l j c x)) y =
      let none_here : (eqb (shape kinds (node k i b (node l j c x))) Identifier && false) ≡ true = (and_parts _ (eqb (exact_word kinds words (node k i b (node l j c x))) no_word || is_c_builtin_type_word (exact_word kinds words (node k i b (node l j c x)))) y).0 in
      absurd (true≢false (sym none_here ∙ and-false (eqb (shape kinds (node k i b (node l j c x))) Identifier)))

  pub word_type : {tree : List ℕ} {from to allowed : ℕ} → 0 < allowed → {r : Bool} → Of tree kinds from to (λ x. r ≡ one_word x) → r ≡ true
      → VerdictSays tree kinds from to allowed (checked lang kinds words a_type) (Ok (allowed - 1))
  word_type {tree} {from} {to} {allowed} h {r} one y = record {
    says = λ x s.
        let p : (validate_c_decl_specifiers lang kinds words x ≡ true) × (type_body lang kinds words x ≡ plain true) = word_passes x (sym (one x s) ∙ y) in
        sym (rw (type_entry lang kinds words x, p.0, p.1) (limited_entry allowed _ h ∙ limited_both (allowed - 1) _ _ ∙ twice_yes (allowed - 1)));
  }

-- ---- the loops

module _ (lang : ℕ) (tree kinds words : List ℕ) (from to allowed left : ℕ) where
  -- It keeps the shape before and the known word before.
  abbrev pub InType : (st : TypeLoop) (before word_before at : ℕ) → Type 0
  InType st before word_before at =
      Run lang kinds words TypeState (type_move lang kinds words) type_end (checked lang kinds words a_type) (λ l w. (before ≡ l) × (word_before ≡ exactly w))
      tree from to allowed left (type_state_of st) at

  abbrev pub InDeclarator : (st : DeclaratorLoop) (before at : ℕ) → Type 0
  InDeclarator st before at =
      Run lang kinds words DeclaratorState (declarator_move lang kinds words) declarator_end (checked lang kinds words a_declarator) (λ l w. before ≡ l)
      tree from to allowed left (declarator_state_of st) at

  -- No more `?` wait than nodes were met.
  abbrev pub InExpression : (st : ExpressionLoop) (at : ℕ) → Type 0
  InExpression st at =
      Run lang kinds words ExpressionState (expression_move lang kinds words) expression_end (checked lang kinds words an_expression) (λ l w. st.conditional_depth ≤ at)
      tree from to allowed left (expression_state_of st) at

  abbrev pub InFortran : (st : FortranLoop) (at : ℕ) → Type 0
  InFortran st at =
      Run lang kinds words FortranState (fortran_move lang kinds words) fortran_end (validate_fortran_type lang kinds words (checked lang kinds words)) (λ l w. Unit {0})
      tree from to allowed left (fortran_state_of st) at

pub no_word_before : 0 ≡ exactly no_word
unfolding exactly
no_word_before = refl

-- ---- what they do at a node: the table's answer is the move of the definition

module _ {lang : ℕ} {tree kinds words : List ℕ} {from to allowed left : ℕ} {st : TypeLoop} {before word_before at : ℕ}
    (lp : InType lang tree kinds words from to allowed left st before word_before at) {s w e right : ℕ} {m : TypeMove} (h : at < to)
    (sh : Of tree kinds at to (λ x. s ≡ shape kinds x)) (wd : Of tree kinds at to (λ x. w ≡ exact_word kinds words x))
    (en : Of tree kinds at to (λ x. e ≡ suc (at + count (below x)))) (rt : Of tree kinds e to (λ x. right ≡ shape kinds x))
    (mv : type_move_of m ≡ c_family_node lang before word_before s w right (type_state_of st)) where
  pub type_moved : {u : TypeMove} → m ≡ u → type_move lang kinds words lp.left_shape lp.left_word lp.walk.rest (type_state_of st) ≡ type_move_of u
  type_moved q =
      rw (← lp.known.0, ← lp.known.1, ← sh lp.walk.rest lp.walk.stands, ← wd lp.walk.rest lp.walk.stands, ← rt (next lp.walk.rest) (after_it lp.walk h en))
      (sym mv ∙ ap type_move_of q)

-- The three nodes that the code takes without a move.
module _ {lang : ℕ} {tree kinds words : List ℕ} {from to allowed left : ℕ} {st : TypeLoop} {before word_before at : ℕ}
    (lp : InType lang tree kinds words from to allowed left st before word_before at) {s : ℕ} (sh : Of tree kinds at to (λ x. s ≡ shape kinds x)) where
  -- What the definition does at the node.
  abbrev moves_here : Move TypeState
  moves_here = type_move lang kinds words lp.left_shape lp.left_word lp.walk.rest (type_state_of st)

  module _ {w : ℕ} (wd : Of tree kinds at to (λ x. w ≡ exact_word kinds words x)) (i : s ≡ Identifier)
      {r : Bool} (d : r ≡ (not st.declarator_started || is_c_family_declarator_qualifier w)) where
    word_here : moves_here ≡ on_if r (type_state true st.declarator_started st.saw_reference)
    word_here = rw (← sh lp.walk.rest lp.walk.stands, ← wd lp.walk.rest lp.walk.stands) (word_taken lang _ _ s _ _ _ _ _ i d)

    pub at_word : r ≡ true → moves_here ≡ on (type_state true st.declarator_started st.saw_reference)
    unfolding on_if
    at_word y = word_here ∙ ap (λ (b : Bool). on_if b (type_state true st.declarator_started st.saw_reference)) y

    pub at_wrong_word : r ≡ false → moves_here ≡ stop false
    unfolding on_if
    at_wrong_word n = word_here ∙ ap (λ (b : Bool). on_if b (type_state true st.declarator_started st.saw_reference)) n

  pub at_list : {r : Bool} → r ≡ (eqb s TemplateArguments && (eqb lang Cpp && eqb before Identifier)) → r ≡ true
      → moves_here ≡ inside arguments (type_state true st.declarator_started st.saw_reference)
  at_list d y = rw (← lp.known.0, ← sh lp.walk.rest lp.walk.stands) (list_taken lang before _ s _ _ _ _ _ (sym d ∙ y))

  pub at_scope : (h : at < to) {e right : ℕ} → Of tree kinds at to (λ x. e ≡ suc (at + count (below x))) → Of tree kinds e to (λ x. right ≡ shape kinds x) → {r : Bool}
      → r ≡ (eqb s Scope && (eqb lang Cpp && scope_has_valid_neighbors before right)) → r ≡ true → moves_here ≡ on (type_state_of st)
  at_scope h en rt d y =
      rw (← lp.known.0, ← sh lp.walk.rest lp.walk.stands, ← rt (next lp.walk.rest) (after_it lp.walk h en))
      (scope_taken lang before _ s _ _ _ _ _ (sym d ∙ y))

module _ {lang : ℕ} {tree kinds words : List ℕ} {from to allowed left : ℕ} {st : DeclaratorLoop} {before at : ℕ}
    (lp : InDeclarator lang tree kinds words from to allowed left st before at) {s w e right : ℕ} {m : DeclaratorMove} (h : at < to)
    (sh : Of tree kinds at to (λ x. s ≡ shape kinds x)) (wd : Of tree kinds at to (λ x. w ≡ exact_word kinds words x))
    (en : Of tree kinds at to (λ x. e ≡ suc (at + count (below x)))) (rt : Of tree kinds e to (λ x. right ≡ shape kinds x))
    (mv : declarator_move_of m ≡ abstract_declarator_node lang before s w right (declarator_state_of st)) where
  pub declarator_moved : {u : DeclaratorMove} → m ≡ u
      → declarator_move lang kinds words lp.left_shape lp.left_word lp.walk.rest (declarator_state_of st) ≡ declarator_move_of u
  declarator_moved q =
      rw (← lp.known, ← sh lp.walk.rest lp.walk.stands, ← wd lp.walk.rest lp.walk.stands, ← rt (next lp.walk.rest) (after_it lp.walk h en))
      (sym mv ∙ ap declarator_move_of q)

module _ {lang : ℕ} {tree kinds words : List ℕ} {from to allowed left : ℕ} {st : ExpressionLoop} {at : ℕ}
    (lp : InExpression lang tree kinds words from to allowed left st at) {s n : ℕ} {m : ExpressionMove}
    (sh : Of tree kinds at to (λ x. s ≡ shape kinds x)) (mv : Moves n m (expression_node lang s (expression_state_of st))) where
  pub expression_moved : {u : ExpressionMove} → m ≡ u
      → expression_move lang kinds words lp.left_shape lp.left_word lp.walk.rest (expression_state_of st) ≡ expression_move_of u
  expression_moved q = rw (← sh lp.walk.rest lp.walk.stands) (sym mv.is ∙ ap expression_move_of q)

module _ {n : ℕ} {m : ExpressionMove} {a : Move ExpressionState} (mv : Moves n m a) where
  pub waits_on : {st : ExpressionLoop} → m ≡ On st → st.conditional_depth ≤ n
  waits_on q = subst (λ (u : ExpressionMove). Waits n u) q mv.waits

  pub waits_inside : {t : Inner} {st : ExpressionLoop} → m ≡ Inside t st → st.conditional_depth ≤ n
  waits_inside q = subst (λ (u : ExpressionMove). Waits n u) q mv.waits

module _ {lang : ℕ} {tree kinds words : List ℕ} {from to allowed left : ℕ} {st : FortranLoop} {at : ℕ}
    (lp : InFortran lang tree kinds words from to allowed left st at) {s e : ℕ} {one : Bool} {m : FortranMove} (h : at < to)
    (sh : Of tree kinds at to (λ x. s ≡ shape kinds x)) (en : Of tree kinds at to (λ x. e ≡ suc (at + count (below x))))
    (ln : Of tree kinds e to (λ x. one ≡ is_single_token kinds Integer x)) (mv : fortran_move_of m ≡ fortran_node s one (fortran_state_of st)) where
  pub fortran_moved : {u : FortranMove} → m ≡ u
      → fortran_move lang kinds words lp.left_shape lp.left_word lp.walk.rest (fortran_state_of st) ≡ fortran_move_of u
  fortran_moved q = rw (← sh lp.walk.rest lp.walk.stands, ← ln (next lp.walk.rest) (after_it lp.walk h en)) (sym mv ∙ ap fortran_move_of q)
