-- The check without its fuel: `checked job x ≡ turn checked job x`. Proofs about code use this and never speak of fuel.
-- Assumes nothing.
use Prim.Native.Nat.{ℕ, zero, suc, ◌+◌, ◌≤◌, ◌<◌}
use Rattle.std.specs.Prelude.{◌≡◌, Bool, ◌&&◌, not, List, [], ◌∷◌, eqb, if◌then◌else◌}
use Rattle.std.proofs.Math.Path.{refl, ap}
use Rattle.std.proofs.Common.{◌∙◌}
use Rattle.std.proofs.Math.Bool.{true, false}
use native.Mathlib.Omega.{arith}
use Rattle.rows.specs.Kinds.{Comma}
use Rattle.rows.specs.Words.{no_word}
use Rattle.reader.specs.Nodes.{NodeKind, Nodes, none, node, count}
use Rattle.type_nodes.specs.Shapes.{NoNode}
use Rattle.type_nodes.specs.Nodes.{empty, next, arguments_of, shape, node_identifier}
use Rattle.type_nodes.specs.SplitOnCommas.{prepend, split_on_commas}
use Rattle.type_nodes.specs.Moves.{Test, expression, some_expression, optional_expression, array_bound, type_name, type_or_expression, declarator, arguments, selectors, declarator_or_parameters, Move, stop, on, inside}
use Rattle.type_nodes.specs.AbstractDeclarators.{looks_like_abstract_declarator}
use Rattle.type_nodes.specs.Specifiers.{validate_c_decl_specifiers}
use Rattle.structure.specs.Said.{Said, holds, fails, Job, a_type, an_expression, a_declarator, after, both, either, plain, every}
use Rattle.structure.specs.Declarators.{TypeState, type_state, type_end, DeclaratorState, declarator_state, declarator_end}
use Rattle.structure.specs.Expressions.{ExpressionState, expression_state, expression_end}
use Rattle.structure.specs.Checks.{type_move, expression_move, declarator_move, validate_cpp_template_argument, validate_parameter, validate_parameter_type_list, test, follow, loop, validate_c_family_type, validate_abstract_declarator, validate_expression, turn, check_f, checked}
use Rattle.structure.specs.Selectors.{validate_fortran_selector_value, validate_fortran_selector, validate_fortran_selector_list}

both_same : (a a' : Said) (f g : Bool → Said) → a ≡ a' → ((t : Bool) → f t ≡ g t) → both a f ≡ both a' g
unfolding both
both_same (holds m) a' f g e h = ap (after m) (h true) ∙ ap (λ (a : Said). both a g) e
both_same (fails m) a' f g e h = ap (λ (a : Said). both a g) e

either_same : (a a' : Said) (f g : Bool → Said) → a ≡ a' → ((t : Bool) → f t ≡ g t) → either a f ≡ either a' g
unfolding either
either_same (holds m) a' f g e h = ap (λ (a : Said). either a g) e
either_same (fails m) a' f g e h = ap (after m) (h false) ∙ ap (λ (a : Said). either a g) e

-- every tree of a list has fewer nodes than n
abbrev pub Fewer : ℕ → List Nodes → Type 0
Fewer n [] = Unit {0}
Fewer n (x ∷ xs) = (count x < n) × Fewer n xs

every_same : (n : ℕ) (f g : Nodes → Said) → ((x : Nodes) → count x < n → f x ≡ g x) → (xs : List Nodes) → Fewer n xs → every f xs ≡ every g xs
unfolding every
every_same n f g h [] l = refl
every_same n f g h (x ∷ xs) l = both_same (f x) (g x) _ _ (h x l.0) (λ t. every_same n f g h xs l.1)

fewer_more : (n m : ℕ) → n ≤ m → (xs : List Nodes) → Fewer n xs → Fewer m xs
fewer_more n m h [] l = tt
fewer_more n m h (x ∷ xs) l = (omega (arith, l.0), fewer_more n m h xs l.1)

belows_fewer : (n : ℕ) (x : Nodes) → count x < n → Fewer n (arguments_of x)
unfolding arguments_of count
belows_fewer n none h = tt
belows_fewer n (node k i b x) h = (omega arith, belows_fewer n x (omega arith))

joined_fewer : (n : ℕ) (k : NodeKind) (i : ℕ) (b : Nodes) (xs : List Nodes) → Fewer n xs → Fewer (suc (count b + n)) (prepend k i b xs)
unfolding prepend count
joined_fewer n k i b [] l = tt
joined_fewer n k i b (x ∷ xs) l = (omega (arith, l.0), fewer_more n _ (omega arith) xs l.1)

module _ (lang : ℕ) (kinds words : List ℕ) where
  by_comma : (n : ℕ) (t : Bool) (xs ys : List Nodes) → Fewer n xs → Fewer n ys → Fewer n (if t then xs else ys)
  by_comma n true xs ys p q = p
  by_comma n false xs ys p q = q

  elements_fewer : (x : Nodes) → Fewer (suc (count x)) (split_on_commas kinds x)
  unfolding split_on_commas count
  elements_fewer none = (omega arith, tt)
  elements_fewer (node k i b x) =
      let p = elements_fewer x in
      by_comma (suc (suc (count b + count x))) (eqb (shape kinds (node k i b x)) Comma) _ _
      (omega arith, fewer_more (suc (count x)) (suc (suc (count b + count x))) (omega arith) (split_on_commas kinds x) p)
      (fewer_more (suc (count b + suc (count x))) (suc (suc (count b + count x))) (omega arith) (prepend k i b (split_on_commas kinds x)) (joined_fewer (suc (count x)) k i b (split_on_commas kinds x) p))

  -- two checks that agree on all trees of fewer than n nodes
  module _ (r s : Job → Nodes → Said) (n : ℕ) (same : (j : Job) (b : Nodes) → count b < n → r j b ≡ s j b) where
    argument_same : (x : Nodes) → count x < n → validate_cpp_template_argument lang kinds words r x ≡ validate_cpp_template_argument lang kinds words s x
    unfolding validate_cpp_template_argument
    argument_same x h = both_same _ _ _ _ refl (λ t. either_same _ _ _ _ (same a_type x h) (λ t. same an_expression x h))

    parameter_same : (x : Nodes) → count x < n → validate_parameter lang kinds words r x ≡ validate_parameter lang kinds words s x
    unfolding validate_parameter
    parameter_same x h = either_same _ _ _ _ refl (λ t. same a_type x h)

    parameters_same : (x : Nodes) → count x < n → validate_parameter_type_list lang kinds words r x ≡ validate_parameter_type_list lang kinds words s x
    unfolding validate_parameter_type_list
    parameters_same x h =
        either_same _ _ _ _ refl (λ t. both_same _ _ _ _ refl
        (λ t. every_same n _ _ parameter_same _ (fewer_more (suc (count x)) n (omega arith) (split_on_commas kinds x) (elements_fewer x))))

    value_same : (x : Nodes) → count x < n → validate_fortran_selector_value lang kinds words r x ≡ validate_fortran_selector_value lang kinds words s x
    unfolding validate_fortran_selector_value
    value_same x h = either_same _ _ _ _ refl (λ t. same an_expression x h)

    next_fewer : (x : Nodes) → count (next x) ≤ count x
    unfolding next count
    next_fewer none = omega arith
    next_fewer (node k i b x) = omega arith

    selector_same : (x : Nodes) → count x < n → validate_fortran_selector lang kinds words r x ≡ validate_fortran_selector lang kinds words s x
    unfolding validate_fortran_selector
    selector_same x h = simp (value_same x h, value_same (next (next x)) (omega (arith, next_fewer x, next_fewer (next x))))

    selectors_same : (x : Nodes) → count x < n → validate_fortran_selector_list lang kinds words r x ≡ validate_fortran_selector_list lang kinds words s x
    unfolding validate_fortran_selector_list
    selectors_same x h =
        both_same _ _ _ _ refl (λ t. every_same n _ _ selector_same _ (fewer_more (suc (count x)) n (omega arith) (split_on_commas kinds x) (elements_fewer x)))

    looks_same : (t : Bool) (a a' b b' : Said) → a ≡ a' → b ≡ b' → ◌≡◌ {A = Said} (elim t as (λ _. Said) [ true ↦ a | false ↦ b ]) (elim t as (λ _. Said) [ true ↦ a' | false ↦ b' ])
    looks_same true a a' b b' p q = p
    looks_same false a a' b b' p q = q

    test_same : (t : Test) (b : Nodes) → count b < n → test lang kinds words r t b ≡ test lang kinds words s t b
    unfolding test
    test_same expression b h = same an_expression b h
    test_same some_expression b h = both_same _ _ _ _ refl (λ t. same an_expression b h)
    test_same optional_expression b h = either_same _ _ _ _ refl (λ t. same an_expression b h)
    test_same array_bound b h = either_same _ _ _ _ refl (λ t. same an_expression b h)
    test_same type_name b h = same a_type b h
    test_same type_or_expression b h = either_same _ _ _ _ (same a_type b h) (λ t. same an_expression b h)
    test_same declarator b h = same a_declarator b h
    test_same arguments b h = every_same n _ _ argument_same _ (belows_fewer n b h)
    test_same selectors b h = selectors_same b h
    test_same (declarator_or_parameters typed) b h =
        looks_same (looks_like_abstract_declarator kinds b) _ _ _ _ (same a_declarator b h)
        (both_same (plain typed) _ _ _ refl (λ t. parameters_same b h))

    module _ (S : Type 0) (move : (left lw : ℕ) → Nodes → S → Move S) (done : S → Bool) where
      follow_same : (m : Move S) (b : Nodes) (f g : S → Said) → count b < n → ((st : S) → f st ≡ g st)
          → follow lang kinds words r S move done m b f ≡ follow lang kinds words s S move done m b g
      unfolding follow
      follow_same (stop t) b f g h e = refl
      follow_same (on st) b f g h e = e st
      follow_same (inside t st) b f g h e = both_same _ _ _ _ (test_same t b h) (λ _. e st)

      run_same : (x : Nodes) (left lw : ℕ) (st : S) → count x ≤ n → loop lang kinds words r S move done x left lw st ≡ loop lang kinds words s S move done x left lw st
      unfolding loop count
      run_same none left lw st h = refl
      run_same (node k i b x) left lw st h =
          follow_same (move left lw (node k i b x) st) b _ _ (omega arith)
          (λ st'. run_same x (shape kinds (node k i b x)) (node_identifier kinds words (node k i b x)) st' (omega arith))

    turn_same : (j : Job) (x : Nodes) → count x ≤ n → turn lang kinds words r j x ≡ turn lang kinds words s j x
    unfolding turn validate_c_family_type validate_abstract_declarator validate_expression
    turn_same a_type x h =
        ap (after 1) (both_same (plain (not (empty x) && validate_c_decl_specifiers lang kinds words x)) _ _ _ refl
        (λ t. run_same TypeState (type_move lang kinds words) type_end x NoNode no_word (type_state false false false) h))
    turn_same an_expression x h =
        ap (after 1) (both_same (plain (not (empty x))) _ _ _ refl
        (λ t. run_same ExpressionState (expression_move lang kinds words) expression_end x NoNode no_word (expression_state true false 0) h))
    turn_same a_declarator x h =
        ap (after 1) (both_same (plain (not (empty x))) _ _ _ refl
        (λ t. run_same DeclaratorState (declarator_move lang kinds words) declarator_end x NoNode no_word (declarator_state false false) h))

  -- any two fuels that are enough give the same
  pub enough : (f g : ℕ) (j : Job) (x : Nodes) → count x < f → count x < g → check_f lang kinds words f j x ≡ check_f lang kinds words g j x
  unfolding check_f
  enough zero g j x p q = absurd (omega arith)
  enough (suc f) zero j x p q = absurd (omega arith)
  enough (suc f) (suc g) j x p q =
      turn_same (check_f lang kinds words f) (check_f lang kinds words g) (count x)
      (λ j b h. enough f g j b (omega arith) (omega arith)) j x (omega arith)

  pub fixed : (j : Job) (x : Nodes) → checked lang kinds words j x ≡ turn lang kinds words (checked lang kinds words) j x
  unfolding checked check_f
  fixed j x =
      turn_same (check_f lang kinds words (count x)) (checked lang kinds words) (count x)
      (λ j b h. enough (count x) (suc (count b)) j b h (omega arith)) j x (omega arith)
