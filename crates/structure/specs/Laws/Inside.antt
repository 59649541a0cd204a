-- The cases of what is asked of the nodes below a node, of an argument, a parameter and a selector: tests without steps before a check.
-- Assumes nothing.
use Rattle.std.specs.Prelude.{ℕ, suc, ◌+◌, ◌<◌, ◌≡◌, Bool, true, false, not, ◌&&◌, ◌||◌, List, Ok, Err}
use Rattle.std.proofs.Math.Path.{refl, sym, ap}
use Rattle.std.proofs.Common.{◌∙◌, subst}
use borrow.Author.Tests.{eq-eqb, ne_eqb}
use Rattle.rows.specs.Kinds.{Identifier, Equal, Star, Colon}
use Rattle.reader.specs.Nodes.{Nodes, count}
use Rattle.type_nodes.specs.Nodes.{empty, next, shape, is_single_token}
use Rattle.type_nodes.specs.SplitOnCommas.{split_on_commas, elements_are_full}
use Rattle.type_nodes.specs.Moves.{declarator, declarator_or_parameters}
use Rattle.type_nodes.specs.AbstractDeclarators.{looks_like_abstract_declarator}
use Rattle.type_nodes.specs.Stands.{Stands, ends, here, Of, below}
use Rattle.type_nodes.specs.Laws.Siblings.{empty_range}
use Rattle.type_nodes.specs.Laws.Commas.{stands_next}
use Rattle.structure.specs.Said.{Said, both, either, plain, every, a_declarator}
use Rattle.structure.specs.Checks.{checked, test, validate_parameter_type_list, validate_parameter}
use Rattle.structure.specs.Selectors.{validate_fortran_selector, validate_fortran_selector_value, validate_fortran_selector_list}
use Rattle.structure.specs.RepresentedMoves.{test_of}
use Rattle.structure.specs.Allowance.{Verdict, verdict_within}
use Rattle.structure.specs.VerdictSays.{VerdictSays, Answers, Passes}
use Rattle.structure.specs.Laws.Limits.{on_holds, on_fails, limited_both, limited_either, limited_yes, limited_no}
use Rattle.structure.specs.declared.moves.Fault.TheVariants.{Fails, Spent}
use Rattle.structure.specs.declared.moves.Inner.{Inner}

-- ---- a test without steps, and a check

plain_both : (left : ℕ) (g : Bool → Said) → verdict_within left (both (plain true) g) ≡ verdict_within left (g true)
unfolding on_holds
plain_both left g = limited_both left (plain true) g ∙ rw (limited_yes left)

plain_either : (left : ℕ) (g : Bool → Said) → verdict_within left (either (plain false) g) ≡ verdict_within left (g false)
unfolding on_fails
plain_either left g = limited_either left (plain false) g ∙ rw (limited_no left)

module _ {tree kinds : List ℕ} {from to : ℕ} where
  pub empty_of : from ≡ to → Of tree kinds from to (λ x. true ≡ empty x)
  empty_of e x s = sym (empty_range s e)

  pub full_of : (from ≡ to → ⊥) → Of tree kinds from to (λ x. false ≡ empty x)
  unfolding empty
  full_of h x (ends e) = absurd (h e)
  full_of h x (here k i b t s r) = refl

  pub no_node : from ≡ to → Of tree kinds from to (λ x. false ≡ not (empty x))
  no_node e x s = ap not (empty_of e x s)

  pub some_node : (from ≡ to → ⊥) → Of tree kinds from to (λ x. true ≡ not (empty x))
  some_node h x s = ap not (full_of h x s)

  pub no_bound : from ≡ to → Of tree kinds from to (λ x. true ≡ (empty x || is_single_token kinds Star x))
  no_bound e x s = sym (rw (empty_range s e))

  pub bound_of : {r b : Bool} → (from ≡ to → ⊥) → Of tree kinds from to (λ x. r ≡ is_single_token kinds Star x) → r ≡ b
      → Of tree kinds from to (λ x. b ≡ (empty x || is_single_token kinds Star x))
  bound_of h o e x s = sym (rw (← full_of h x s, ← o x s, e))

  pub value_of : {p q b : Bool} → Of tree kinds from to (λ x. p ≡ is_single_token kinds Star x) → Of tree kinds from to (λ x. q ≡ is_single_token kinds Colon x)
      → (p || q) ≡ b → Of tree kinds from to (λ x. b ≡ (is_single_token kinds Star x || is_single_token kinds Colon x))
  value_of o u e x s = sym (rw (← o x s, ← u x s) e)

  pub no_list : from ≡ to → Of tree kinds from to (λ x. false ≡ (not (empty x) && elements_are_full (split_on_commas kinds x)))
  no_list e x s = sym (rw (empty_range s e))

  pub list_of : {r b : Bool} → (from ≡ to → ⊥) → Of tree kinds from to (λ x. r ≡ elements_are_full (split_on_commas kinds x)) → r ≡ b
      → Of tree kinds from to (λ x. b ≡ (not (empty x) && elements_are_full (split_on_commas kinds x)))
  list_of h o e x s = sym (rw (← full_of h x s, ← o x s, e))

module _ {tree kinds : List ℕ} {from to left : ℕ} {what : Nodes → Said} where
  -- The same check by another name.
  pub by_name : (other : Nodes → Said) {v : Verdict} → ((x : Nodes) → what x ≡ other x) → VerdictSays tree kinds from to left other v → VerdictSays tree kinds from to left what v
  by_name other e w = record { says = λ x s. w.says x s ∙ ap (verdict_within left) (sym (e x)) }

  module _ (b : Nodes → Bool) (g : Nodes → Said) (e : (x : Nodes) → what x ≡ either (plain (b x)) (λ _. g x)) where
    pub either_held : Of tree kinds from to (λ x. true ≡ b x) → VerdictSays tree kinds from to left what (Ok left)
    unfolding on_fails
    either_held o = record { says = λ x s. sym (rw (e x, ← o x s) (limited_either left _ _ ∙ rw (limited_yes left))) }

    pub either_else : {v : Verdict} → Of tree kinds from to (λ x. false ≡ b x) → VerdictSays tree kinds from to left g v → VerdictSays tree kinds from to left what v
    either_else o w = record { says = λ x s. w.says x s ∙ sym (rw (e x, ← o x s) (plain_either left _)) }

  module _ (b : Nodes → Bool) (g : Nodes → Said) (e : (x : Nodes) → what x ≡ both (plain (b x)) (λ _. g x)) where
    pub both_failed : Of tree kinds from to (λ x. false ≡ b x) → VerdictSays tree kinds from to left what (Err (Fails left))
    unfolding on_holds
    both_failed o = record { says = λ x s. sym (rw (e x, ← o x s) (limited_both left _ _ ∙ rw (limited_no left))) }

    pub both_then : {v : Verdict} → Of tree kinds from to (λ x. true ≡ b x) → VerdictSays tree kinds from to left g v → VerdictSays tree kinds from to left what v
    both_then o w = record { says = λ x s. w.says x s ∙ sym (rw (e x, ← o x s) (plain_both left _)) }

  -- A check, and another where it fails.
  module _ {f : Nodes → Said} {v : Verdict} (g : Nodes → Said) (e : (x : Nodes) → what x ≡ either (f x) (λ _. g x)) (sv : VerdictSays tree kinds from to left f v) where
    tried : (x : Nodes) → Stands tree kinds from to x → verdict_within left (what x) ≡ on_fails v (λ l. verdict_within l (g x))
    tried x s = rw (e x) (limited_either left _ _ ∙ rw (← sv.says x s))

    pub first_held : {l : ℕ} → v ≡ Ok l → VerdictSays tree kinds from to left what (Ok l)
    unfolding on_fails
    first_held q = record { says = λ x s. sym (tried x s ∙ rw q) }

    pub first_spent : v ≡ Err Spent → VerdictSays tree kinds from to left what (Err Spent)
    unfolding on_fails
    first_spent q = record { says = λ x s. sym (tried x s ∙ rw q) }

    pub then_second : {l : ℕ} {u : Verdict} → v ≡ Err (Fails l) → VerdictSays tree kinds from to l g u → VerdictSays tree kinds from to left what u
    unfolding on_fails
    then_second q w = record { says = λ x s. w.says x s ∙ sym (tried x s ∙ rw q) }

-- ---- what is asked of the nodes below a node

abbrev by_looks : (lang : ℕ) (kinds words : List ℕ) (word looks : Bool) → Nodes → Said
by_looks lang kinds words word looks x =
    elim looks as (λ _. Said) [
      | true ↦ checked lang kinds words a_declarator x
      | false ↦ both (plain word) (λ _. validate_parameter_type_list lang kinds words (checked lang kinds words) x)
    ]

module _ (lang : ℕ) {tree kinds : List ℕ} (words : List ℕ) {from to : ℕ} where
  pub told : {left : ℕ} {t u : Inner} {v : Verdict} → t ≡ u → Passes lang tree kinds words from to left (test_of u) v → Passes lang tree kinds words from to left (test_of t) v
  told {left} {v = v} e w = subst (λ (i : Inner). Passes lang tree kinds words from to left (test_of i) v) (sym e) w

  pub inside_declarator : {left : ℕ} {v : Verdict} → VerdictSays tree kinds from to left (checked lang kinds words a_declarator) v → Passes lang tree kinds words from to left declarator v
  unfolding test
  inside_declarator w = record { says = w.says }

  module _ (word : Bool) {r : Bool} (o : Of tree kinds from to (λ x. r ≡ looks_like_abstract_declarator kinds x)) where
    looks : (b : Bool) → r ≡ b → (x : Nodes) → Stands tree kinds from to x
        → test lang kinds words (checked lang kinds words) (declarator_or_parameters word) x ≡ by_looks lang kinds words word b x
    unfolding test
    looks b e x s = ap (λ (t : Bool). by_looks lang kinds words word t x) (sym (o x s) ∙ e)

    pub group_declarator : {left : ℕ} {v : Verdict} → r ≡ true → VerdictSays tree kinds from to left (checked lang kinds words a_declarator) v
        → Passes lang tree kinds words from to left (declarator_or_parameters word) v
    group_declarator {left} e w = record { says = λ x s. w.says x s ∙ ap (verdict_within left) (sym (looks true e x s)) }

    pub group_parameters : {left : ℕ} {v : Verdict} → r ≡ false
        → VerdictSays tree kinds from to left (λ x. both (plain word) (λ _. validate_parameter_type_list lang kinds words (checked lang kinds words) x)) v
        → Passes lang tree kinds words from to left (declarator_or_parameters word) v
    group_parameters {left} e w = record { says = λ x s. w.says x s ∙ ap (verdict_within left) (sym (looks false e x s)) }

  -- ---- a selector: a keyword and `=` first, or not

  module _ {s₁ : ℕ} (sh₁ : Of tree kinds from to (λ x. s₁ ≡ shape kinds x)) where
    pub selector_value : {left : ℕ} {v : Verdict} → (s₁ ≡ Identifier → ⊥) → Answers validate_fortran_selector_value lang tree kinds words from to left v
        → Answers validate_fortran_selector lang tree kinds words from to left v
    unfolding validate_fortran_selector
    selector_value n w = record { says = λ x s. w.says x s ∙ sym (rw (← sh₁ x s, ne_eqb s₁ Identifier n)) }

    module _ {a s₂ : ℕ} (y₁ : s₁ ≡ Identifier) (h₁ : from < to) (en₁ : Of tree kinds from to (λ x. a ≡ suc (from + count (below x))))
        (sh₂ : Of tree kinds a to (λ x. s₂ ≡ shape kinds x)) where
      pub selector_name : {left : ℕ} {v : Verdict} → (s₂ ≡ Equal → ⊥) → Answers validate_fortran_selector_value lang tree kinds words from to left v
          → Answers validate_fortran_selector lang tree kinds words from to left v
      unfolding validate_fortran_selector
      selector_name n w = record { says = λ x s. w.says x s ∙ sym (rw (← sh₁ x s, eq-eqb s₁ Identifier y₁, ← sh₂ (next x) (stands_next s h₁ en₁), ne_eqb s₂ Equal n)) }

      module _ {b : ℕ} (y₂ : s₂ ≡ Equal) (h₂ : a < to) (en₂ : Of tree kinds a to (λ x. b ≡ suc (a + count (below x)))) where
        value_there : {x : Nodes} → Stands tree kinds from to x → Stands tree kinds b to (next (next x))
        value_there s = stands_next (stands_next s h₁ en₁) h₂ en₂

        keyword : (x : Nodes) → Stands tree kinds from to x → validate_fortran_selector lang kinds words (checked lang kinds words) x
            ≡ both (plain (not (empty (next (next x))))) (λ _. validate_fortran_selector_value lang kinds words (checked lang kinds words) (next (next x)))
        unfolding validate_fortran_selector
        keyword x s = rw (← sh₁ x s, eq-eqb s₁ Identifier y₁, ← sh₂ (next x) (stands_next s h₁ en₁), eq-eqb s₂ Equal y₂)

        pub selector_without : {left : ℕ} → b ≡ to → Answers validate_fortran_selector lang tree kinds words from to left (Err (Fails left))
        unfolding on_holds
        selector_without {left} e = record { says = λ x s. sym (rw (keyword x s, ← no_node e _ (value_there s)) (limited_both left _ _ ∙ rw (limited_no left))) }

        pub selector_with : {left : ℕ} {v : Verdict} → (b ≡ to → ⊥) → Answers validate_fortran_selector_value lang tree kinds words b to left v
            → Answers validate_fortran_selector lang tree kinds words from to left v
        unfolding on_holds
        selector_with {left} n w = record { says = λ x s. w.says _ (value_there s) ∙ sym (rw (keyword x s, ← some_node n _ (value_there s)) (limited_both left _ _ ∙ rw (limited_yes left))) }

  -- ---- the lists: once no part is empty, every part is checked

  module _ (h : from ≡ to → ⊥) {r : Bool} (o : Of tree kinds from to (λ x. r ≡ elements_are_full (split_on_commas kinds x))) (e : r ≡ true) (left : ℕ) where
    pub parameters_start : (x : Nodes) → Stands tree kinds from to x → verdict_within left (validate_parameter_type_list lang kinds words (checked lang kinds words) x)
        ≡ verdict_within left (every (validate_parameter lang kinds words (checked lang kinds words)) (split_on_commas kinds x))
    unfolding validate_parameter_type_list
    parameters_start x s = rw (← full_of h x s, ← o x s, e) (plain_either left _ ∙ plain_both left _)

    pub selectors_start : (x : Nodes) → Stands tree kinds from to x → verdict_within left (validate_fortran_selector_list lang kinds words (checked lang kinds words) x)
        ≡ verdict_within left (every (validate_fortran_selector lang kinds words (checked lang kinds words)) (split_on_commas kinds x))
    unfolding validate_fortran_selector_list
    selectors_start x s = rw (← list_of h o e x s) (plain_both left _)
