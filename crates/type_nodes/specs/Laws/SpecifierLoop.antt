-- The loop of `validate_c_decl_specifiers`. Assumes nothing.
use Prim.Native.Nat.{ℕ, zero, suc, ◌+◌, ◌*◌, ◌≤◌, ◌<◌}
use Rattle.std.specs.Prelude.{◌≡◌, Bool, ◌&&◌, ◌||◌, not, List, [], ◌∷◌, get_or, set, replicate, ltb}
use Rattle.std.proofs.Math.Path.{refl, sym, ap}
use Rattle.std.proofs.Common.{◌∙◌, subst, true≢false, arith, add-one, length-set, ltb-true, ltb-false}
use Rattle.std.proofs.Math.Bool.{true, false}
use Rattle.std.proofs.Math.ListN.{length}
use Rattle.std.proofs.Math.Dec.{eqb}
use Rattle.std.proofs.lemmas.Bool.{not-false}
use Rattle.rows.specs.Notation.{◌is_one_of◌}
use Rattle.std.proofs.Math.Bool.{and-false}
use Rattle.rows.specs.Languages.{Cpp}
use Rattle.rows.specs.Kinds.{Identifier, Scope}
use Rattle.rows.specs.Words.{no_word}
use Rattle.reader.specs.Nodes.{Nodes, none, node, count, node_width, numbers_bound}
use Rattle.type_nodes.specs.Nodes.{empty, next, shape, exact_word}
use Rattle.type_nodes.specs.Moves.{Move, stop, on, on_if}
use Rattle.type_nodes.specs.Shapes.{Parenthesized, TemplateArguments}
use Rattle.type_nodes.specs.Sets.{builtin_type_words, is_c_builtin_type_word, parenthesis_words}
use Rattle.type_nodes.specs.Specifiers.{Specifiers, specifiers, specifiers_end, builtin_word, specifier_node, specifiers_from, validate_c_decl_specifiers}
use Rattle.type_nodes.specs.Combination.{times, has, how_many, builtin_words, no_builtin_word, once_more, none_seen, counted_words, validate_c_builtin_combination}
use Rattle.type_nodes.specs.Stands.{Stands, WordedNodes, Of, below}
use Rattle.type_nodes.specs.RepresentedSpecifiers.{specifiers_of, specifier_move_of, HasCount, SpecifierMoves}
use Rattle.type_nodes.specs.Laws.Siblings.{first, nothing_left, unique}
use Rattle.type_nodes.specs.Laws.Counts.{no_builtin_once_more}
use Rattle.type_nodes.specs.Laws.SingleWord.{zeros, Single, no_single, one_alone, single_valid, single_once_more}
use Rattle.type_nodes.specs.Laws.SpecifierTables.{builtin_counted, word_2, at_identifier, at_end, at_name, at_scope_after_name}
use Rattle.type_nodes.specs.declared.specifiers.SpecifierFlags.{SpecifierFlags}
use Rattle.type_nodes.specs.declared.specifiers.SpecifierMove.{SpecifierMove}
use Rattle.type_nodes.specs.declared.specifiers.SpecifierMove.TheVariants as M

-- ---- counts

one_more : (l : List ℕ) (u v : ℕ) → get_or (set l v (suc (get_or l v 0))) u 0 ≤ suc (get_or l u 0)
one_more [] u v = omega arith
one_more (a ∷ l) zero zero = omega arith
one_more (a ∷ l) (suc u) zero = omega arith
one_more (a ∷ l) zero (suc v) = omega arith
one_more (a ∷ l) (suc u) (suc v) = one_more l u v

-- ---- the loop from a node on

module _ (lang : ℕ) (kinds words : List ℕ) where
  -- What is done at the first of some nodes.
  abbrev here : Nodes → (lw : ℕ) → Specifiers → Move Specifiers
  here x lw st = specifier_node lang lw (shape kinds x) (exact_word kinds words x) (shape kinds (next x)) (exact_word kinds words (next x)) st

  from_stop : (x : Nodes) (lw : ℕ) (st : Specifiers) {r : Bool} → empty x ≡ false → here x lw st ≡ stop r → specifiers_from lang kinds words x lw st ≡ r
  unfolding specifiers_from empty next
  from_stop none lw st h e = absurd (true≢false h)
  from_stop (node k i b x) lw st h e = rw (e, specifiers_from)

  -- The specifiers go on at the first of some nodes.
  abbrev goes_on : Nodes → (lw : ℕ) → Bool
  goes_on x lw = shape kinds x is_one_of (Identifier ∷ Scope ∷ TemplateArguments ∷ []) || (eqb (shape kinds x) Parenthesized && lw is_one_of parenthesis_words)

  from_end : (x : Nodes) (lw : ℕ) (st : Specifiers) → not (goes_on x lw) ≡ true → specifiers_from lang kinds words x lw st ≡ specifiers_end st
  unfolding specifiers_from empty next
  from_end none lw st h = refl
  from_end (node k i b x) lw st h =
      from_stop (node k i b x) lw st refl
      (sym (at_end lang lw (shape kinds (node k i b x)) (exact_word kinds words (node k i b x)) (shape kinds x) (exact_word kinds words x) st h))

  none_ends : (x : Nodes) (lw : ℕ) → x ≡ none → goes_on x lw ≡ false
  unfolding shape ◌is_one_of◌
  none_ends x lw e = rw e

  from_on : (x : Nodes) (lw : ℕ) (st : Specifiers) {st' : Specifiers} → empty x ≡ false → here x lw st ≡ on st'
      → specifiers_from lang kinds words x lw st ≡ specifiers_from lang kinds words (next x) (exact_word kinds words x) st'
  unfolding specifiers_from empty next
  from_on none lw st h e = absurd (true≢false h)
  from_on (node k i b x) lw st h e = rw (e, specifiers_from)

  -- ---- a type of one word

  abbrev at_first : Specifiers
  at_first = specifiers none_seen false false false false

  none_first : true ≡ no_builtin_word none_seen
  unfolding none_seen no_builtin_word builtin_words builtin_type_words how_many has times
  none_first = refl

  counted_first : (w : ℕ) → w < counted_words → w < length none_seen
  unfolding none_seen
  counted_first w h = h

  module _ (x : Nodes) (full : empty x ≡ false) (alone : next x ≡ none) (i : shape kinds x ≡ Identifier) where
    -- What the loop comes to where it goes on at the only node.
    from_only : {st : Specifiers} → here x no_word at_first ≡ on st → specifiers_from lang kinds words x no_word at_first ≡ specifiers_end st
    from_only {st} e =
        from_on x no_word at_first full e
        ∙ from_end (next x) (exact_word kinds words x) st (ap not (none_ends (next x) (exact_word kinds words x) alone))

    name_specified : eqb (exact_word kinds words x) no_word ≡ true → specifiers_from lang kinds words x no_word at_first ≡ true
    unfolding specifiers_end
    name_specified n =
        from_only (at_name lang no_word (shape kinds x) (exact_word kinds words x) _ _ none_seen false false false false true none_first (rw (i, n) refl))
        ∙ rw (← none_first)

    builtin_specified : is_c_builtin_type_word (exact_word kinds words x) ≡ true → specifiers_from lang kinds words x no_word at_first ≡ true
    unfolding specifiers_end builtin_word on_if shape
    builtin_specified n =
        let w : ℕ = exact_word kinds words x in
        from_only
        (sym (at_identifier lang no_word (shape kinds x) w (shape kinds (next x)) (exact_word kinds words (next x)) at_first i)
        ∙ sym (word_2 lang w (shape kinds (next x)) at_first (rw alone (and-false (w is_one_of parenthesis_words))) n))
        ∙ rw (no_builtin_once_more none_seen w (counted_first w (builtin_counted w n)), n, and-false (no_builtin_word none_seen)) (one_alone w n)

    pub word_specified : (eqb (exact_word kinds words x) no_word || is_c_builtin_type_word (exact_word kinds words x)) ≡ true → validate_c_decl_specifiers lang kinds words x ≡ true
    unfolding validate_c_decl_specifiers
    word_specified y =
        elim (eqb (exact_word kinds words x) no_word) as (λ t. eqb (exact_word kinds words x) no_word ≡ t → validate_c_decl_specifiers lang kinds words x ≡ true) [
          | true ↦ λ n. name_specified n
          | false ↦ λ n. builtin_specified (rw n at y)
        ] refl

-- The word that a move counts has a count.
pub counted_known : {seen : List ℕ} {r : SpecifierMove} {m : Move Specifiers} {v : ℕ} {g : SpecifierFlags} → SpecifierMoves seen r m → r ≡ M.Count v g → v < counted_words
counted_known {v = v} {g = g} mv q = subst HasCount q mv.known

-- `counts`: no word was seen more often than there are nodes before the node, so the code can count.
pub record SpecifierLoop (lang : ℕ) (tree kinds words : List ℕ) (from to : ℕ) (seen : List ℕ) (no_builtin single : Bool) (f : SpecifierFlags) (lw at : ℕ) : Type 0 where
  pub rest : Nodes
  pub stands : Stands tree kinds at to rest
  pub room : node_width * to ≤ length tree
  pub few : to ≤ numbers_bound
  pub worded : length words ≡ length kinds
  pub counts : (w : ℕ) → get_or seen w 0 ≤ at
  pub sized : length seen ≡ counted_words
  pub kept : no_builtin ≡ no_builtin_word seen
  pub alone : Single single seen
  pub is : (x : Nodes) → Stands tree kinds from to x
      → validate_c_decl_specifiers lang kinds words x ≡ specifiers_from lang kinds words rest lw (specifiers_of seen f)

pub specifiers_start : (lang : ℕ) {tree kinds words : List ℕ} {from to : ℕ} → WordedNodes tree kinds words from to
    → SpecifierLoop lang tree kinds words from to (replicate counted_words 0) true false (record { saw_named_type = false; saw_elaborated = false; saw_bit_int = false; previous_was_scope = false }) 0 from
unfolding validate_c_decl_specifiers none_seen no_builtin_word builtin_words builtin_type_words how_many has times
specifiers_start lang r = record {
  rest = r.nodes_stand.nodes;
  stands = r.nodes_stand.stands;
  room = r.nodes_stand.room;
  few = r.nodes_stand.few;
  worded = r.worded;
  counts = λ w. omega (arith, zeros counted_words w);
  sized = refl;
  kept = refl;
  alone = no_single _;
  is = λ x s. rw (unique s r.nodes_stand.stands) refl;
}

module _ {lang : ℕ} {tree kinds words : List ℕ} {from to : ℕ} {seen : List ℕ} {no_builtin single : Bool} {f : SpecifierFlags} {lw at : ℕ}
    (lp : SpecifierLoop lang tree kinds words from to seen no_builtin single f lw at) where
  pub specifiers_ready : WordedNodes tree kinds words at to
  specifiers_ready = record { nodes_stand = record { nodes = lp.rest; stands = lp.stands; room = lp.room; few = lp.few }; worded = lp.worded }

  pub ready_to_end : (no_builtin ≡ no_builtin_word seen) × (single ≡ true → validate_c_builtin_combination seen ≡ true)
  ready_to_end = (lp.kept, single_valid seen lp.alone)

  pub count_fits : (w : ℕ) → at < to → get_or seen w 0 < numbers_bound
  count_fits w h = omega (arith, lp.counts w, lp.few)

  module _ {s : ℕ} (sh : Of tree kinds at to (λ x. s ≡ shape kinds x)) {ends : Bool}
      (d : ends ≡ not (s is_one_of (Identifier ∷ Scope ∷ TemplateArguments ∷ []) || (eqb s Parenthesized && lw is_one_of parenthesis_words))) where
    pub specifiers_ended : ends ≡ true → {r : Bool} → r ≡ specifiers_end (specifiers_of seen f) → Of tree kinds from to (λ x. r ≡ validate_c_decl_specifiers lang kinds words x)
    specifiers_ended y e x t =
        e ∙ sym (lp.is x t ∙ from_end lang kinds words lp.rest lw (specifiers_of seen f) (rw (← sh lp.rest lp.stands) (sym d ∙ y)))

    pub not_ended : ends ≡ false → (s is_one_of (Identifier ∷ Scope ∷ TemplateArguments ∷ []) || (eqb s Parenthesized && lw is_one_of parenthesis_words)) ≡ true
    not_ended n = not-false _ (sym d ∙ n)

    pub specifiers_more : ends ≡ false → at < to
    specifiers_more n =
        elim (ltb at to) as (λ t. ltb at to ≡ t → at < to) [
          | true ↦ λ u. ltb-true at to u
          | false ↦ λ u.
              let z : lp.rest ≡ none = nothing_left lp.stands (ltb-false at to u) in
              absurd (true≢false (sym (not_ended n) ∙ ap (λ (k : ℕ). k is_one_of (Identifier ∷ Scope ∷ TemplateArguments ∷ []) || (eqb k Parenthesized && lw is_one_of parenthesis_words)) (sh lp.rest lp.stands) ∙ none_ends lang kinds words lp.rest lw z))
        ] refl

  module _ (h : at < to) {s : ℕ} (sh : Of tree kinds at to (λ x. s ≡ shape kinds x)) where
    stopped : {r : Bool} → here lang kinds words lp.rest lw (specifiers_of seen f) ≡ stop r → Of tree kinds from to (λ x. r ≡ validate_c_decl_specifiers lang kinds words x)
    stopped e x t = sym (lp.is x t ∙ from_stop lang kinds words lp.rest lw (specifiers_of seen f) (first lp.stands h).full e)

    module _ {e : ℕ} (en : Of tree kinds at to (λ x. e ≡ suc (at + count (below x)))) where
      pub specifiers_further : at < e
      specifiers_further = omega (arith, en lp.rest lp.stands)

      pub specifiers_fits : e ≤ to
      specifiers_fits = omega (arith, en lp.rest lp.stands, (first lp.stands h).fits)

      after_it : Stands tree kinds e to (next lp.rest)
      after_it = subst (λ (u : ℕ). Stands tree kinds u to (next lp.rest)) (sym (en lp.rest lp.stands)) (first lp.stands h).rest

      pub specifiers_ready_next : WordedNodes tree kinds words e to
      specifiers_ready_next = record { nodes_stand = record { nodes = next lp.rest; stands = after_it; room = lp.room; few = lp.few }; worded = lp.worded }

      module _ {w : ℕ} (wd : Of tree kinds at to (λ x. w ≡ exact_word kinds words x)) where
        -- The loop at the next node, with other counts and flags.
        on_to : {l : List ℕ} {b o : Bool} {g : SpecifierFlags} → here lang kinds words lp.rest lw (specifiers_of seen f) ≡ on (specifiers_of l g) → ((v : ℕ) → get_or l v 0 ≤ e)
            → length l ≡ counted_words → b ≡ no_builtin_word l → Single o l → SpecifierLoop lang tree kinds words from to l b o g w e
        on_to {l} {b} {o} {g} q n z k a = record {
          rest = next lp.rest;
          stands = after_it;
          room = lp.room;
          few = lp.few;
          worded = lp.worded;
          counts = n;
          sized = z;
          kept = k;
          alone = a;
          is = λ x t. rw (wd lp.rest lp.stands) (lp.is x t ∙ from_on lang kinds words lp.rest lw (specifiers_of seen f) (first lp.stands h).full q);
        }

        -- The same with the counts as they are.
        flags_on : {g : SpecifierFlags} → here lang kinds words lp.rest lw (specifiers_of seen f) ≡ on (specifiers_of seen g) → SpecifierLoop lang tree kinds words from to seen no_builtin single g w e
        flags_on q = on_to q (λ v. omega (arith, lp.counts v, specifiers_further)) lp.sized lp.kept lp.alone

        pub specifiers_name : {is : Bool}
            → is ≡ (eqb s Identifier && eqb w no_word && no_builtin && (not f.saw_named_type || f.previous_was_scope || f.saw_elaborated)) → is ≡ true
            → SpecifierLoop lang tree kinds words from to seen no_builtin single
            (record { saw_named_type = true; saw_elaborated = f.saw_elaborated; saw_bit_int = f.saw_bit_int; previous_was_scope = false }) w e
        specifiers_name d y =
            flags_on (rw (← sh lp.rest lp.stands, ← wd lp.rest lp.stands) (at_name lang lw s w _ _ seen _ _ _ _ no_builtin lp.kept (sym d ∙ y)))

        pub specifiers_scope : {is : Bool} → is ≡ (eqb s Scope && eqb lang Cpp && f.saw_named_type && not f.previous_was_scope) → is ≡ true
            → SpecifierLoop lang tree kinds words from to seen no_builtin single
            (record { saw_named_type = f.saw_named_type; saw_elaborated = f.saw_elaborated; saw_bit_int = f.saw_bit_int; previous_was_scope = true }) w e
        specifiers_scope d y =
            flags_on (rw (← sh lp.rest lp.stands, ← wd lp.rest lp.stands) (at_scope_after_name lang lw s w _ _ seen _ _ _ _ (sym d ∙ y)))

        module _ {right second : ℕ} {r : SpecifierMove} (sh₂ : Of tree kinds e to (λ x. right ≡ shape kinds x)) (wd₂ : Of tree kinds e to (λ x. second ≡ exact_word kinds words x))
            (mv : SpecifierMoves seen r (specifier_node lang lw s w right second (specifiers_of seen f))) where
          done_here : here lang kinds words lp.rest lw (specifiers_of seen f) ≡ specifier_move_of seen r
          done_here = rw (← sh lp.rest lp.stands, ← wd lp.rest lp.stands, ← sh₂ (next lp.rest) after_it, ← wd₂ (next lp.rest) after_it) (sym mv.is)

          pub specifiers_stop : {answer : Bool} → r ≡ M.Stop answer → Of tree kinds from to (λ x. answer ≡ validate_c_decl_specifiers lang kinds words x)
          specifiers_stop q = stopped (done_here ∙ ap (specifier_move_of seen) q)

          pub specifiers_on : {g : SpecifierFlags} → r ≡ M.On g → SpecifierLoop lang tree kinds words from to seen no_builtin single g w e
          specifiers_on q = flags_on (done_here ∙ ap (specifier_move_of seen) q)

          pub specifiers_count : {v : ℕ} {g : SpecifierFlags} → r ≡ M.Count v g → {b : Bool} → b ≡ is_c_builtin_type_word v
              → SpecifierLoop lang tree kinds words from to (set seen v (get_or seen v 0 + 1)) (no_builtin && not b) ((b && no_builtin) || (not b && single)) g w e
          unfolding once_more times
          specifiers_count {v} q {b} t =
              let known : v < length seen = rw lp.sized (counted_known mv q) in
              rw (add-one (get_or seen v 0))
              (on_to
              (done_here ∙ ap (specifier_move_of seen) q)
              (λ u. omega (arith, one_more seen u v, lp.counts u, specifiers_further))
              (length-set seen v (suc (get_or seen v 0)) ∙ lp.sized)
              (rw (t, lp.kept) (sym (no_builtin_once_more seen v known)))
              (single_once_more single no_builtin seen v known (counted_known mv q) lp.kept lp.alone b t))
