-- The arms of the specifiers' table of moves, and the words that are counted. Assumes nothing.
use Rattle.std.specs.Prelude.{ℕ, ◌<◌, ◌≡◌, Bool, ◌&&◌, ◌||◌, List, [], ◌∷◌}
use Rattle.std.proofs.Math.Path.{refl, ap}
use Rattle.std.proofs.Common.{sym, ◌∙◌}
use Rattle.std.proofs.Math.Bool.{true, false, not}
use Rattle.std.proofs.Math.Dec.{eqb}
use borrow.Author.Tests.{eqb-true, not-true}
use Rattle.rows.specs.Notation.{◌is_one_of◌}
use Rattle.rows.specs.Languages.{Cpp}
use Rattle.rows.specs.Kinds.{Identifier, Scope}
use Rattle.rows.specs.Words.{no_word}
use Rattle.type_nodes.specs.Shapes.{Parenthesized, TemplateArguments}
use Rattle.type_nodes.specs.Sets.{parenthesis_words, elaborated_words, declarator_operators, is_c_builtin_type_word, is_c_family_declarator_qualifier, builtin_type_words, declarator_qualifiers}
use Rattle.type_nodes.specs.Moves.{Move, stop, on, on_if}
use Rattle.type_nodes.specs.Specifiers.{Specifiers, specifiers, specifiers_end, leading_global_scope, parenthesis_word, qualifier_word, elaborated_word, builtin_word, name_word, specifier_scope, specifier_list, specifier_node}
use Rattle.type_nodes.specs.Combination.{counted_words, no_builtin_word}
use Rattle.type_nodes.specs.RepresentedSpecifiers.{SpecifierMoves}
use Rattle.std.proofs.lemmas.Bool.{and_from, and_parts, or_parts}
use Rattle.type_nodes.specs.Laws.Bounds.{all_pass, one_passes, all_below, one_below}
use Rattle.type_nodes.specs.declared.specifiers.SpecifierMove.{SpecifierMove}

-- The same move by another name.
pub moved : {seen : List ℕ} {r : SpecifierMove} {a b : Move Specifiers} → SpecifierMoves seen r a → a ≡ b → SpecifierMoves seen r b
moved w e = record { is = w.is ∙ e; known = w.known }

-- ---- words that are counted

pub builtin_counted : (w : ℕ) → is_c_builtin_type_word w ≡ true → w < counted_words
unfolding is_c_builtin_type_word builtin_type_words all_below
builtin_counted w h = one_below counted_words w builtin_type_words refl h

pub qualifier_counted : (w : ℕ) → is_c_family_declarator_qualifier w ≡ true → w < counted_words
unfolding is_c_family_declarator_qualifier declarator_qualifiers all_below
qualifier_counted w h = one_below counted_words w declarator_qualifiers refl h

-- ---- the table: an arm's move is the table's where the arm's test holds

-- A builtin type word is no qualifier and begins no elaborated name.
builtin_apart : (w : ℕ) → is_c_builtin_type_word w ≡ true → (not (is_c_family_declarator_qualifier w) && not (w is_one_of elaborated_words)) ≡ true
unfolding is_c_builtin_type_word builtin_type_words is_c_family_declarator_qualifier elaborated_words ◌is_one_of◌ all_pass
builtin_apart w h = one_passes (λ (v : ℕ). not (is_c_family_declarator_qualifier v) && not (v is_one_of elaborated_words)) w builtin_type_words refl h

-- At a word, whatever stands beside it.
module _ (lang w right : ℕ) (st : Specifiers) where
  abbrev at_word : Move Specifiers
  at_word = specifier_node lang no_word Identifier w right no_word st

  pub word_1 : (w is_one_of parenthesis_words && eqb right Parenthesized) ≡ true → parenthesis_word w st ≡ at_word
  unfolding specifier_node
  word_1 y = rw y

  module _ (n1 : (w is_one_of parenthesis_words && eqb right Parenthesized) ≡ false) where
    pub word_2 : is_c_builtin_type_word w ≡ true → builtin_word w st ≡ at_word
    unfolding specifier_node
    word_2 y =
        let a : (not (is_c_family_declarator_qualifier w) && not (w is_one_of elaborated_words)) ≡ true = builtin_apart w y in
        let q : is_c_family_declarator_qualifier w ≡ false = not-true (is_c_family_declarator_qualifier w) (and_parts (not (is_c_family_declarator_qualifier w)) (not (w is_one_of elaborated_words)) a).0 in
        let r : (w is_one_of elaborated_words) ≡ false = not-true (w is_one_of elaborated_words) (and_parts (not (is_c_family_declarator_qualifier w)) (not (w is_one_of elaborated_words)) a).1 in
        rw (n1, q, r, y)

    module _ (n2 : is_c_builtin_type_word w ≡ false) where
      pub word_3 : is_c_family_declarator_qualifier w ≡ true → qualifier_word w st ≡ at_word
      unfolding specifier_node
      word_3 y = rw (n1, y)

      module _ (n3 : is_c_family_declarator_qualifier w ≡ false) where
        pub word_4 : (w is_one_of elaborated_words) ≡ true → elaborated_word lang w right st ≡ at_word
        unfolding specifier_node
        word_4 y = rw (n1, n3, y)

        pub word_5 : (w is_one_of elaborated_words) ≡ false → name_word st ≡ at_word
        unfolding specifier_node
        word_5 n4 = rw (n1, n3, n4, n2)

-- At any node.
module _ (lang lw s w right second : ℕ) (st : Specifiers) where
  abbrev table : Move Specifiers
  table = specifier_node lang lw s w right second st

  -- The specifiers go on at the node.
  abbrev goes_on : Bool
  goes_on = s is_one_of (Identifier ∷ Scope ∷ TemplateArguments ∷ []) || (eqb s Parenthesized && lw is_one_of parenthesis_words)

  pub at_identifier : s ≡ Identifier → at_word lang w right st ≡ table
  unfolding specifier_node
  at_identifier y = rw y

  pub at_scope : s ≡ Scope → specifier_scope lang right second st ≡ table
  unfolding specifier_node
  at_scope y = rw y

  pub at_list : s ≡ TemplateArguments → specifier_list lang st ≡ table
  unfolding specifier_node
  at_list y = rw y

  module _ (n1 : eqb s Identifier ≡ false) (n2 : eqb s Scope ≡ false) (n3 : eqb s TemplateArguments ≡ false) where
    -- The parentheses of the word before them.
    pub at_group : goes_on ≡ true → on st ≡ table
    unfolding specifier_node ◌is_one_of◌
    at_group y =
        let g : (eqb s Parenthesized && lw is_one_of parenthesis_words) ≡ true = rw (n1, n2, n3) at y in
        rw (eqb-true s Parenthesized (and_parts _ _ g).0, (and_parts (eqb s Parenthesized) (lw is_one_of parenthesis_words) g).1)

    -- The three `break`.
    breaks : (eqb s Parenthesized && lw is_one_of parenthesis_words) ≡ false → stop (specifiers_end st) ≡ table
    unfolding specifier_node
    breaks n =
        elim (s is_one_of declarator_operators) as (λ t. (s is_one_of declarator_operators) ≡ t → stop (specifiers_end st) ≡ table) [
          | true ↦ λ e. rw e
          | false ↦ λ e. elim (eqb s Parenthesized) as (λ t. eqb s Parenthesized ≡ t → stop (specifiers_end st) ≡ table) [
            | true ↦ λ g. rw (e, n, g)
            | false ↦ λ g. rw (e, n, g, n1, n2, n3)
          ] refl
        ] refl

  pub at_end : not goes_on ≡ true → stop (specifiers_end st) ≡ table
  unfolding ◌is_one_of◌
  at_end y =
      let n : goes_on ≡ false = not-true goes_on y in
      let shapes : (s is_one_of (Identifier ∷ Scope ∷ TemplateArguments ∷ [])) ≡ false = (or_parts _ (eqb s Parenthesized && lw is_one_of parenthesis_words) n).0 in
      let others : (s is_one_of (Scope ∷ TemplateArguments ∷ [])) ≡ false = (or_parts (eqb s Identifier) _ shapes).1 in
      let last : (s is_one_of (TemplateArguments ∷ [])) ≡ false = (or_parts (eqb s Scope) _ others).1 in
      breaks (or_parts (eqb s Identifier) _ shapes).0 (or_parts (eqb s Scope) _ others).0 (or_parts (eqb s TemplateArguments) false last).0
      (or_parts (s is_one_of (Identifier ∷ Scope ∷ TemplateArguments ∷ [])) _ n).1

-- The two nodes that the loop takes at once.
module _ (lang lw s w right second : ℕ) (seen : List ℕ) (named elaborated bit_int scope : Bool) where
  abbrev taken : Move Specifiers
  taken = specifier_node lang lw s w right second (specifiers seen named elaborated bit_int scope)

  at_a_name : s ≡ Identifier → w ≡ no_word → name_word (specifiers seen named elaborated bit_int scope) ≡ taken
  unfolding specifier_node ◌is_one_of◌
  at_a_name y z = rw (y, z)

  named_on : no_builtin_word seen ≡ true → (not named || scope || elaborated) ≡ true
      → name_word (specifiers seen named elaborated bit_int scope) ≡ on (specifiers seen true elaborated bit_int false)
  unfolding name_word on_if
  named_on y z = ap (λ (ok : Bool). on_if ok (specifiers seen true elaborated bit_int false)) (and_from _ _ y z)

  pub at_name : (no_builtin : Bool) → no_builtin ≡ no_builtin_word seen → (eqb s Identifier && eqb w no_word && no_builtin && (not named || scope || elaborated)) ≡ true
      → taken ≡ on (specifiers seen true elaborated bit_int false)
  at_name no_builtin k y =
      let a : (eqb s Identifier && eqb w no_word && no_builtin) ≡ true = (and_parts _ (not named || scope || elaborated) y).0 in
      let b : (eqb s Identifier && eqb w no_word) ≡ true = (and_parts _ no_builtin a).0 in
      sym (at_a_name (eqb-true s Identifier (and_parts _ (eqb w no_word) b).0) (eqb-true w no_word (and_parts (eqb s Identifier) _ b).1))
      ∙ named_on (sym k ∙ (and_parts (eqb s Identifier && eqb w no_word) no_builtin a).1) (and_parts (eqb s Identifier && eqb w no_word && no_builtin) (not named || scope || elaborated) y).1

  pub at_scope_after_name : (eqb s Scope && eqb lang Cpp && named && not scope) ≡ true → taken ≡ on (specifiers seen named elaborated bit_int true)
  unfolding specifier_node specifier_scope leading_global_scope on_if ◌is_one_of◌
  at_scope_after_name y =
      let a : (eqb s Scope && eqb lang Cpp && named) ≡ true = (and_parts _ (not scope) y).0 in
      let b : (eqb s Scope && eqb lang Cpp) ≡ true = (and_parts _ named a).0 in
      rw (
        eqb-true s Scope (and_parts _ (eqb lang Cpp) b).0,
        (and_parts (eqb s Scope) (eqb lang Cpp) b).1,
        (and_parts (eqb s Scope && eqb lang Cpp) named a).1,
        not-true scope (and_parts (eqb s Scope && eqb lang Cpp && named) (not scope) y).1,
      )
