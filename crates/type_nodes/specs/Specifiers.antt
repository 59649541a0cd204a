-- The declaration specifiers at the head of a C or C++ type name: `validate_c_decl_specifiers`, without steps. Document 01, "Node record". Words are
-- compared exactly.
-- Assumes nothing.
use Rattle.std.specs.Prelude.{ℕ, Bool, true, ◌&&◌, ◌||◌, not, List, eqb, if◌then◌else◌}
use Rattle.std.proofs.Math.Bool.{false}
use Rattle.rows.specs.Notation.{◌is_one_of◌}
use Rattle.rows.specs.Languages.{C, Cpp}
use Rattle.rows.specs.Kinds.{Identifier, Scope}
use Rattle.rows.specs.Words.{no_word, exactly, _BitInt}
use Rattle.reader.specs.Nodes.{Nodes, none, node}
use Rattle.type_nodes.specs.Shapes.{Parenthesized, TemplateArguments}
use Rattle.type_nodes.specs.Nodes.{shape, node_identifier, exact_word}
use Rattle.type_nodes.specs.Sets.{signs, parenthesis_words, elaborated_words, cpp_elaborated_words, declarator_operators}
use Rattle.type_nodes.specs.Sets.{is_c_builtin_type_word, is_c_family_declarator_qualifier, is_keyword}
use Rattle.type_nodes.specs.Combination.{none_seen, has, once_more, no_builtin_word, validate_c_bit_int_sign, validate_c_builtin_combination}
use Rattle.type_nodes.specs.Moves.{Move, stop, on, inside, on_if}

-- The variables of `validate_c_decl_specifiers`; `seen`: its `qualifiers` and `builtin_words`, as specs/Combination.antt counts them.
pub data Specifiers : Type 0 where
  specifiers : (seen : List ℕ) (saw_named_type saw_elaborated saw_bit_int previous_was_scope : Bool) → Specifiers

-- `validate_c_decl_specifiers` after its loop.
unfoldable pub specifiers_end : Specifiers → Bool
specifiers_end (specifiers seen saw_named_type saw_elaborated saw_bit_int previous_was_scope) =
    if previous_was_scope then false
    else if saw_bit_int then validate_c_bit_int_sign seen
    else if not (no_builtin_word seen) then validate_c_builtin_combination seen
    else saw_named_type || saw_elaborated

-- What is done at a node: s and w are its shape and word, `right` and rw those of the node after it, lw is the word of the node before it.

-- `validate_c_decl_specifiers` at a word that makes a specifier with the parentheses after it.
unfoldable pub parenthesis_word : (w : ℕ) → Specifiers → Move Specifiers
unfolding on_if validate_c_bit_int_sign no_builtin_word
parenthesis_word w (specifiers seen saw_named_type saw_elaborated saw_bit_int previous_was_scope) =
    on_if (not saw_named_type && not saw_elaborated && (if eqb w _BitInt then validate_c_bit_int_sign seen else no_builtin_word seen))
    (specifiers seen true saw_elaborated (eqb w _BitInt) previous_was_scope)

-- `validate_c_decl_specifiers` at a qualifier.
unfoldable pub qualifier_word : (w : ℕ) → Specifiers → Move Specifiers
unfolding on_if has once_more
qualifier_word w (specifiers seen saw_named_type saw_elaborated saw_bit_int previous_was_scope) =
    on_if (not (has w seen)) (specifiers (once_more w seen) saw_named_type saw_elaborated saw_bit_int previous_was_scope)

-- `validate_c_decl_specifiers` at the first word of an elaborated name.
unfoldable pub elaborated_word : (lang w right : ℕ) → Specifiers → Move Specifiers
unfolding on_if ◌is_one_of◌ cpp_elaborated_words no_builtin_word
elaborated_word lang w right (specifiers seen saw_named_type saw_elaborated saw_bit_int previous_was_scope) =
    on_if
    (not (eqb lang C && w is_one_of cpp_elaborated_words) && not saw_named_type && no_builtin_word seen && not saw_elaborated && eqb right Identifier)
    (specifiers seen saw_named_type true saw_bit_int previous_was_scope)

-- `validate_c_decl_specifiers` at a builtin type word.
unfoldable pub builtin_word : (w : ℕ) → Specifiers → Move Specifiers
unfolding on_if ◌is_one_of◌ signs once_more
builtin_word w (specifiers seen saw_named_type saw_elaborated saw_bit_int previous_was_scope) =
    on_if (not saw_elaborated && (not saw_named_type || (saw_bit_int && w is_one_of signs)))
    (specifiers (once_more w seen) saw_named_type saw_elaborated saw_bit_int false)

-- `validate_c_decl_specifiers` at any other word: a name.
unfoldable pub name_word : Specifiers → Move Specifiers
unfolding on_if no_builtin_word
name_word (specifiers seen saw_named_type saw_elaborated saw_bit_int previous_was_scope) =
    on_if (no_builtin_word seen && (not saw_named_type || previous_was_scope || saw_elaborated)) (specifiers seen true saw_elaborated saw_bit_int false)

-- `leading_global_scope`
unfoldable pub leading_global_scope : Specifiers → Bool
unfolding no_builtin_word
leading_global_scope (specifiers seen saw_named_type saw_elaborated saw_bit_int previous_was_scope) =
    not saw_named_type && not saw_elaborated && no_builtin_word seen && not previous_was_scope

-- `validate_c_decl_specifiers` at `::`: after a name, or leading. A leading one must introduce a name and no keyword.
unfoldable pub specifier_scope : (lang right rw : ℕ) → Specifiers → Move Specifiers
unfolding on_if is_keyword
specifier_scope lang right rw (specifiers seen saw_named_type saw_elaborated saw_bit_int previous_was_scope) =
    let leading = leading_global_scope (specifiers seen saw_named_type saw_elaborated saw_bit_int previous_was_scope) in
    on_if
    (eqb lang Cpp && not previous_was_scope && (saw_named_type || leading) && (not leading || (eqb right Identifier && not (is_keyword rw))))
    (specifiers seen saw_named_type saw_elaborated saw_bit_int true)

-- `validate_c_decl_specifiers` at a template argument list.
unfoldable pub specifier_list : (lang : ℕ) → Specifiers → Move Specifiers
unfolding on_if
specifier_list lang (specifiers seen saw_named_type saw_elaborated saw_bit_int previous_was_scope) =
    on_if (eqb lang Cpp && saw_named_type && not previous_was_scope) (specifiers seen saw_named_type saw_elaborated saw_bit_int previous_was_scope)

-- `validate_c_decl_specifiers` at a node. Its three `break`, `_ => break` the last of them, are `stop (specifiers_end st)`.
unfoldable pub specifier_node : (lang lw s w right rw : ℕ) → Specifiers → Move Specifiers
unfolding ◌is_one_of◌ declarator_operators parenthesis_words elaborated_words is_c_family_declarator_qualifier is_c_builtin_type_word parenthesis_word qualifier_word elaborated_word builtin_word name_word leading_global_scope specifier_scope specifier_list specifiers_end validate_c_bit_int_sign validate_c_builtin_combination
specifier_node lang lw s w right rw st =
    if s is_one_of declarator_operators then stop (specifiers_end st)
    else if eqb s Parenthesized && lw is_one_of parenthesis_words then on st
    else if eqb s Parenthesized then stop (specifiers_end st)
    else if eqb s Identifier && w is_one_of parenthesis_words && eqb right Parenthesized then parenthesis_word w st
    else if eqb s Identifier && is_c_family_declarator_qualifier w then qualifier_word w st
    else if eqb s Identifier && w is_one_of elaborated_words then elaborated_word lang w right st
    else if eqb s Identifier && is_c_builtin_type_word w then builtin_word w st
    else if eqb s Identifier then name_word st
    else if eqb s Scope then specifier_scope lang right rw st
    else if eqb s TemplateArguments then specifier_list lang st
    else stop (specifiers_end st)

module _ (lang : ℕ) (kinds words : List ℕ) where
  -- The word of the first node, `node_identifier`.
  abbrev word : Nodes → ℕ
  word x = exact_word kinds words x

  -- The loop of `validate_c_decl_specifiers` from a node on.
  unfoldable pub specifiers_from : Nodes → (lw : ℕ) → Specifiers → Bool
  unfolding exactly node_identifier shape specifier_node
  specifiers_from none lw st = specifiers_end st
  specifiers_from (node k i b x) lw st =
      elim (specifier_node lang lw (shape kinds (node k i b x)) (word (node k i b x)) (shape kinds x) (word x) st) as (λ _. Bool) [
        | stop r ↦ r
        | on st' ↦ specifiers_from x (word (node k i b x)) st'
        | inside t st' ↦ false
      ]

  -- `validate_c_decl_specifiers`
  unfoldable pub validate_c_decl_specifiers : Nodes → Bool
  unfolding specifiers_from none_seen
  validate_c_decl_specifiers x = specifiers_from x no_word (specifiers none_seen false false false false)
