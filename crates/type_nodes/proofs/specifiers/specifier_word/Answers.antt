-- `specifier_word` meets its contract: an arm of the table at each way out. Assumes nothing.
use mathlib.Core.Path.{sym, ◌∙◌}
use Rattle.type_nodes.specs.Laws.SpecifierTables.{moved, builtin_counted, qualifier_counted, word_1, word_2, word_3, word_4, word_5}
use Rattle.type_nodes.proofs.specifiers.specifier_word.Goals as goal

pub returns-then-is_parenthesis_word-right : goal.returns-then-is_parenthesis_word-right
returns-then-is_parenthesis_word-right c = moved c.parenthesis_word.ensures (word_1 _ _ _ _ (rw c.is_parenthesis_word.ensures at c.if-is_parenthesis_word-right.true))

pub builtin_word-requires : goal.builtin_word-requires
builtin_word-requires c = builtin_counted _ (sym c.is_c_builtin_type_word.ensures ∙ c.if-is_c_builtin_type_word.true)

pub returns-then-is_c_builtin_type_word : goal.returns-then-is_c_builtin_type_word
returns-then-is_c_builtin_type_word c = moved (c.builtin_word.ensures _) (word_2 _ _ _ _ (rw c.is_parenthesis_word.ensures at c.if-is_parenthesis_word-right.false) (sym c.is_c_builtin_type_word.ensures ∙ c.if-is_c_builtin_type_word.true))

pub qualifier_word-requires : goal.qualifier_word-requires
qualifier_word-requires c = qualifier_counted _ (sym c.is_c_family_declarator_qualifier.ensures ∙ c.if-is_c_family_declarator_qualifier.true)

pub returns-then-is_c_family_declarator_qualifier : goal.returns-then-is_c_family_declarator_qualifier
returns-then-is_c_family_declarator_qualifier c = moved c.qualifier_word.ensures (word_3 _ _ _ _ (rw c.is_parenthesis_word.ensures at c.if-is_parenthesis_word-right.false) (sym c.is_c_builtin_type_word.ensures ∙ c.if-is_c_builtin_type_word.false) (sym c.is_c_family_declarator_qualifier.ensures ∙ c.if-is_c_family_declarator_qualifier.true))

pub returns-then-is_elaborated_word : goal.returns-then-is_elaborated_word
returns-then-is_elaborated_word c = moved (c.elaborated_word.ensures _ c.requires) (word_4 _ _ _ _ (rw c.is_parenthesis_word.ensures at c.if-is_parenthesis_word-right.false) (sym c.is_c_builtin_type_word.ensures ∙ c.if-is_c_builtin_type_word.false) (sym c.is_c_family_declarator_qualifier.ensures ∙ c.if-is_c_family_declarator_qualifier.false) (sym c.is_elaborated_word.ensures ∙ c.if-is_elaborated_word.true))

pub returns : goal.returns
returns c = moved (c.name_word.ensures _ c.requires) (word_5 _ _ _ _ (rw c.is_parenthesis_word.ensures at c.if-is_parenthesis_word-right.false) (sym c.is_c_builtin_type_word.ensures ∙ c.if-is_c_builtin_type_word.false) (sym c.is_c_family_declarator_qualifier.ensures ∙ c.if-is_c_family_declarator_qualifier.false) (sym c.is_elaborated_word.ensures ∙ c.if-is_elaborated_word.false))
