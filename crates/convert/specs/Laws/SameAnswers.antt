-- No entry looks at the places of a row's tokens: the same head and row get the same answer.
-- Assumes nothing.
use Rattle.std.specs.Prelude.{ℕ, zero, suc, ◌-◌, ◌≡◌, Bool, true, false, length, get_or, take, drop, eqb, ltb, if◌then◌else◌}
use Rattle.std.proofs.Math.Path.{refl}
use Rattle.std.proofs.Common.{ap, ◌∙◌}
use mathlib.Core.List.{List, [], ◌∷◌}
use Rattle.rows.specs.Languages.{Cpp}
use Rattle.rows.specs.Records.{RowToken, kinds_of, words_of}
use Rattle.rows.specs.declared.head.Head.{Head}
use Rattle.rows.specs.declared.answer.TypeNameError.TheVariants.{InvalidNameList}
use Rattle.reader.specs.Nodes.{NodeKind, t_node, g_node, b_node, l_node, a_node, Nodes, none, node}
use Rattle.type_name.specs.FileRow.{HeadRow, Outcome, untouched, passes, on_pass}
use Rattle.type_name.specs.Answers.{RowAnswer, accepted, refused, answer_of, row_answer}
use Rattle.rules.specs.Rules.{Rule}
use Rattle.rules.specs.Seen.{token_seen, node_seen, seen, no_row_token}
use Rattle.rules.specs.RuleTable.{TableFound, no_table, a_table, table_of}
use Rattle.rule_answers.specs.MatchAnswers.{with_winner, by_table, row_match}
use Rattle.type_list.specs.Parts.{part_length, parts_in, parts}
use Rattle.type_list.specs.ListAnswers.{on_part, parts_answer, row_parts_answer}
use Rattle.names.specs.NameList.{NameList, listed, malformed, name_list, names_marked}
use Rattle.named_answers.specs.NamedAnswers.{by_names, named_answer}
use Rattle.convert.specs.SameRow.{SameTokens, SameRow, Alike}

-- ---- tokens

same_kinds : (ts us : List RowToken) → SameTokens ts us → kinds_of ts ≡ kinds_of us
unfolding kinds_of
same_kinds [] [] s = refl
same_kinds [] (u ∷ us) s = absurd s
same_kinds (t ∷ ts) [] s = absurd s
same_kinds (t ∷ ts) (u ∷ us) s = rw (s.0, same_kinds ts us s.2) refl

same_words : (ts us : List RowToken) → SameTokens ts us → words_of ts ≡ words_of us
unfolding words_of
same_words [] [] s = refl
same_words [] (u ∷ us) s = absurd s
same_words (t ∷ ts) [] s = absurd s
same_words (t ∷ ts) (u ∷ us) s = rw (s.1, same_words ts us s.2) refl

pub same_many : (ts us : List RowToken) → SameTokens ts us → length ts ≡ length us
same_many [] [] s = refl
same_many [] (u ∷ us) s = absurd s
same_many (t ∷ ts) [] s = absurd s
same_many (t ∷ ts) (u ∷ us) s = ap suc (same_many ts us s.2)

same_front : (n : ℕ) (ts us : List RowToken) → SameTokens ts us → SameTokens (take n ts) (take n us)
same_front zero ts us s = tt
same_front (suc n) [] [] s = tt
same_front (suc n) [] (u ∷ us) s = absurd s
same_front (suc n) (t ∷ ts) [] s = absurd s
same_front (suc n) (t ∷ ts) (u ∷ us) s = (s.0, s.1, same_front n ts us s.2)

same_behind : (n : ℕ) (ts us : List RowToken) → SameTokens ts us → SameTokens (drop n ts) (drop n us)
same_behind zero ts us s = s
same_behind (suc n) [] [] s = tt
same_behind (suc n) [] (u ∷ us) s = absurd s
same_behind (suc n) (t ∷ ts) [] s = absurd s
same_behind (suc n) (t ∷ ts) (u ∷ us) s = same_behind n ts us s.2

-- ---- `type_name_read`

pub same_read : (r r' : HeadRow) → SameRow r r' → row_answer r ≡ row_answer r'
unfolding row_answer
same_read r r' s = rw (s.same_head, same_kinds r.tokens r'.tokens s.same_tokens, same_words r.tokens r'.tokens s.same_tokens) refl

-- ---- `type_name_match`

same_node : (k : NodeKind) (t u : RowToken) → t.kind ≡ u.kind → t.word ≡ u.word → node_seen k t ≡ node_seen k u
unfolding node_seen token_seen
same_node t_node t u p q = rw (p, q) refl
same_node g_node t u p q = refl
same_node b_node t u p q = refl
same_node l_node t u p q = refl
same_node a_node t u p q = refl

same_at : (k : NodeKind) (i : ℕ) (ts us : List RowToken) → SameTokens ts us → node_seen k (get_or ts i no_row_token) ≡ node_seen k (get_or us i no_row_token)
same_at k i [] [] s = refl
same_at k i [] (u ∷ us) s = absurd s
same_at k i (t ∷ ts) [] s = absurd s
same_at k zero (t ∷ ts) (u ∷ us) s = same_node k t u s.0 s.1
same_at k (suc i) (t ∷ ts) (u ∷ us) s = same_at k i ts us s.2

same_seen : (ts us : List RowToken) → SameTokens ts us → (x : Nodes) → seen ts x ≡ seen us x
unfolding seen
same_seen ts us s none = refl
same_seen ts us s (node k i b x) = rw (same_at k i ts us s, same_seen ts us s x) refl

same_winner : (rs : List Rule) (ts us : List RowToken) → SameTokens ts us → (a : RowAnswer) → with_winner rs ts a ≡ with_winner rs us a
unfolding with_winner
same_winner rs ts us s (accepted x m) = rw (same_seen ts us s x) refl
same_winner rs ts us s (refused e m) = refl

same_table : (t : TableFound) (ts us : List RowToken) → SameTokens ts us → (a : RowAnswer) → by_table t ts a ≡ by_table t us a
unfolding by_table
same_table no_table ts us s a = refl
same_table (a_table rs) ts us s a = same_winner rs ts us s a

pub same_match : (rules : List ℕ) (r r' : HeadRow) → SameRow r r' → row_match rules r ≡ row_match rules r'
unfolding row_match
same_match rules r r' s = rw (same_read r r' s) (same_table (table_of rules) r.tokens r'.tokens s.same_tokens (row_answer r'))

-- ---- `type_name_read_list`

abbrev SameParts : List (List RowToken) → List (List RowToken) → Type 0
SameParts [] [] = Unit {0}
SameParts [] (q ∷ qs) = ⊥
SameParts (p ∷ ps) [] = ⊥
SameParts (p ∷ ps) (q ∷ qs) = SameTokens p q × SameParts ps qs

same_if : (b : Bool) (ps qs : List (List RowToken)) → SameParts ps qs → SameParts (if b then ps else []) (if b then qs else [])
same_if true ps qs s = s
same_if false ps qs s = tt

same_cut : (cuts language : ℕ) (ts us : List RowToken) → SameTokens ts us → SameParts (parts_in cuts language ts) (parts_in cuts language us)
unfolding parts_in
same_cut zero language ts us s = (s, tt)
same_cut (suc cuts) language ts us s =
    let n : ℕ = part_length language (kinds_of us) in
    rw (same_kinds ts us s, same_many ts us s)
    (same_front n ts us s, same_if (ltb n (length us)) (parts_in cuts language (drop (suc n) ts)) (parts_in cuts language (drop (suc n) us)) (same_cut cuts language (drop (suc n) ts) (drop (suc n) us) (same_behind (suc n) ts us s)))

module _ (language standard flag : ℕ) where
  same_behind_part : (ps qs : List (List RowToken)) (allowance : ℕ) → ((m : ℕ) → parts_answer language standard flag ps (allowance - m) ≡ parts_answer language standard flag qs (allowance - m))
      → (a : RowAnswer) → on_part a (λ m. parts_answer language standard flag ps (allowance - m)) ≡ on_part a (λ m. parts_answer language standard flag qs (allowance - m))
  unfolding on_part
  same_behind_part ps qs allowance ih (accepted x m) = rw (ih m) refl
  same_behind_part ps qs allowance ih (refused e m) = refl

  same_parts_answer : (ps qs : List (List RowToken)) → SameParts ps qs → (allowance : ℕ) → parts_answer language standard flag ps allowance ≡ parts_answer language standard flag qs allowance
  unfolding parts_answer
  same_parts_answer [] [] s allowance = refl
  same_parts_answer [] (q ∷ qs) s allowance = absurd s
  same_parts_answer (p ∷ ps) [] s allowance = absurd s
  same_parts_answer (p ∷ ps) (q ∷ qs) s allowance =
      rw (same_kinds p q s.0, same_words p q s.0)
      (same_behind_part ps qs allowance (λ m. same_parts_answer ps qs s.1 (allowance - m)) (answer_of language standard flag (kinds_of q) (words_of q) allowance))

pub same_list : (r r' : HeadRow) → SameRow r r' → row_parts_answer r ≡ row_parts_answer r'
unfolding row_parts_answer parts
same_list r r' s =
    rw (s.same_head, same_many r.tokens r'.tokens s.same_tokens)
    (same_parts_answer r'.the_head.language r'.the_head.standard r'.the_head.flag (parts_in (length r'.tokens) r'.the_head.language r.tokens) (parts_in (length r'.tokens) r'.the_head.language r'.tokens)
    (same_cut (length r'.tokens) r'.the_head.language r.tokens r'.tokens s.same_tokens) r'.the_head.allowance)

-- ---- `type_name_read_named`

same_marks : (ns : List (List ℕ)) (ts us : List RowToken) → SameTokens ts us → names_marked ns ts ≡ names_marked ns us
unfolding names_marked
same_marks ns [] [] s = refl
same_marks ns [] (u ∷ us) s = absurd s
same_marks ns (t ∷ ts) [] s = absurd s
same_marks ns (t ∷ ts) (u ∷ us) s = rw (s.1, same_marks ns ts us s.2) refl

same_by_names : (l : NameList) (r r' : HeadRow) → SameRow r r' → by_names r l ≡ by_names r' l
unfolding by_names
same_by_names malformed r r' s = refl
same_by_names (listed ns) r r' s =
    rw (s.same_head, same_marks ns r.tokens r'.tokens s.same_tokens, same_kinds r.tokens r'.tokens s.same_tokens, same_words r.tokens r'.tokens s.same_tokens) refl

pub same_named : (names : List ℕ) (r r' : HeadRow) → SameRow r r' → named_answer names r ≡ named_answer names r'
unfolding named_answer
same_named names r r' s =
    ap (λ (a : RowAnswer). if eqb r.the_head.language Cpp then a else refused InvalidNameList 0) (same_by_names (name_list names) r r' s)
    ∙ ap (λ (h : Head). if eqb h.language Cpp then by_names r' (name_list names) else refused InvalidNameList 0) s.same_head

-- ---- every entry

pub same_outcome : {A : Type 0} (answers : HeadRow → A) → ((r r' : HeadRow) → SameRow r r' → answers r ≡ answers r') → (o o' : Outcome HeadRow) → Alike o o'
    → on_pass o (λ r. passes (answers r)) ≡ on_pass o' (λ r. passes (answers r))
unfolding on_pass
same_outcome answers same (untouched e) (untouched e') q = ap untouched q
same_outcome answers same (untouched e) (passes r') q = absurd q
same_outcome answers same (passes r) (untouched e') q = absurd q
same_outcome answers same (passes r) (passes r') q = ap passes (same r r' q)
