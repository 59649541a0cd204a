-- Which words are names, and when names are distinct: document 02, C-17. Assumes nothing.
use Rattle.std.specs.Prelude.{ℕ, zero, suc, ◌<◌, ◌≡◌, refl, Bool, true, false, not, ◌&&◌, ◌||◌, List, [], ◌∷◌, ◌++◌, map, length, eqb}
use Rattle.std.proofs.Common.{sym, ap, ◌∙◌, true≢false, arith}
use Rattle.std.proofs.lemmas.Bool.{not-true}
use Rattle.rows.specs.Kinds.{Identifier}
use Rattle.rows.specs.Laws.Tests.{or_assoc, and_false}
use Rattle.rows.specs.Records.{RowToken}
use Rattle.rows.specs.Words.{same_exactly}
use Rattle.names.specs.NameList.{is_name, distinct, all_words, names_marked}
use Rattle.names.specs.NamesSay.{name}
use Rattle.names.specs.Laws.Same.{or_true, both, neither, same_itself, same_turned, other_turned}

-- A word that one of them is;
pub name_there : (ns : List (List ℕ)) (i : ℕ) (w : List ℕ) → i < length ns → same_exactly (name ns i) w ≡ true → is_name ns w ≡ true
unfolding is_name
name_there [] i w p e = absurd (omega arith)
name_there (n ∷ ns) zero w p e = rw e refl
name_there (n ∷ ns) (suc i) w p e = rw (name_there ns i w (omega arith) e) (or_true (same_exactly n w))

-- so each of them is a name.
pub name_itself : (ns : List (List ℕ)) (i : ℕ) → i < length ns → is_name ns (name ns i) ≡ true
name_itself ns i p = name_there ns i (name ns i) p (same_itself (name ns i))

-- A word that none of them is.
pub name_nowhere : (ns : List (List ℕ)) (w : List ℕ) → ((i : ℕ) → i < length ns → same_exactly (name ns i) w ≡ false) → is_name ns w ≡ false
unfolding is_name
name_nowhere [] w d = refl
name_nowhere (n ∷ ns) w d = rw (d 0 (omega arith)) (name_nowhere ns w (λ i p. d (suc i) (omega arith)))

among_both : (ms ns : List (List ℕ)) (w : List ℕ) → is_name (ms ++ ns) w ≡ (is_name ms w || is_name ns w)
unfolding is_name
among_both [] ns w = refl
among_both (m ∷ ms) ns w = ap (λ (b : Bool). same_exactly m w || b) (among_both ms ns w) ∙ or_assoc (same_exactly m w) (is_name ms w) (is_name ns w)

-- A name that stands there already, whatever follows.
pub twice : (ns : List (List ℕ)) (w : List ℕ) (rest : List (List ℕ)) → is_name ns w ≡ true → distinct (ns ++ (w ∷ rest)) ≡ false
unfolding is_name distinct
twice [] w rest e = absurd (true≢false (sym e))
twice (n ∷ ns) w rest e = by (twice ns w rest) (same_exactly n w) refl e
  where
    by : (is_name ns w ≡ true → distinct (ns ++ (w ∷ rest)) ≡ false) → (b : Bool) → same_exactly n w ≡ b → (b || is_name ns w) ≡ true → (not (is_name (ns ++ (w ∷ rest)) n) && distinct (ns ++ (w ∷ rest))) ≡ false
    by later true q e' =
        let there : is_name (ns ++ (w ∷ rest)) n ≡ true = among_both ns (w ∷ rest) n ∙ rw (same_turned n w q) (or_true (is_name ns n)) in
        rw there refl
    by later false q e' = rw (later e') (and_false (not (is_name (ns ++ (w ∷ rest)) n)))

-- One name more that is none of them.
pub one_more_apart : (ns : List (List ℕ)) (w : List ℕ) → distinct ns ≡ true → is_name ns w ≡ false → distinct (ns ++ (w ∷ [])) ≡ true
unfolding is_name distinct
one_more_apart [] w p q = refl
one_more_apart (n ∷ ns) w p q =
    let d = both (not (is_name ns n)) (distinct ns) p in
    let o = neither (same_exactly n w) (is_name ns w) q in
    let not_later : is_name (ns ++ (w ∷ [])) n ≡ false = among_both ns (w ∷ []) n ∙ rw (not-true (is_name ns n) d.0, other_turned n w o.0) refl in
    rw (not_later, one_more_apart ns w d.1 o.1) refl

-- ---- records of kind 0

pub one_word_more : (ts : List RowToken) (t : RowToken) → all_words ts ≡ true → t.kind ≡ Identifier → all_words (ts ++ (t ∷ [])) ≡ true
unfolding all_words
one_word_more [] t p e = rw e refl
one_word_more (u ∷ ts) t p e =
    let w = both (eqb u.kind Identifier) (all_words ts) p in
    rw w.0 (one_word_more ts t w.1 e)

-- A record of another kind, whatever follows.
pub other_record : (ts : List RowToken) (t : RowToken) (rest : List RowToken) → eqb t.kind Identifier ≡ false → all_words (ts ++ (t ∷ rest)) ≡ false
unfolding all_words
other_record [] t rest e = rw e refl
other_record (u ∷ ts) t rest e = rw (other_record ts t rest e) (and_false (eqb u.kind Identifier))

-- ---- marks

-- The marks of a row by its words alone.
pub same_marks : (ns : List (List ℕ)) (ts us : List RowToken) → map (λ (t : RowToken). t.word) ts ≡ map (λ (t : RowToken). t.word) us → names_marked ns ts ≡ names_marked ns us
unfolding names_marked
same_marks ns ts us e = by_words ts ∙ ap (map (is_name ns)) e ∙ sym (by_words us)
  where
    by_words : (ts : List RowToken) → map (λ (t : RowToken). is_name ns t.word) ts ≡ map (is_name ns) (map (λ (t : RowToken). t.word) ts)
    by_words [] = refl
    by_words (t ∷ ts) = ap (λ (bs : List Bool). is_name ns t.word ∷ bs) (by_words ts)
