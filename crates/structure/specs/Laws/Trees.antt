-- From a row that was read to its check: the records of its tree stand in the buffer.
-- That a verdict depends on a word only through its number, and not on the standard, is in the type of `validate_structured_syntax`: it takes word
-- numbers and no standard.
-- Assumes nothing.
use Rattle.std.specs.Prelude.{ℕ, suc, ◌+◌, ◌*◌, ◌<◌, ◌≡◌, refl, Bool, List, [], ◌∷◌, ◌++◌, length, get_or, drop}
use Rattle.std.proofs.Common.{sym, ap, ◌∙◌, subst, append_assoc, arith, take-append-drop, get_or-drop, drop-drop, drop_at}
use Rattle.reader.specs.Nodes.{NodeKind, number, Nodes, none, node, count, node_width, records}
use Rattle.reader.specs.Reading.{Region, argument, Got}
use Rattle.reader.specs.ReaderSays.{TreeRead}
use Rattle.reader.specs.Laws.Tokens.{inside}
use Rattle.reader.specs.Laws.NodeNumbers.{three_each}
use Rattle.reader.specs.Derivation.{Derivation, end_row, end_group, end_argument, a_token, a_group, a_list, last, more, RowDerived}
use Rattle.reader.specs.Laws.Bounds.{opener_inside}
use Rattle.type_nodes.specs.Stands.{Stands, ends, here}

-- Every token of the nodes is one of the first n.
abbrev pub Tokens : (n : ℕ) → Nodes → Type 0
Tokens n none = Unit {0}
Tokens n (node k i b x) = (i < n) × Tokens n b × Tokens n x

-- What stands further on.
further : (tree : List ℕ) (a n : ℕ) (xs ys : List ℕ) → drop a tree ≡ xs ++ ys → length xs ≡ n → drop (a + n) tree ≡ ys
further tree a n xs ys h e = sym (drop-drop n a tree) ∙ ap (drop n) h ∙ drop_at xs ys n e

-- A number that is read.
number_at : (tree : List ℕ) (a j m : ℕ) (xs : List ℕ) → drop a tree ≡ xs → m ≡ a + j → get_or tree m 0 ≡ get_or xs j 0
number_at tree a j m xs h e = ap (λ (k : ℕ). get_or tree k 0) e ∙ sym (get_or-drop a tree j 0) ∙ ap (λ (l : List ℕ). get_or l j 0) h

pub from_records : (tree kinds : List ℕ) (x : Nodes) (a e : ℕ) (rest : List ℕ) → e ≡ a + count x → drop (node_width * a) tree ≡ records x ++ rest → Tokens (length kinds) x
    → Stands tree kinds a e x
unfolding records count
from_records tree kinds none a e rest q h t = let u : a ≡ e = omega arith in ends u
from_records tree kinds (node k i b x) a e rest q h t =
    let all : List ℕ = number k ∷ i ∷ suc (count b) ∷ (records b ++ records x) ++ rest in
    let h₁ : drop (node_width * suc a) tree ≡ records b ++ (records x ++ rest) =
    ap (λ (m : ℕ). drop m tree) (three a) ∙ further tree (node_width * a) node_width (number k ∷ i ∷ suc (count b) ∷ []) ((records b ++ records x) ++ rest) h refl
    ∙ append_assoc (records b) (records x) rest in
    let h₂ : drop (node_width * suc (a + count b)) tree ≡ records x ++ rest =
    ap (λ (m : ℕ). drop m tree) (more_of a (count b)) ∙ further tree (node_width * suc a) (node_width * count b) (records b) (records x ++ rest) h₁ (three_each b) in
    here (number_at tree (node_width * a) 0 (node_width * a) all h (omega arith)) (number_at tree (node_width * a) 1 (node_width * a + 1) all h refl) (number_at tree (node_width * a) 2 (node_width * a + 2) all h refl) t.0
    (from_records tree kinds b (suc a) (suc (a + count b)) (records x ++ rest) (omega arith) h₁ t.1)
    (from_records tree kinds x (suc (a + count b)) e rest (omega arith) h₂ t.2)
  where
    three : (a : ℕ) → node_width * suc a ≡ node_width * a + node_width
    three a = omega arith

    more_of : (a m : ℕ) → node_width * suc (a + m) ≡ node_width * suc a + node_width * m
    more_of a m = omega arith

-- ---- the tokens of a tree that was read

module _ (row : List ℕ) where
  -- An argument begins with its first node.
  begins : {inner : ℕ → ℕ} {d n a a' i : ℕ} {h h' : Bool} {k : NodeKind} {y z : Nodes} → Derivation row inner argument d n a h (node k i y z) a' h' → i ≡ a
  begins (a_token t p r) = refl
  begins (a_group t lim op e r₁ r) = refl
  begins (a_list t lim e r₁ r) = refl

  pub tokens_read : {inner : ℕ → ℕ} {l : Region} {d n a a' : ℕ} {h h' : Bool} {x : Nodes} → Derivation row inner l d n a h x a' h' → Tokens (length row) x
  tokens_read (end_row e) = tt
  tokens_read (end_group op e) = tt
  tokens_read (end_argument s) = tt
  tokens_read (a_token {a = a} t p r) = (inside row a p.inside, tt, tokens_read r)
  tokens_read (a_group {a = a} t lim op e r₁ r) = (opener_inside row op a e, tokens_read r₁, tokens_read r)
  tokens_read (a_list {a = a} t lim e r₁ r) = (inside row a (omega arith), tokens_read r₁, tokens_read r)
  tokens_read (last r c) = let u = tokens_read r in (subst (λ (m : ℕ). m < length row) (begins r) u.0, u, tt)
  tokens_read (more r e r₁) = let u = tokens_read r in (subst (λ (m : ℕ). m < length row) (begins r) u.0, u, tokens_read r₁)

-- ---- a row that was read, however it was read

module _ {tree kinds : List ℕ} {allowance n m : ℕ} {g : Got} (r : TreeRead kinds allowance g n m tree) {inner : ℕ → ℕ} (q : RowDerived kinds inner r.nodes) where
  pub tree_stands : Stands tree kinds 0 n r.nodes
  tree_stands =
      from_records tree kinds r.nodes 0 n (drop (node_width * n) tree) (omega (arith, r.counted))
      (sym (take-append-drop (node_width * n) tree) ∙ ap (λ (l : List ℕ). l ++ drop (node_width * n) tree) r.written)
      (tokens_read kinds q.derivation)
