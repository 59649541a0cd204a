-- Where a tree begins: its first node is the T of token 0, and no other node has that token. Assumes nothing.
use Rattle.std.specs.Prelude.{ℕ, suc, ◌-◌, ◌≤◌, ◌<◌, ◌≡◌, refl, ◌⊎◌, ◌↔◌, Bool, false, not, ◌&&◌, ◌||◌, length, get_or, T, eqb}
use Rattle.std.proofs.Common.{sym, subst, inl, inr, ⊎_elim, arith, lt_of_not-le, eqb→eq}
use mathlib.Core.List.{List, [], ◌∷◌}
use Rattle.std.proofs.Math.Decide.{dec_le}
use Rattle.std.proofs.Math.Facts.{and_yes, or_yes}
use Rattle.rows.specs.Kinds.{Identifier, Scope, NoToken}
use Rattle.rows.specs.Languages.{Cpp}
use Rattle.rows.specs.Notation.{◌is_one_of◌}
use Rattle.rows.specs.Laws.Tests.{by_if}
use Rattle.prescan.specs.Matcher.{Opener}
use Rattle.prescan.specs.Prescan.{Scan, Scanned, passed, refused, start, scan, valid_start, valid_end, row_end, at_row_end, prescan}
use Rattle.reader.specs.Nodes.{NodeKind, t_node, Nodes, none, node, number, count, records, kind_of, token_of}
use Rattle.reader.specs.Reading.{Region, top, kind_at}
use Rattle.reader.specs.Derivation.{parens, brackets, Closes, by_half, by_one, by_two, Derivation, RowDerived, end_row, end_group, end_argument, a_token, a_group, a_list, last, more}
use Rattle.reader.specs.Laws.Derived.{row_derived}
use Rattle.reader.specs.Laws.NodeNumbers.{In, here, beside, below, place, numbered, says}
use Rattle.type_name.specs.Laws.AcceptedRow.{RowRead}

-- ---- the tokens of a tree's nodes

-- They are numbered from `a` on.
abbrev pub TokensFrom : (a : ℕ) → Nodes → Type 0
TokensFrom a none = Unit {0}
TokensFrom a (node k i b x) = (a ≤ i) × TokensFrom a b × TokensFrom a x

earlier : (a a' : ℕ) (x : Nodes) → a' ≤ a → TokensFrom a x → TokensFrom a' x
earlier a a' none p f = tt
earlier a a' (node k i b x) p f = (omega (arith, p, f.0), earlier a a' b p f.1, earlier a a' x p f.2)

of_node : {a i : ℕ} {k : NodeKind} {b : Nodes} (x : Nodes) → TokensFrom a x → In k i b x → a ≤ i
of_node (node k i b x) f here = f.0
of_node (node k i b x) f (beside u) = of_node x f.2 u
of_node (node k i b x) f (below u) = of_node b f.1 u
of_node none f x3 = elim x3 [ ]

module _ (row : List ℕ) where
  closes_on : {d a a' : ℕ} {h h' : Bool} → Closes row d a h a' h' → a ≤ a'
  closes_on by_half = omega arith
  closes_on (by_one e) = omega arith
  closes_on (by_two e l) = omega arith

  read_from : {inner : ℕ → ℕ} {l : Region} {d n a a' : ℕ} {h h' : Bool} {x : Nodes} → Derivation row inner l d n a h x a' h' → TokensFrom a x × (a ≤ a')
  read_from (end_row e) = (tt, omega arith)
  read_from (end_group o e) = (tt, omega arith)
  read_from (end_argument s) = (tt, omega arith)
  read_from (a_token {a = a} {x = x} t p r) = let (f, q) = read_from r in ((omega arith, tt, earlier (suc a) a x (omega arith) f), omega (arith, q))
  read_from (a_group {a = a} {a₁ = a₁} {b = b} {x = x} t l o e r s) =
      let (f, p) = read_from r in
      let (g, q) = read_from s in
      ((omega arith, earlier (suc a) a b (omega arith) f, earlier a₁ a x (omega (arith, p)) g), omega (arith, p, q))
  read_from (a_list {a = a} {a₁ = a₁} {b = b} {x = x} t l e r s) =
      let (f, p) = read_from r in
      let (g, q) = read_from s in
      ((omega arith, earlier (suc a) a b (omega arith) f, earlier a₁ a x (omega (arith, p)) g), omega (arith, p, q))
  read_from (last r c) = let (f, p) = read_from r in ((omega arith, f, tt), omega (arith, p, closes_on c))
  read_from (more {a = a} {a₁ = a₁} {x = x} r e s) =
      let (f, p) = read_from r in
      let (g, q) = read_from s in
      ((omega arith, f, earlier (suc a₁) a x (omega (arith, p)) g), omega (arith, p, q))

-- The first node is the T of token 0, and the others have later tokens.
pub record Starts (x : Nodes) : Type 0 where
  pub others : Nodes
  pub is : x ≡ node t_node 0 none others
  pub later : TokensFrom 1 others

top_starts : (row : List ℕ) {inner : ℕ → ℕ} {x : Nodes} {a : ℕ} {h : Bool} → Derivation row inner top 0 0 0 false x a h → (kind_at row 0 ≡ Identifier) ⊎ (kind_at row 0 ≡ Scope) → Starts x
top_starts row (end_row e) k = absurd (⊎_elim (λ (q : kind_at row 0 ≡ Identifier). omega (arith, e, q)) (λ (q : kind_at row 0 ≡ Scope). omega (arith, e, q)) k)
top_starts row (a_token {x = x} t p r) k = record { others = x; is = refl; later = (read_from row r).0 }
top_starts row (a_group t l parens e r s) k = absurd (⊎_elim (λ (q : kind_at row 0 ≡ Identifier). omega (arith, e, q)) (λ (q : kind_at row 0 ≡ Scope). omega (arith, e, q)) k)
top_starts row (a_group t l brackets e r s) k = absurd (⊎_elim (λ (q : kind_at row 0 ≡ Identifier). omega (arith, e, q)) (λ (q : kind_at row 0 ≡ Scope). omega (arith, e, q)) k)
top_starts row (a_list t l e r s) k = absurd (⊎_elim (λ (q : kind_at row 0 ≡ Identifier). omega (arith, e, q)) (λ (q : kind_at row 0 ≡ Scope). omega (arith, e, q)) k)
top_starts row (end_group x19 _) k = elim x19 [ ]

-- ---- a row that passes the prescan starts with an identifier or `::`

module _ (language : ℕ) (kinds : List ℕ) where
  abbrev Begun : Scanned → Type 0
  Begun (passed s) = T (valid_start (get_or kinds 0 NoToken))
  Begun (refused e) = Unit {0}

  row_end_begun : (held : List Opener) (s : Scan) → Begun (row_end language kinds held s)
  unfolding row_end
  row_end_begun (o ∷ outer) s = tt
  row_end_begun [] s =
      by_if Begun (not (eqb s.angle_depth 0)) (λ _. tt) λ _.
      by_if Begun (not s.has_word) (λ _. tt) λ _.
      by_if Begun (valid_start (get_or kinds 0 NoToken) && valid_end language (get_or kinds (length kinds - 2) NoToken) (get_or kinds (length kinds - 1) NoToken))
      (λ t. (and_yes (valid_start (get_or kinds 0 NoToken)) (valid_end language (get_or kinds (length kinds - 2) NoToken) (get_or kinds (length kinds - 1) NoToken)) t).0) (λ _. tt)

  at_end_begun : (r : Scanned) → Begun (at_row_end language kinds r)
  unfolding at_row_end
  at_end_begun (refused e) = tt
  at_end_begun (passed s) = row_end_begun s.open_brackets s

prescan_begun : (language : ℕ) (kinds : List ℕ) → Begun language kinds (prescan language kinds)
unfolding prescan
prescan_begun language [] = tt
prescan_begun language (k ∷ ks) = at_end_begun language (k ∷ ks) (scan language 0 (k ∷ ks) (passed start))

first_kind : (k : ℕ) → T (valid_start k) → (k ≡ Identifier) ⊎ (k ≡ Scope)
unfolding valid_start ◌is_one_of◌
first_kind k t = ⊎_elim (λ u. inl (eqb→eq k Identifier u)) (λ v. ⊎_elim (λ u. inr (eqb→eq k Scope u)) (λ u. absurd u) (or_yes (eqb k Scope) false v)) (or_yes (eqb k Identifier) (eqb k Scope || false) t)

-- A tree of such a row, however it was read,
pub derived_starts : (language : ℕ) (kinds : List ℕ) {inner : ℕ → ℕ} {x : Nodes} (s : Scan) → prescan language kinds ≡ passed s → RowDerived kinds inner x → Starts x
unfolding kind_at
derived_starts language kinds s scanned d = top_starts kinds d.derivation (first_kind _ (subst (Begun language kinds) scanned (prescan_begun language kinds)))

-- and by document 01's reading.
pub read_starts : (language : ℕ) (kinds : List ℕ) {x : Nodes} {m : ℕ} → RowRead language kinds x m → Starts x
read_starts language kinds r = derived_starts language kinds r.scan r.scanned (row_derived kinds (eqb language Cpp) r.reads)

-- ---- by the node records

later_token : {k : NodeKind} {i : ℕ} {b : Nodes} (others : Nodes) → TokensFrom 1 others → (u : In k i b (node t_node 0 none others)) → 0 < place u → 1 ≤ i
unfolding place
later_token others f here p = absurd (omega arith)
later_token others f (beside u) p = of_node others f u
later_token others f (below u) p = of_node none tt u

-- Node number n of a tree has token 0 exactly if it is the first, which is a T.
abbrev pub FirstThere : Nodes → Type 0
FirstThere x = (n : ℕ) → n < count x → (n ≡ 0) ↔ ((kind_of (records x) n ≡ number t_node) × (token_of (records x) n ≡ 0))

first_there : (others : Nodes) → TokensFrom 1 others → FirstThere (node t_node 0 none others)
unfolding records number
first_there others f n p = (λ q. first q, λ q. is_first q.1)
  where
    first : n ≡ 0 → (kind_of (records (node t_node 0 none others)) n ≡ 0) × (token_of (records (node t_node 0 none others)) n ≡ 0)
    first q = rw q (refl, refl)

    is_first : token_of (records (node t_node 0 none others)) n ≡ 0 → n ≡ 0
    is_first q =
        elim (dec_le n 0) [
          | yes z ↦ omega (arith, z)
          | no z ↦
              let v = numbered (node t_node 0 none others) n p in
              absurd (omega (arith, q, (says v).the_token, later_token others f v.stands (omega (arith, v.placed, lt_of_not-le z))))
        ]

pub starts_there : (x : Nodes) → Starts x → FirstThere x
starts_there x s = subst FirstThere (sym s.is) (first_there s.others s.later)
