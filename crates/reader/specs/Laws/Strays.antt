-- In the tree of a row whose brackets are paired no T is a bracket. Every `(` and `[` that is read begins a group, and that takes a closer of its own:
-- so the row has more closers than openers by those that are a T, and the plain matcher lets it have no more.
-- Assumes nothing.
use Prim.Native.Nat.{ℕ, suc, ◌+◌, ◌≤◌}
use Rattle.std.specs.Prelude.{◌≡◌, ◌≢◌, Bool, drop, eqb}
use Rattle.std.proofs.Math.Path.{refl, ap}
use Rattle.std.proofs.Common.{sym, ◌∙◌, drop_of_length-le, eqb→eq}
use mathlib.Core.List.{List, [], ◌∷◌}
use native.Mathlib.Omega.{arith}
use Rattle.std.proofs.Math.ListN.{length}
use Rattle.rows.specs.Kinds.{LeftParen, RightParen, LeftBracket, RightBracket, Comma, Less, Greater, ShiftRight, NoToken}
use Rattle.rows.specs.Laws.Tests.{by_if}
use Rattle.rows.specs.declared.answer.Delimiter.{Delimiter}
use Rattle.rows.specs.declared.answer.Delimiter.TheVariants.{Parenthesis, Bracket}
use Rattle.prescan.specs.Matcher.{Role, opens, closes, neither, role, same, Opener, Pair, Matcher, stopped, going, pop, meet, matcher, Paired}
use Rattle.reader.specs.Nodes.{NodeKind, t_node, g_node, b_node, l_node, a_node, Nodes, none, node}
use Rattle.reader.specs.Reading.{Region, kind_at}
use Rattle.reader.specs.Laws.Tokens.{KindsKnown, taken}
use Rattle.reader.specs.Derivation.{Opens, parens, brackets, Plain, Closes, by_half, by_one, by_two, Derivation, end_row, end_group, end_argument, a_token, a_group, a_list, last, more, RowDerived}
use Rattle.reader.specs.Laws.Derived.{opener_kind, closer_kind}
use Rattle.reader.specs.Laws.Bounds.{closer, group_closer, nothing_left}
use Rattle.reader.specs.Laws.Sums.{sum}
use Rattle.reader.specs.Laws.NodeNumbers.{In, here, beside, below}

-- ---- openers and closers counted

abbrev opening : Role → ℕ
opening (opens d) = 1
opening (closes d) = 0
opening neither = 0

abbrev closing : Role → ℕ
closing (opens d) = 0
closing (closes d) = 1
closing neither = 0

abbrev openers : List ℕ → ℕ
openers ks = sum (λ (k : ℕ). opening (role k)) ks

abbrev closers : List ℕ → ℕ
closers ks = sum (λ (k : ℕ). closing (role k)) ks

stopped_stays : (at : ℕ) (ks : List ℕ) → matcher at ks stopped ≡ stopped
unfolding matcher
stopped_stays at [] = refl
stopped_stays at (k ∷ ks) = stopped_stays (suc at) ks

module _ (at : ℕ) (ks : List ℕ) (pairs : List Pair)
    (ih : (stack : List Opener) (ps : List Pair) → matcher (suc at) ks (going stack ps) ≡ going [] pairs → openers ks + length stack ≡ closers ks) where
  not_stopped : {X : Type 0} → matcher (suc at) ks stopped ≡ going [] pairs → X
  not_stopped e = let z : ◌≡◌ {A = ℕ} 0 1 = cc (stopped_stays (suc at) ks) in absurd (omega arith)

  even_pop : (d : Delimiter) (stack : List Opener) (ps : List Pair) → matcher (suc at) ks (pop d at stack ps) ≡ going [] pairs
      → openers ks + length stack ≡ suc (closers ks)
  unfolding pop
  even_pop d [] ps e = not_stopped e
  even_pop d (o ∷ stack) ps e =
      by_if (λ (m : Matcher). matcher (suc at) ks m ≡ going [] pairs → openers ks + suc (length stack) ≡ suc (closers ks)) (same o.delimiter d)
      (λ t e. omega (arith, ih stack _ e)) (λ t e. not_stopped e) e

  even_role : (r : Role) (stack : List Opener) (ps : List Pair) → matcher (suc at) ks (meet r at (going stack ps)) ≡ going [] pairs
      → opening r + openers ks + length stack ≡ closing r + closers ks
  unfolding meet
  even_role (opens d) stack ps e = omega (arith, ih _ ps e)
  even_role (closes d) stack ps e = omega (arith, even_pop d stack ps e)
  even_role neither stack ps e = omega (arith, ih stack ps e)

-- A row whose brackets are paired has as many openers, those held counted, as closers.
even : (at : ℕ) (ks : List ℕ) (stack : List Opener) (ps pairs : List Pair) → matcher at ks (going stack ps) ≡ going [] pairs
    → openers ks + length stack ≡ closers ks
unfolding matcher sum
even at [] [] ps pairs e = refl
even at [] (o ∷ stack) ps pairs e = let z : ◌≡◌ {A = ℕ} 0 1 = cc in absurd (omega arith)
even at (k ∷ ks) stack ps pairs e = even_role at ks pairs (λ stack ps e. even (suc at) ks stack ps pairs e) (role k) stack ps e

-- ---- what the matcher meets at a token

abbrev pub delimiter_of : {k : NodeKind} {v : Region} {o c : ℕ} → Opens k v o c → Delimiter
delimiter_of parens = Parenthesis
delimiter_of brackets = Bracket

role_opener : {k : NodeKind} {v : Region} {o c : ℕ} (op : Opens k v o c) → role o ≡ opens (delimiter_of op)
unfolding role
role_opener parens = refl
role_opener brackets = refl

role_closer : {k : NodeKind} {v : Region} {o c : ℕ} (op : Opens k v o c) → role c ≡ closes (delimiter_of op)
unfolding role
role_closer parens = refl
role_closer brackets = refl

role_plain : (k : ℕ) → k ≢ LeftParen → k ≢ LeftBracket → opening (role k) ≡ 0
unfolding role
role_plain k p q =
    let None : Role → Type 0 = λ r. opening r ≡ 0 in
    by_if None (eqb k LeftParen) (λ t. absurd (p (eqb→eq _ _ t))) λ _.
    by_if None (eqb k LeftBracket) (λ t. absurd (q (eqb→eq _ _ t))) λ _.
    by_if None (eqb k RightParen) (λ _. refl) λ _.
    by_if None (eqb k RightBracket) (λ _. refl) (λ _. refl)

neither_is : (r : Role) → opening r ≡ 0 → closing r ≡ 0 → r ≡ neither
neither_is (opens d) p q = absurd (omega arith)
neither_is (closes d) p q = absurd (omega arith)
neither_is neither p q = refl

module _ (row : List ℕ) where
  -- There is a token of this role.
  pub record Meets (a : ℕ) (r : Role) : Type 0 where
    pub present : kind_at row a ≢ NoToken
    pub in_role : role (kind_at row a) ≡ r

  pub meets : (a k : ℕ) {r : Role} → kind_at row a ≡ k → k ≢ NoToken → role k ≡ r → Meets a r
  meets a k e q z = record { present = λ u. q (sym e ∙ u); in_role = ap role e ∙ z }

  pub meets_opener : {k : NodeKind} {v : Region} {o c : ℕ} (op : Opens k v o c) (a : ℕ) → kind_at row a ≡ o → Meets a (opens (delimiter_of op))
  meets_opener op a e = meets a _ e (opener_kind op) (role_opener op)

  pub meets_closer : {k : NodeKind} {v : Region} {o c : ℕ} (op : Opens k v o c) (a : ℕ) → kind_at row a ≡ c → Meets a (closes (delimiter_of op))
  meets_closer op a e = meets a _ e (closer_kind op) (role_closer op)

  -- What the token adds to both counts.
  counted : {a : ℕ} {r : Role} → Meets a r
      → (openers (drop a row) ≡ opening r + openers (drop (suc a) row)) × (closers (drop a row) ≡ closing r + closers (drop (suc a) row))
  unfolding sum
  counted {a} m = (
    ap openers (taken row a m.present) ∙ ap (λ (r : Role). opening r + openers (drop (suc a) row)) m.in_role,
    ap closers (taken row a m.present) ∙ ap (λ (r : Role). closing r + closers (drop (suc a) row)) m.in_role,
  )

  -- ---- no T is a bracket

  -- How many T of the tree are closers.
  stray : NodeKind → ℕ → ℕ
  stray t_node i = closing (role (kind_at row i))
  stray g_node i = 0
  stray b_node i = 0
  stray l_node i = 0
  stray a_node i = 0

  strays : Nodes → ℕ
  strays none = 0
  strays (node k i b x) = stray k i + strays b + strays x

  group_stray : {k : NodeKind} {v : Region} {o c : ℕ} → Opens k v o c → (i : ℕ) → stray k i ≡ 0
  unfolding stray
  group_stray parens i = refl
  group_stray brackets i = refl

  shut_count : {d a a' : ℕ} {h h' : Bool} → Closes row d a h a' h'
      → (openers (drop a row) ≡ openers (drop a' row)) × (closers (drop a row) ≡ closers (drop a' row))
  unfolding role
  shut_count by_half = (refl, refl)
  shut_count {a = a} (by_one e) = omega (arith, counted (meets a Greater e (omega arith) refl))
  shut_count {a = a} (by_two e two) = omega (arith, counted (meets a ShiftRight e (omega arith) refl))

  -- The closers passed are the openers passed, the strays and the closer of the level.
  stray_count : {inner : ℕ → ℕ} {l : Region} {d n a a' : ℕ} {h h' : Bool} {x : Nodes} → Derivation row inner l d n a h x a' h'
      → closers (drop a row) + openers (drop a' row) ≡ strays x + closer l + (openers (drop a row) + closers (drop a' row))
  unfolding stray strays role
  stray_count (end_row e) = omega arith
  stray_count (end_group {a = a} op e) = omega (arith, counted (meets_closer op a e), group_closer op)
  stray_count (end_argument s) = omega arith
  stray_count (a_token {a = a} t p r) =
      omega (arith, stray_count r, counted (meets a (kind_at row a) refl p.inside refl), role_plain (kind_at row a) p.no_paren p.no_bracket)
  stray_count (a_group {a = a} t lim op e r₁ r) =
      omega (arith, stray_count r₁, stray_count r, counted (meets_opener op a e), group_closer op, group_stray op a)
  stray_count (a_list {a = a} t lim e r₁ r) = omega (arith, stray_count r₁, stray_count r, counted (meets a Less e (omega arith) refl))
  stray_count (last r c) = omega (arith, stray_count r, shut_count c)
  stray_count (more {a₁ = a} r e r₁) = omega (arith, stray_count r, stray_count r₁, counted (meets a Comma e (omega arith) refl))

  no_stray : {i : ℕ} {b x : Nodes} → In t_node i b x → strays x ≡ 0 → closing (role (kind_at row i)) ≡ 0
  unfolding stray strays
  no_stray here z = omega arith
  no_stray (beside u) z = no_stray u (omega arith)
  no_stray (below u) z = no_stray u (omega arith)

  plain : {inner : ℕ → ℕ} {l : Region} {d n a a' : ℕ} {h h' : Bool} {x b : Nodes} {i : ℕ} → Derivation row inner l d n a h x a' h' → In t_node i b x → Plain (kind_at row i)
  plain (a_token t p r) here = p
  plain (a_token t p r) (beside u) = plain r u
  plain (a_group t lim op e r₁ r) here = elim op [ ]
  plain (a_group t lim op e r₁ r) (below u) = plain r₁ u
  plain (a_group t lim op e r₁ r) (beside u) = plain r u
  plain (a_list t lim e r₁ r) (below u) = plain r₁ u
  plain (a_list t lim e r₁ r) (beside u) = plain r u
  plain (last r c) (below u) = plain r u
  plain (more r e r₁) (below u) = plain r u
  plain (more r e r₁) (beside u) = plain r₁ u
  plain (end_row _) x18 = elim x18 [ ]
  plain (end_group _ _) x20 = elim x20 [ ]
  plain (end_argument _) x20 = elim x20 [ ]
  plain (a_token t p r) (below u) = elim u [ ]
  plain (last r c) (beside u) = elim u [ ]

  -- No T of the tree is a bracket.
  abbrev pub NoStray : Nodes → Type 0
  NoStray x = (i : ℕ) (b : Nodes) → In t_node i b x → role (kind_at row i) ≡ neither

  module _ (known : KindsKnown row) (pairs : List Pair) (paired : Paired row pairs) {inner : ℕ → ℕ} {x : Nodes} (d : RowDerived row inner x) where
    none_stray : strays x ≡ 0
    unfolding sum
    none_stray =
        let end : length row ≤ d.at = omega (arith, (nothing_left row d known).0) in
        omega (arith, rw (drop_of_length-le row end) at (stray_count d.derivation), even 0 row [] [] pairs paired)

    pub tidy : NoStray x
    tidy i b u =
        let p : Plain (kind_at row i) = plain d.derivation u in
        neither_is (role (kind_at row i)) (role_plain (kind_at row i) p.no_paren p.no_bracket) (no_stray u none_stray)
