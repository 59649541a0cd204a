-- The plain matcher along a reading: it pairs each group's opener with the closer that the group took, and below the group stand exactly the nodes
-- whose token lies between the two.
-- Assumes nothing.
use Rattle.std.specs.Prelude.{ℕ, suc, ◌+◌, ◌≤◌, ◌<◌, ◌≡◌, Bool, true, false, drop, T}
use Rattle.std.proofs.Math.Path.{refl, ap}
use Rattle.std.proofs.Common.{◌∙◌, arith, drop_of_length-le}
use mathlib.Core.List.{List, [], ◌∷◌, Memᴰ}
use Rattle.std.proofs.Math.ListN.{length}
use Rattle.rows.specs.Kinds.{RightParen, RightBracket, Comma, Less, Greater, ShiftRight}
use Rattle.prescan.specs.Matcher.{Role, closes, neither, role, same, Opener, Pair, Matcher, going, pop, meet, matcher, Paired}
use Rattle.reader.specs.Nodes.{NodeKind, t_node, g_node, b_node, l_node, a_node, Nodes, none, node}
use Rattle.reader.specs.Reading.{Region, top, round, square, argument, list, kind_at}
use Rattle.reader.specs.Laws.Tokens.{KindsKnown, taken}
use Rattle.reader.specs.Derivation.{Opens, parens, brackets, Closes, by_half, by_one, by_two, Derivation, end_row, end_group, end_argument, a_token, a_group, a_list, last, more, RowDerived}
use Rattle.reader.specs.Laws.Bounds.{closes_forwards, closer, group_closer, spans, nothing_left}
use Rattle.reader.specs.Laws.NodeNumbers.{In, here, beside, below, place}
use Rattle.reader.specs.Laws.Strays.{delimiter_of, Meets, meets, meets_opener, meets_closer, NoStray, tidy}

-- A node of this kind is a group.
abbrev pub bracket : NodeKind → Bool
bracket t_node = false
bracket g_node = true
bracket b_node = true
bracket l_node = false
bracket a_node = false

-- ---- a group and its opener's partner

-- The nodes of x whose token lies between i and j stand below the node u.
abbrev pub Only : (x : Nodes) (k : NodeKind) (i : ℕ) (b : Nodes) → In k i b x → (j : ℕ) → Type 0
Only x k i b u j = (k' : NodeKind) (t : ℕ) (c : Nodes) (v : In k' t c x) → i < t → t < j → (w : In k' t c b) × (place v ≡ suc (place u + place w))

-- The partner j of a group's opener i: below the group stand exactly the nodes of x whose token lies between the two.
pub record Partner (pairs : List Pair) (x : Nodes) {k : NodeKind} {i : ℕ} {b : Nodes} (u : In k i b x) : Type 0 where
  pub j : ℕ
  pub paired : Memᴰ (record { opener = i; closer = j }) pairs
  pub holds : (k' : NodeKind) (t : ℕ) (c : Nodes) → In k' t c b → (i < t) × (t < j)
  pub only : Only x k i b u j

-- Every group of x has its partner, before a.
abbrev Partners : List Pair → Nodes → ℕ → Type 0
Partners pairs x a = (k : NodeKind) (i : ℕ) (b : Nodes) → T (bracket k) → (u : In k i b x) → (q : Partner pairs x u) × (q.j < a)

-- A node, those below it, whose tokens lie before a₁, and those after it.
module _ {k₀ : NodeKind} {a a₁ a₂ : ℕ} {b₀ x₀ : Nodes} (mid : a ≤ a₁) (far : a₁ ≤ a₂)
    (at_b : (k : NodeKind) (t : ℕ) (c : Nodes) → In k t c b₀ → (a ≤ t) × (t < a₁)) (at_x : (k : NodeKind) (t : ℕ) (c : Nodes) → In k t c x₀ → a₁ ≤ t) where
  only_beside : {k : NodeKind} {i j : ℕ} {b : Nodes} (u : In k i b x₀) → Only x₀ k i b u j → Only (node k₀ a b₀ x₀) k i b (beside u) j
  unfolding place
  only_beside {k} {i} {j} {b} u f k' t c here p q = absurd (omega (arith, at_x k i b u))
  only_beside {k} {i} {j} {b} u f k' t c (below v) p q = absurd (omega (arith, at_x k i b u, at_b k' t c v))
  only_beside u f k' t c (beside v) p q = let w = f k' t c v p q in (w.0, omega (arith, w.1))

  only_below : {k : NodeKind} {i j : ℕ} {b : Nodes} (u : In k i b b₀) → j ≤ a₁ → Only b₀ k i b u j → Only (node k₀ a b₀ x₀) k i b (below u) j
  unfolding place
  only_below {k} {i} {j} {b} u g f k' t c here p q = absurd (omega (arith, at_b k i b u))
  only_below u g f k' t c (below v) p q = let w = f k' t c v p q in (w.0, omega (arith, w.1))
  only_below u g f k' t c (beside v) p q = absurd (omega (arith, at_x k' t c v))

  only_here : {j : ℕ} → j ≤ a₁ → Only (node k₀ a b₀ x₀) k₀ a b₀ here j
  unfolding place
  only_here g k' t c here p q = absurd (omega arith)
  only_here g k' t c (below v) p q = (v, omega arith)
  only_here g k' t c (beside v) p q = absurd (omega (arith, at_x k' t c v))

  -- The partners below the node, after it and its own are those of the whole.
  join : {ps qs : List Pair} → ((p : Pair) → Memᴰ p ps → Memᴰ p qs) → Partners ps b₀ a₁ → Partners qs x₀ a₂
      → (T (bracket k₀) → (q : Partner qs (node k₀ a b₀ x₀) here) × (q.j < a₂)) → Partners qs (node k₀ a b₀ x₀) a₂
  join kept pb px head k i b t here = head t
  join kept pb px head k i b t (below u) =
      let q = pb k i b t u in
      (record { j = q.0.j; paired = kept _ q.0.paired; holds = q.0.holds; only = only_below u (omega arith) q.0.only }, omega arith)
  join kept pb px head k i b t (beside u) =
      let q = px k i b t u in
      (record { j = q.0.j; paired = q.0.paired; holds = q.0.holds; only = only_beside u q.0.only }, q.1)

no_partners : {a : ℕ} {pairs : List Pair} → Partners pairs none a
no_partners k i b t u = elim u [ ]

module _ (row : List ℕ) where
  -- ---- where the tokens of a tree lie

  -- A node's token is one of those that were read, and not the closer of its level.
  lies : {inner : ℕ → ℕ} {l : Region} {d n a a' : ℕ} {h h' : Bool} {x : Nodes} {k : NodeKind} {i : ℕ} {b : Nodes} → Derivation row inner l d n a h x a' h' → In k i b x
      → (a ≤ i) × (i + closer l < a')
  lies (a_token t p r) here = omega (arith, spans row r)
  lies (a_token t p r) (beside u) = omega (arith, lies r u)
  lies (a_group t lim op e r₁ r) here = omega (arith, spans row r₁, spans row r)
  lies (a_group t lim op e r₁ r) (below u) = omega (arith, lies r₁ u, spans row r)
  lies (a_group t lim op e r₁ r) (beside u) = omega (arith, lies r u, spans row r₁)
  lies (a_list t lim e r₁ r) here = omega (arith, spans row r₁, spans row r)
  lies (a_list t lim e r₁ r) (below u) = omega (arith, lies r₁ u, spans row r)
  lies (a_list t lim e r₁ r) (beside u) = omega (arith, lies r u, spans row r₁)
  lies (last r c) here = omega (arith, lies r here, closes_forwards row c)
  lies (last r c) (below u) = omega (arith, lies r u, closes_forwards row c)
  lies (more r e r₁) here = omega (arith, lies r here, spans row r₁)
  lies (more r e r₁) (below u) = omega (arith, lies r u, spans row r₁)
  lies (more r e r₁) (beside u) = omega (arith, lies r₁ u, spans row r)
  lies (end_row _) x18 = elim x18 [ ]
  lies (end_group _ _) x20 = elim x20 [ ]
  lies (end_argument _) x20 = elim x20 [ ]
  lies (a_token t p r) (below u) = elim u [ ]
  lies (last r c) (beside u) = elim u [ ]

  -- ---- the matcher along a reading

  -- The matcher from a token on.
  run : ℕ → Matcher → Matcher
  run a s = matcher a (drop a row) s

  run_at : {a : ℕ} {r : Role} → Meets row a r → (s : Matcher) → run a s ≡ run (suc a) (meet r a s)
  unfolding run matcher
  run_at {a} m s =
      ap (λ (ks : List ℕ). matcher a ks s) (taken row a m.present)
      ∙ ap (λ (r : Role). matcher (suc a) (drop (suc a) row) (meet r a s)) m.in_role

  run_past : {a : ℕ} → Meets row a neither → (stack : List Opener) (ps : List Pair) → run a (going stack ps) ≡ run (suc a) (going stack ps)
  unfolding meet
  run_past m stack ps = run_at m (going stack ps)

  run_shut : {d a a' : ℕ} {h h' : Bool} → Closes row d a h a' h' → (stack : List Opener) (ps : List Pair) → run a (going stack ps) ≡ run a' (going stack ps)
  unfolding role
  run_shut by_half stack ps = refl
  run_shut {a = a} (by_one e) stack ps = run_past (meets row a Greater e (omega arith) refl) stack ps
  run_shut {a = a} (by_two e two) stack ps = run_past (meets row a ShiftRight e (omega arith) refl) stack ps

  -- A level that ends before a' has its closer, if it takes one, at e.
  abbrev Ends : Region → (e a' : ℕ) → Type 0
  Ends top e a' = e ≡ a'
  Ends round e a' = (suc e ≡ a') × (kind_at row e ≡ RightParen)
  Ends square e a' = (suc e ≡ a') × (kind_at row e ≡ RightBracket)
  Ends argument e a' = e ≡ a'
  Ends list e a' = e ≡ a'

  ends_group : {k : NodeKind} {v : Region} {o c : ℕ} → Opens k v o c → (e : ℕ) → kind_at row e ≡ c → Ends v e (suc e)
  ends_group parens e q = (refl, q)
  ends_group brackets e q = (refl, q)

  group_ends : {k : NodeKind} {v : Region} {o c : ℕ} → Opens k v o c → (e a₁ : ℕ) → Ends v e a₁ → (suc e ≡ a₁) × (kind_at row e ≡ c)
  group_ends parens e a₁ en = en
  group_ends brackets e a₁ en = en

  -- The opener goes on the stack, and comes off with its partner.
  run_open : {k : NodeKind} {v : Region} {o c : ℕ} (op : Opens k v o c) (a : ℕ) → kind_at row a ≡ o → (stack : List Opener) (ps : List Pair)
      → run a (going stack ps) ≡ run (suc a) (going (record { delimiter = delimiter_of op; token = a } ∷ stack) ps)
  unfolding meet
  run_open op a e stack ps = run_at (meets_opener row op a e) (going stack ps)

  pops : {k : NodeKind} {v : Region} {o c : ℕ} (op : Opens k v o c) (e i : ℕ) (stack : List Opener) (ps : List Pair)
      → meet (closes (delimiter_of op)) e (going (record { delimiter = delimiter_of op; token = i } ∷ stack) ps)
      ≡ going stack (record { opener = i; closer = e } ∷ ps)
  unfolding meet pop same
  pops parens e i stack ps = refl
  pops brackets e i stack ps = refl

  run_close : {k : NodeKind} {v : Region} {o c : ℕ} (op : Opens k v o c) (e a₁ : ℕ) → Ends v e a₁ → (i : ℕ) (stack : List Opener) (ps : List Pair)
      → run e (going (record { delimiter = delimiter_of op; token = i } ∷ stack) ps) ≡ run a₁ (going stack (record { opener = i; closer = e } ∷ ps))
  run_close op e a₁ en i stack ps =
      let g = group_ends op e a₁ en in
      rw (← g.0, ← (pops op e i stack ps)) (run_at (meets_closer row op e g.1) (going (record { delimiter = delimiter_of op; token = i } ∷ stack) ps))

  -- The matcher goes from a to where the level ends with the same stack, and has paired each group's opener.
  record Matched (l : Region) (a a' : ℕ) (x : Nodes) (stack : List Opener) (ps : List Pair) : Type 0 where
    e : ℕ
    qs : List Pair
    ends : Ends l e a'
    goes : run a (going stack ps) ≡ run e (going stack qs)
    kept : (p : Pair) → Memᴰ p ps → Memᴰ p qs
    partners : Partners qs x a'

  matched : {inner : ℕ → ℕ} {l : Region} {d n a a' : ℕ} {h h' : Bool} {x : Nodes} → Derivation row inner l d n a h x a' h' → NoStray row x → (stack : List Opener) (ps : List Pair)
      → Matched l a a' x stack ps
  unfolding role
  matched (end_row {a = a} e) z stack ps = record { e = a; qs = ps; ends = refl; goes = refl; kept = λ p m. m; partners = no_partners }
  matched (end_group {a = a} op e) z stack ps = record { e = a; qs = ps; ends = ends_group op a e; goes = refl; kept = λ p m. m; partners = no_partners }
  matched (end_argument {a = a} s) z stack ps = record { e = a; qs = ps; ends = refl; goes = refl; kept = λ p m. m; partners = no_partners }
  matched (a_token {a = a} t p r) z stack ps =
      let m = matched r (λ i b u. z i b (beside u)) stack ps in
      record {
        e = m.e;
        qs = m.qs;
        ends = m.ends;
        goes = run_past (record { present = p.inside; in_role = z a _ here }) stack ps ∙ m.goes;
        kept = m.kept;
        partners = join (omega arith) (omega (arith, spans row r)) (λ k t c u. elim u [ ]) (λ k t c u. (lies r u).0)
            m.kept no_partners m.partners (λ t. absurd t);
      }
  matched (a_group {k = k} {a = a} {a₁ = a₁} {a₂ = a₂} {b = b} {x = x} t lim op e r₁ r) z stack ps =
      let m₁ = matched r₁ (λ i b u. z i b (below u)) (record { delimiter = delimiter_of op; token = a } ∷ stack) ps in
      let p : Pair = record { opener = a; closer = m₁.e } in
      let m = matched r (λ i b u. z i b (beside u)) stack (p ∷ m₁.qs) in
      let g = group_ends op m₁.e a₁ m₁.ends in
      let one = group_closer op in
      let mid : a ≤ a₁ = omega (arith, spans row r₁) in
      let far : a₁ ≤ a₂ = omega (arith, spans row r) in
      let inner : (k : NodeKind) (t : ℕ) (c : Nodes) → In k t c b → (a ≤ t) × (t < a₁) = λ k t c u. omega (arith, lies r₁ u) in
      let later : (k : NodeKind) (t : ℕ) (c : Nodes) → In k t c x → a₁ ≤ t = λ k t c u. (lies r u).0 in
      let own : Partner m.qs (node k a b x) here = record {
        j = m₁.e;
        paired = m.kept p (Memᴰ.head refl);
        holds = λ k t c u. omega (arith, lies r₁ u);
        only = only_here {a₂ = a₂} mid far inner later (omega arith);
      } in
      record {
        e = m.e;
        qs = m.qs;
        ends = m.ends;
        goes = run_open op a e stack ps ∙ m₁.goes ∙ run_close op m₁.e a₁ m₁.ends a stack m₁.qs ∙ m.goes;
        kept = λ q u. m.kept q (Memᴰ.tail (m₁.kept q u));
        partners = join mid far inner later (λ q u. m.kept q (Memᴰ.tail u)) m₁.partners m.partners (λ _. (own, omega arith));
      }
  matched (a_list {a = a} t lim e r₁ r) z stack ps =
      let m₁ = matched r₁ (λ i b u. z i b (below u)) stack ps in
      let m = matched r (λ i b u. z i b (beside u)) stack m₁.qs in
      record {
        e = m.e;
        qs = m.qs;
        ends = m.ends;
        goes = run_past (meets row a Less e (omega arith) refl) stack ps ∙ m₁.goes ∙ ap (λ (j : ℕ). run j (going stack m₁.qs)) m₁.ends ∙ m.goes;
        kept = λ q u. m.kept q (m₁.kept q u);
        partners = join (omega (arith, spans row r₁)) (omega (arith, spans row r)) (λ k t c u. omega (arith, lies r₁ u)) (λ k t c u. (lies r u).0)
            m.kept m₁.partners m.partners (λ t. absurd t);
      }
  matched (last {a₁ = a₁} {a₂ = a₂} r c) z stack ps =
      let m = matched r (λ i b u. z i b (below u)) stack ps in
      record {
        e = a₂;
        qs = m.qs;
        ends = refl;
        goes = m.goes ∙ ap (λ (j : ℕ). run j (going stack m.qs)) m.ends ∙ run_shut c stack m.qs;
        kept = m.kept;
        partners = join (omega (arith, spans row r)) (closes_forwards row c) (λ k t c u. omega (arith, lies r u)) (λ k t c u. elim u [ ])
            (λ q u. u) m.partners no_partners (λ t. absurd t);
      }
  matched (more {a₁ = a₁} r e r₁) z stack ps =
      let m = matched r (λ i b u. z i b (below u)) stack ps in
      let m₁ = matched r₁ (λ i b u. z i b (beside u)) stack m.qs in
      record {
        e = m₁.e;
        qs = m₁.qs;
        ends = m₁.ends;
        goes = m.goes ∙ ap (λ (j : ℕ). run j (going stack m.qs)) m.ends ∙ run_past (meets row a₁ Comma e (omega arith) refl) stack m.qs ∙ m₁.goes;
        kept = λ q u. m₁.kept q (m.kept q u);
        partners = join (omega (arith, spans row r)) (omega (arith, spans row r₁)) (λ k t c u. omega (arith, lies r u)) (λ k t c u. omega (arith, lies r₁ u))
            m₁.kept m.partners m₁.partners (λ t. absurd t);
      }

  -- ---- of the whole row

  run_end : (a : ℕ) → length row ≤ a → (s : Matcher) → run a s ≡ s
  unfolding run matcher
  run_end a h s = ap (λ (ks : List ℕ). matcher a ks s) (drop_of_length-le row h)

  module _ (known : KindsKnown row) (pairs : List Pair) (paired : Paired row pairs) {inner : ℕ → ℕ} {x : Nodes} (d : RowDerived row inner x) where
    same_pairs : (q : Matched top 0 d.at x [] []) → pairs ≡ q.qs
    unfolding run
    same_pairs q =
        let end : length row ≤ q.e = omega (arith, q.ends, (nothing_left row d known).0) in
        let u : run 0 (going [] []) ≡ going [] q.qs = q.goes ∙ run_end q.e end (going [] q.qs) in
        cc

    -- Every group has its opener's partner.
    pub partnered : (k : NodeKind) (i : ℕ) (b : Nodes) → T (bracket k) → (u : In k i b x) → Partner pairs x u
    partnered k i b t u =
        let q = matched d.derivation (tidy row known pairs paired d) [] [] in
        rw (same_pairs q) (q.partners k i b t u).0
