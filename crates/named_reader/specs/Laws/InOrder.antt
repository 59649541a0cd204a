-- A tree written out is its row in the row's own order, each `>>` that closes two lists standing for two `>`: half a `>>` is used where it stands, since no
-- list around a group is closed inside it.
-- Assumes nothing.
use Rattle.std.specs.Prelude.{ℕ, suc, ◌≤◌, ◌<◌, ◌≡◌, ◌≢◌, Bool, ◌&&◌, ◌||◌, drop, T, eqb}
use Rattle.std.proofs.Math.Path.{refl, sym, ap}
use Rattle.std.proofs.Common.{◌∙◌, arith, ne_eqb, eq-eqb}
use Rattle.std.proofs.Math.Bool.{true, false, not}
use mathlib.Core.List.{List, [], ◌∷◌, ◌++◌, append_assoc, append-nil}
use Rattle.std.proofs.Math.ListN.{get_or}
use Rattle.rows.specs.Notation.{◌is_one_of◌}
use Rattle.rows.specs.Kinds.{Identifier, LeftParen, RightParen, LeftBracket, RightBracket, Comma, Less, Greater, ShiftRight, NoToken}
use Rattle.rows.specs.Laws.Tests.{and_false}
use Rattle.reader.specs.Nodes.{NodeKind, t_node, l_node, a_node, number, Nodes, none, node}
use Rattle.reader.specs.Reading.{Region, top, round, square, argument, list, kind_at}
use Rattle.reader.specs.Standing.{tokens_of}
use Rattle.reader.specs.Written.{Token, sign, comma_before, written}
use Rattle.reader.specs.Derivation.{Opens, parens, brackets, nodal, Closes, by_half, by_one, by_two, Derivation, end_row, end_group, end_argument, a_token, a_group, a_list, last, more, RowDerived}
use Rattle.reader.specs.Laws.Tokens.{KindsKnown}
use Rattle.reader.specs.Laws.Bounds.{spans, closes_forwards, no_half}
use Rattle.reader.specs.Laws.WrittenOut.{kinds_in, Worded, take_token, take_sign, comma_is, at_end}
use Rattle.named_reader.specs.InOrder.{closes_two, in_order}
use Rattle.named_reader.specs.Laws.Sound.{no_lists}

-- ---- the tokens of the T

abbrev is_t : Nodes → ℕ → Bool
is_t x i = i is_one_of tokens_of t_node x

one_of_both : (i : ℕ) (l m : List ℕ) → i is_one_of (l ++ m) ≡ (i is_one_of l || i is_one_of m)
unfolding ◌is_one_of◌
one_of_both i [] m = refl
one_of_both i (n ∷ l) m = rw (one_of_both i l m) (or_assoc (eqb i n) (i is_one_of l) (i is_one_of m))
  where
    or_assoc : (a b c : Bool) → (a || (b || c)) ≡ ((a || b) || c)
    or_assoc true b c = refl
    or_assoc false b c = refl

-- Of a node that is no T.
inner_t : (k : NodeKind) (i : ℕ) (b x : Nodes) (j : ℕ) → eqb (number t_node) (number k) ≡ false → is_t (node k i b x) j ≡ (is_t b j || is_t x j)
unfolding tokens_of
inner_t k i b x j e = rw e (one_of_both j (tokens_of t_node b) (tokens_of t_node x))

token_t : (i : ℕ) (x : Nodes) (j : ℕ) → is_t (node t_node i none x) j ≡ (eqb j i || is_t x j)
unfolding tokens_of ◌is_one_of◌ number
token_t i x j = refl

group_t : {k : NodeKind} {v : Region} {o c : ℕ} → Opens k v o c → eqb (number t_node) (number k) ≡ false
unfolding number
group_t parens = refl
group_t brackets = refl

module _ (row : List ℕ) {inner : ℕ → ℕ} where
  -- No T stands before where a level begins,
  under : {l : Region} {d n a a' : ℕ} {h h' : Bool} {x : Nodes} → Derivation row inner l d n a h x a' h' → (j : ℕ) → j < a → is_t x j ≡ false
  unfolding tokens_of ◌is_one_of◌ number
  under (end_row e) j p = refl
  under (end_group op e) j p = refl
  under (end_argument s) j p = refl
  under (a_token {a = a} {x = x} t p r) j q = token_t a x j ∙ rw (ne_eqb j a (omega (arith, q)), under r j (omega (arith, q))) refl
  under (a_group {k = k} {a = a} {b = b} {x = x} t lim op e r₁ r) j q =
      inner_t k a b x j (group_t op) ∙ rw (under r₁ j (omega (arith, q)), under r j (omega (arith, q, spans row r₁))) refl
  under (a_list {a = a} {b = b} {x = x} t lim e r₁ r) j q = inner_t l_node a b x j refl ∙ rw (under r₁ j (omega (arith, q)), under r j (omega (arith, q, spans row r₁))) refl
  under (last {k = k} {a = a} {i = i} {y = y} {z = z} r c) j q = inner_t a_node a (node k i y z) none j refl ∙ rw (under r j q) refl
  under (more {k = k} {a = a} {i = i} {y = y} {z = z} {x = x} r e r₁) j q =
      inner_t a_node a (node k i y z) x j refl ∙ rw (under r j q, under r₁ j (omega (arith, q, spans row r))) refl

  -- and none from where it ends on.
  over : {l : Region} {d n a a' : ℕ} {h h' : Bool} {x : Nodes} → Derivation row inner l d n a h x a' h' → (j : ℕ) → a' ≤ j → is_t x j ≡ false
  unfolding tokens_of ◌is_one_of◌ number
  over (end_row e) j p = refl
  over (end_group op e) j p = refl
  over (end_argument s) j p = refl
  over (a_token {a = a} {x = x} t p r) j q = token_t a x j ∙ rw (ne_eqb j a (omega (arith, q, spans row r)), over r j q) refl
  over (a_group {k = k} {a = a} {b = b} {x = x} t lim op e r₁ r) j q = inner_t k a b x j (group_t op) ∙ rw (over r₁ j (omega (arith, q, spans row r)), over r j q) refl
  over (a_list {a = a} {b = b} {x = x} t lim e r₁ r) j q = inner_t l_node a b x j refl ∙ rw (over r₁ j (omega (arith, q, spans row r)), over r j q) refl
  over (last {k = k} {a = a} {i = i} {y = y} {z = z} r c) j q = inner_t a_node a (node k i y z) none j refl ∙ rw (over r j (omega (arith, q, closes_forwards row c))) refl
  over (more {k = k} {a = a} {i = i} {y = y} {z = z} {x = x} r e r₁) j q =
      inner_t a_node a (node k i y z) x j refl ∙ rw (over r j (omega (arith, q, spans row r₁)), over r₁ j q) refl

-- ---- along a derivation

module _ (row : List Token) (worded : Worded row) (two : ℕ → Bool) where
  abbrev K : List ℕ
  K = kinds_in row

  abbrev from : ℕ → List Token
  from a = in_order two a (drop a row)

  -- Half a `>>` that is left has yet to be written.
  abbrev pending : Bool → List Token
  pending true = sign Greater ∷ []
  pending false = []

  abbrev ending : Region → List Token
  ending top = []
  ending round = sign RightParen ∷ []
  ending square = sign RightBracket ∷ []
  ending argument = []
  ending list = sign Greater ∷ []

  kept : (a : ℕ) (t : Token) → drop a row ≡ t ∷ drop (suc a) row → (eqb t.kind ShiftRight && two a) ≡ false → from a ≡ t ∷ from (suc a)
  unfolding in_order
  kept a t e q = rw (e, q) refl

  sign_kept : (a k : ℕ) → kind_at K a ≡ k → k ≢ NoToken → k ≢ Identifier → k ≢ ShiftRight → from a ≡ sign k ∷ from (suc a)
  sign_kept a k e q z s = kept a (sign k) (take_sign row worded a k e q z) (rw (ne_eqb k ShiftRight s) refl)

  -- The `>>` that are split are those that are no T of these nodes.
  abbrev Agrees : (a a' : ℕ) → Nodes → Type 0
  Agrees a a' x = (i : ℕ) → a ≤ i → i < a' → two i ≡ not (is_t x i)

  shut : {d a a' : ℕ} {h h' : Bool} → Closes K d a h a' h' → (a < a' → two a ≡ true) → pending h ++ from a ≡ sign Greater ∷ (pending h' ++ from a')
  unfolding in_order
  shut by_half f = refl
  shut {a = a} (by_one e) f = sign_kept a Greater e (omega arith) (omega arith) (omega arith)
  shut {a = a} (by_two e two≤) f = rw (take_sign row worded a ShiftRight e (omega arith) (omega arith), f (omega arith)) refl

  -- At the top and in groups no list can be closed and no half is left.
  abbrev Calm : Region → (d : ℕ) (h : Bool) → Type 0
  Calm top d h = (d ≡ 0) × (h ≡ false)
  Calm round d h = (d ≡ 0) × (h ≡ false)
  Calm square d h = (d ≡ 0) × (h ≡ false)
  Calm argument d h = Unit {0}
  Calm list d h = Unit {0}

  no_pending : (l : Region) (d : ℕ) (h : Bool) → T (nodal l h) → Calm l d h → h ≡ false
  no_pending top d h t c = c.1
  no_pending round d h t c = c.1
  no_pending square d h t c = c.1
  no_pending argument d true t c = absurd t
  no_pending argument d false t c = refl
  no_pending list d h t c = absurd t

  group_calm : {k : NodeKind} {v : Region} {o c : ℕ} → Opens k v o c → (h : Bool) → h ≡ false → Calm v 0 h
  group_calm parens h q = (refl, q)
  group_calm brackets h q = (refl, q)

  -- What is left behind a group or a list in this level.
  calm_after : (l : Region) (d : ℕ) (h h₁ : Bool) → T (nodal l h) → Calm l d h → (d ≡ 0 → h₁ ≡ false) → Calm l d h₁
  calm_after top d h h₁ t c f = (c.0, f c.0)
  calm_after round d h h₁ t c f = (c.0, f c.0)
  calm_after square d h h₁ t c f = (c.0, f c.0)
  calm_after argument d h h₁ t c f = tt
  calm_after list d h h₁ t c f = absurd t

  fewer : (d : ℕ) → no_lists d ≤ d
  fewer d = omega arith

  -- Of the parts of a node.
  parts : (k : NodeKind) (i : ℕ) (b x : Nodes) (j : ℕ) → eqb (number t_node) (number k) ≡ false → two j ≡ not (is_t (node k i b x) j) → (is_t x j ≡ false → two j ≡ not (is_t b j))
  parts k i b x j e q z = let same : is_t (node k i b x) j ≡ is_t b j = inner_t k i b x j e ∙ rw z (or_false (is_t b j)) in q ∙ ap not same
    where
      or_false : (c : Bool) → (c || false) ≡ c
      or_false true = refl
      or_false false = refl

  rests : (k : NodeKind) (i : ℕ) (b x : Nodes) (j : ℕ) → eqb (number t_node) (number k) ≡ false → two j ≡ not (is_t (node k i b x) j) → is_t b j ≡ false → two j ≡ not (is_t x j)
  rests k i b x j e q z = let same : is_t (node k i b x) j ≡ is_t x j = inner_t k i b x j e ∙ rw z refl in q ∙ ap not same

  group_written : {k : NodeKind} {v : Region} {o c : ℕ} → Opens k v o c → (a : ℕ) (b x : Nodes) (m rest : List Token) → kind_at K a ≡ o → from (suc a) ≡ written row b ++ (ending v ++ m)
      → m ≡ written row x ++ rest → from a ≡ written row (node k a b x) ++ rest
  unfolding written
  group_written parens a b x m rest e u w =
      sign_kept a LeftParen e (omega arith) (omega arith) (omega arith) ∙ ap (λ (l : List Token). sign LeftParen ∷ l)
      (u ∙ ap (λ (l : List Token). written row b ++ (sign RightParen ∷ l)) w ∙ sym (append_assoc (written row b) (sign RightParen ∷ written row x) rest))
  group_written brackets a b x m rest e u w =
      sign_kept a LeftBracket e (omega arith) (omega arith) (omega arith) ∙ ap (λ (l : List Token). sign LeftBracket ∷ l)
      (u ∙ ap (λ (l : List Token). written row b ++ (sign RightBracket ∷ l)) w ∙ sym (append_assoc (written row b) (sign RightBracket ∷ written row x) rest))

  says : {l : Region} {d n a a' : ℕ} {h h' : Bool} {x : Nodes} → Derivation K no_lists l d n a h x a' h' → Calm l d h → Agrees a a' x
      → pending h ++ from a ≡ written row x ++ (ending l ++ (pending h' ++ from a'))
  unfolding written comma_before number tokens_of ◌is_one_of◌
  says (end_row e) c g = refl
  says (end_group {a = a} parens e) c g = rw c.1 (sign_kept a RightParen e (omega arith) (omega arith) (omega arith))
  says (end_group {a = a} brackets e) c g = rw c.1 (sign_kept a RightBracket e (omega arith) (omega arith) (omega arith))
  says (end_argument s) c g = refl
  says (a_token {l = l} {d = d} {a = a} {a' = a'} {h = h} {x = x} t p r) c g =
      let q = no_pending l d h t c in
      let here : is_t (node t_node a none x) a ≡ true = token_t a x a ∙ rw (eq-eqb a a refl) refl in
      let one : two a ≡ false = g a (omega arith) (omega (arith, spans K r)) ∙ ap not here in
      let later : Agrees (suc a) a' x = λ i u v. let same : is_t (node t_node a none x) i ≡ is_t x i = token_t a x i ∙ rw (ne_eqb i a (omega (arith, u))) refl in g i (omega (arith, u)) v ∙ ap not same in
      let first : from a ≡ get_or row a (sign NoToken) ∷ from (suc a) = kept a _ (take_token row worded a p.inside) (rw one (and_false (eqb (get_or row a (sign NoToken)).kind ShiftRight))) in
      rw (q, first) (ap (λ (m : List Token). get_or row a (sign NoToken) ∷ m) (rw q at (says r c later)))
  says (a_group {l = l} {v = v} {k = k} {d = d} {a = a} {a₁ = a₁} {a₂ = a₂} {h = h} {h₁ = h₁} {h₂ = h₂} {b = b} {x = x} t lim op e r₁ r) c g =
      let q = no_pending l d h t c in
      let q₁ : h₁ ≡ false = no_half K fewer r₁ (omega arith) q in
      let u = says r₁ (group_calm op h q) (λ j y w. parts k a b x j (group_t op) (g j (omega (arith, y)) (omega (arith, w, spans K r))) (under K r j w)) in
      let w = says r (calm_after l d h h₁ t c (λ _. q₁)) (λ j y z. rests k a b x j (group_t op) (g j (omega (arith, y, spans K r₁)) z) (over K r₁ j y)) in
      rw q (group_written op a b x (pending h₁ ++ from a₁) _ e (rw q at u) w)
  says (a_list {l = l} {d = d} {a = a} {a₁ = a₁} {a₂ = a₂} {h = h} {h₁ = h₁} {b = b} {x = x} t lim e r₁ r) c g =
      let q = no_pending l d h t c in
      let u = says r₁ tt (λ j y w. parts l_node a b x j refl (g j (omega (arith, y)) (omega (arith, w, spans K r))) (under K r j w)) in
      let w = says r (calm_after l d h h₁ t c (λ z. no_half K fewer r₁ (omega (arith, z)) q)) (λ j y z. rests l_node a b x j refl (g j (omega (arith, y, spans K r₁)) z) (over K r₁ j y)) in
      rw (q, sign_kept a Less e (omega arith) (omega arith) (omega arith)) (ap (λ (m : List Token). sign Less ∷ m) ((rw q at u) ∙ ap (λ (m : List Token). written row b ++ (sign Greater ∷ m)) w ∙ sym (append_assoc (written row b) (sign Greater ∷ written row x) _)))
  says (last {k = k} {a = a} {a₁ = a₁} {a₂ = a₂} {i = i} {y = y} {z = z} r c) f g =
      let u = says r tt (λ j y' w. parts a_node a (node k i y z) none j refl (g j y' (omega (arith, w, closes_forwards K c))) refl) in
      let no_t : is_t (node a_node a (node k i y z) none) a₁ ≡ false = inner_t a_node a (node k i y z) none a₁ refl ∙ rw (over K r a₁ (omega arith)) refl in
      let closing : a₁ < a₂ → two a₁ ≡ true = λ lt. g a₁ (omega (arith, spans K r)) lt ∙ ap not no_t in
      u ∙ ap (λ (m : List Token). written row (node k i y z) ++ m) (shut c closing) ∙ simp append-nil
  says (more {k = k} {a = a} {a₁ = a₁} {a₂ = a₂} {i = i} {y = y} {z = z} {x = x} r e r₁) f g =
      let u = says r tt (λ j y' w. parts a_node a (node k i y z) x j refl (g j y' (omega (arith, w, spans K r₁))) (under K r₁ j (omega (arith, w)))) in
      let v = says r₁ tt (λ j y' w. rests a_node a (node k i y z) x j refl (g j (omega (arith, y', spans K r)) w) (over K r j (omega (arith, y')))) in
      u ∙ rw (sign_kept a₁ Comma e (omega arith) (omega arith) (omega arith), comma_is row worded r₁) (simp (append_assoc, v))

-- ---- the whole row

-- "Written out in its own order".
pub in_own_order : (row : List Token) → Worded row → KindsKnown (kinds_in row) → {x : Nodes} → RowDerived (kinds_in row) no_lists x → written row x ≡ in_order (closes_two x) 0 row
unfolding closes_two in_order
in_own_order row worded known {x} q =
    let w = says row worded (closes_two x) q.derivation (refl, refl) (λ i _ _. refl) in
    sym (w ∙ rw (no_half (kinds_in row) (λ d. omega arith) q.derivation (omega arith) refl, at_end row worded known q) (append-nil _))
