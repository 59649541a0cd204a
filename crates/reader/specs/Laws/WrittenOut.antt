-- A tree written out, and the row that it was read from: the three clauses of demand 3 on the write-out.
-- Assumes nothing.
use Rattle.std.specs.Prelude.{ℕ, zero, suc, ◌+◌, ◌≤◌, ◌<◌, ◌≡◌, ◌≢◌, Bool, true, false, length, drop, eqb, if◌then◌else◌}
use Rattle.std.proofs.Math.Path.{refl, sym, ap}
use Rattle.std.proofs.Common.{◌∙◌, subst, true≢false, drop_of_length-le, drop-cons}
use mathlib.Core.List.{List, [], ◌∷◌, ◌++◌, map, append_assoc, append-nil}
use native.Mathlib.Omega.{arith}
use Rattle.std.proofs.Math.ListN.{get_or, get_or-map}
use Rattle.std.proofs.lemmas.List.{length-map}
use Rattle.rows.specs.Kinds.{Identifier, LeftParen, RightParen, LeftBracket, RightBracket, Comma, Less, Greater, ShiftRight, NoToken}
use Rattle.rows.specs.Laws.Tests.{by_if}
use Rattle.reader.specs.Nodes.{Nodes}
use Rattle.reader.specs.Reading.{Region, top, round, square, argument, list, kind_at}
use Rattle.reader.specs.Written.{Token, sign, comma_before, written, halved, closing_angles, without_closing_angles}
use Rattle.reader.specs.Standing.{tokens_of_kind}
use Rattle.reader.specs.Laws.Tokens.{KindsKnown, inside}
use Rattle.reader.specs.Derivation.{parens, brackets, Closes, by_half, by_one, by_two, Derivation, end_row, end_group, end_argument, a_token, a_group, a_list, last, more, RowDerived}
use Rattle.reader.specs.Laws.Derived.{neqb}
use Rattle.reader.specs.Laws.Bounds.{nothing_left}
use Rattle.reader.specs.Laws.Sums.{sum, sum_append}

-- What the reading is given of a row.
abbrev pub kinds_in : List Token → List ℕ
kinds_in row = map (λ (t : Token). t.kind) row

-- Words stand only at kind 0.
abbrev pub Worded : List Token → Type 0
Worded row = (i : ℕ) → i < length row → (get_or row i (sign NoToken)).kind ≢ Identifier → (get_or row i (sign NoToken)).word ≡ []

-- ---- lists of tokens, token by token

-- Each token replaced by a list of tokens.
unfoldable each : (Token → List Token) → List Token → List Token
each f [] = []
each f (t ∷ l) = f t ++ each f l

each_append : (f : Token → List Token) (l m : List Token) → each f (l ++ m) ≡ each f l ++ each f m
unfolding each
each_append f [] m = refl
each_append f (t ∷ l) m = rw (each_append f l m, append_assoc)

each_self : (l : List Token) → each (λ t. t ∷ []) l ≡ l
unfolding each
each_self [] = refl
each_self (t ∷ l) = ap (λ (m : List Token). t ∷ m) (each_self l)

-- What is left of a token, and how often it has `>`, each `>>` taken as two `>`.
others : Token → List Token
others t = without_closing_angles (halved (t ∷ []))

weight : Token → ℕ
weight t = closing_angles (halved (t ∷ []))

others_each : (l : List Token) → without_closing_angles (halved l) ≡ each others l
unfolding without_closing_angles halved each others
others_each [] = refl
others_each (t ∷ l) = shifted (eqb t.kind ShiftRight) ∙ ap (λ (m : List Token). others t ++ m) (others_each l)
  where
    kept : (b : Bool) (m : List Token) → (if b then m else t ∷ m) ≡ (if b then [] else t ∷ []) ++ m
    kept true m = refl
    kept false m = refl

    shifted : (b : Bool) → without_closing_angles (if b then sign Greater ∷ sign Greater ∷ halved l else t ∷ halved l)
        ≡ without_closing_angles (if b then sign Greater ∷ sign Greater ∷ [] else t ∷ []) ++ without_closing_angles (halved l)
    shifted true = refl
    shifted false = kept (eqb t.kind Greater) (without_closing_angles (halved l))

weight_sum : (l : List Token) → closing_angles (halved l) ≡ sum weight l
unfolding closing_angles halved sum weight
weight_sum [] = refl
weight_sum (t ∷ l) = shifted (eqb t.kind ShiftRight) ∙ ap (λ (n : ℕ). weight t + n) (weight_sum l)
  where
    one : (b : Bool) (n : ℕ) → (if b then suc n else n) ≡ (if b then 1 else 0) + n
    one true n = omega arith
    one false n = omega arith

    shifted : (b : Bool) → closing_angles (if b then sign Greater ∷ sign Greater ∷ halved l else t ∷ halved l)
        ≡ closing_angles (if b then sign Greater ∷ sign Greater ∷ [] else t ∷ []) + closing_angles (halved l)
    shifted true = omega arith
    shifted false = one (eqb t.kind Greater) (closing_angles (halved l))

clash : {X : Type 0} {n : ℕ} {l : List ℕ} → n ∷ l ≡ [] → X
clash e = let z : ◌≡◌ {A = ℕ} 0 1 = cc in absurd (omega arith)

-- A kind of which the row has no token.
none_of : (k at : ℕ) (kinds : List ℕ) → tokens_of_kind k at kinds ≡ [] → k ≢ NoToken → (i : ℕ) → kind_at kinds i ≢ k
unfolding tokens_of_kind kind_at
none_of k at [] e q i u = q (sym u)
none_of k at (k' ∷ ks) e q zero u = by_if (λ (l : List ℕ). l ≡ [] → ⊥) (eqb k k') (λ _ e. clash e) (λ t e. neqb k k' t (sym u)) e
none_of k at (k' ∷ ks) e q (suc i) u = by_if (λ (l : List ℕ). l ≡ [] → ⊥) (eqb k k') (λ _ e. clash e) (λ t e. none_of k (suc at) ks e q i u) e

-- ---- along a reading

module _ (row : List Token) (worded : Worded row) where
  abbrev K : List ℕ
  K = kinds_in row

  in_row : (a : ℕ) → kind_at K a ≢ NoToken → a < length row
  in_row a q = subst (λ (n : ℕ). a < n) (length-map row (λ (t : Token). t.kind)) (inside K a q)

  pub take_token : (a : ℕ) → kind_at K a ≢ NoToken → drop a row ≡ get_or row a (sign NoToken) ∷ drop (suc a) row
  take_token a q = drop-cons row a (sign NoToken) (in_row a q)

  -- A token that is no identifier is the token of its kind.
  signed : (a : ℕ) → a < length row → kind_at K a ≢ Identifier → get_or row a (sign NoToken) ≡ sign (kind_at K a)
  unfolding kind_at
  signed a h q =
      let e : get_or K a NoToken ≡ (get_or row a (sign NoToken)).kind = get_or-map (λ (t : Token). t.kind) row a (sign NoToken) in
      ap (λ (w : List ℕ). record { kind = (get_or row a (sign NoToken)).kind; word = w }) (worded a h (λ u. q (e ∙ u))) ∙ ap sign (sym e)

  pub take_sign : (a k : ℕ) → kind_at K a ≡ k → k ≢ NoToken → k ≢ Identifier → drop a row ≡ sign k ∷ drop (suc a) row
  take_sign a k e q z =
      let q' : kind_at K a ≢ NoToken = λ u. q (sym e ∙ u) in
      take_token a q' ∙ ap (λ (t : Token). t ∷ drop (suc a) row) (signed a (in_row a q') (λ u. z (sym e ∙ u)) ∙ ap sign e)

  pub comma_is : {inner : ℕ → ℕ} {d n a a' : ℕ} {h h' : Bool} {x : Nodes} → Derivation K inner list d n a h x a' h' → (l : List Token) → comma_before x l ≡ sign Comma ∷ l
  unfolding comma_before
  comma_is (a_token t p r) l = absurd t
  comma_is (a_group t lim op e r₁ r) l = absurd t
  comma_is (a_list t lim e r₁ r) l = absurd t
  comma_is (last r c) l = refl
  comma_is (more r e r₁) l = refl
  comma_is (end_group x18 _) l = elim x18 [ ]

  -- The row from where a level begins is the level written out, its closer, and the row from where it ends: each token replaced by a list, and by
  -- none at `>` and `>>` if the row has a `>>` at all.
  module _ (f : Token → List Token) (gone : (a : ℕ) → kind_at K a ≡ ShiftRight → (f (sign Greater) ≡ []) × (f (sign ShiftRight) ≡ [])) where
    ending : Region → List Token
    ending top = []
    ending round = f (sign RightParen)
    ending square = f (sign RightBracket)
    ending argument = []
    ending list = f (sign Greater)

    Fine : Bool → Type 0
    Fine h = h ≡ true → f (sign Greater) ≡ []

    Writes : Region → ℕ → Nodes → ℕ → Bool → Type 0
    Writes l a x a' h' = Fine h' × (each f (drop a row) ≡ each f (written row x) ++ (ending l ++ each f (drop a' row)))

    shut : {d a a' : ℕ} {h h' : Bool} → Closes K d a h a' h' → Fine h → Fine h' × (each f (drop a row) ≡ f (sign Greater) ++ each f (drop a' row))
    unfolding Fine each
    shut by_half q = (λ u. absurd (true≢false (sym u)), rw (q refl))
    shut {a = a} (by_one e) q = (q, rw (take_sign a Greater e (omega arith) (omega arith)))
    shut {a = a} (by_two e two) q = (λ u. (gone a e).0, rw (take_sign a ShiftRight e (omega arith) (omega arith)) (simp ((gone a e).0, (gone a e).1)))

    says : {inner : ℕ → ℕ} {l : Region} {d n a a' : ℕ} {h h' : Bool} {x : Nodes} → Derivation K inner l d n a h x a' h' → Fine h → Writes l a x a' h'
    unfolding Writes Fine ending written comma_before each
    says (end_row e) q = (q, refl)
    says (end_group {a = a} parens e) q = (q, rw (take_sign a RightParen e (omega arith) (omega arith)))
    says (end_group {a = a} brackets e) q = (q, rw (take_sign a RightBracket e (omega arith) (omega arith)))
    says (end_argument s) q = (q, refl)
    says (a_token {a = a} t p r) q = ((says r q).0, rw (take_token a p.inside) (simp (append_assoc, (says r q).1)))
    says (a_group {a = a} t lim parens e r₁ r) q =
        let u = says r₁ q in let v = says r u.0 in
        (v.0, rw (take_sign a LeftParen e (omega arith) (omega arith)) (simp (each_append, append_assoc, u.1, v.1)))
    says (a_group {a = a} t lim brackets e r₁ r) q =
        let u = says r₁ q in let v = says r u.0 in
        (v.0, rw (take_sign a LeftBracket e (omega arith) (omega arith)) (simp (each_append, append_assoc, u.1, v.1)))
    says (a_list {a = a} t lim e r₁ r) q =
        let u = says r₁ q in let v = says r u.0 in
        (v.0, rw (take_sign a Less e (omega arith) (omega arith)) (simp (each_append, append_assoc, u.1, v.1)))
    says (last r c) q =
        let u = says r q in let v = shut c u.0 in
        (v.0, simp (append-nil, u.1, v.1))
    says (more {a₁ = a₁} r e r₁) q =
        let u = says r q in let v = says r₁ u.0 in
        (v.0, rw (u.1, take_sign a₁ Comma e (omega arith) (omega arith), comma_is r₁) (simp (each_append, append_assoc, v.1)))

  -- The same for sums over the tokens, of a weight of which `>>` has twice what `>` has: half a `>>` that is left weighs as `>` does.
  module _ (w : Token → ℕ) (twice : w (sign ShiftRight) ≡ w (sign Greater) + w (sign Greater)) where
    half_weight : Bool → ℕ
    half_weight true = w (sign Greater)
    half_weight false = 0

    ending_weight : Region → ℕ
    ending_weight top = 0
    ending_weight round = w (sign RightParen)
    ending_weight square = w (sign RightBracket)
    ending_weight argument = 0
    ending_weight list = w (sign Greater)

    weighed : (a k : ℕ) → kind_at K a ≡ k → k ≢ NoToken → k ≢ Identifier → sum w (drop a row) ≡ w (sign k) + sum w (drop (suc a) row)
    unfolding sum
    weighed a k e q z = ap (sum w) (take_sign a k e q z)

    shut_weighs : {d a a' : ℕ} {h h' : Bool} → Closes K d a h a' h'
        → sum w (drop a row) + half_weight h ≡ w (sign Greater) + (sum w (drop a' row) + half_weight h')
    unfolding half_weight
    shut_weighs by_half = omega arith
    shut_weighs {a = a} (by_one e) = omega (arith, weighed a Greater e (omega arith) (omega arith))
    shut_weighs {a = a} (by_two e two) = omega (arith, weighed a ShiftRight e (omega arith) (omega arith))

    weighs : {inner : ℕ → ℕ} {l : Region} {d n a a' : ℕ} {h h' : Bool} {x : Nodes} → Derivation K inner l d n a h x a' h'
        → sum w (drop a row) + half_weight h ≡ sum w (written row x) + ending_weight l + (sum w (drop a' row) + half_weight h')
    unfolding written sum ending_weight half_weight
    weighs (end_row e) = omega arith
    weighs (end_group {a = a} parens e) = omega (arith, weighed a RightParen e (omega arith) (omega arith))
    weighs (end_group {a = a} brackets e) = omega (arith, weighed a RightBracket e (omega arith) (omega arith))
    weighs (end_argument s) = omega arith
    weighs (a_token {a = a} t p r) = omega (arith, weighs r, ap (sum w) (take_token a p.inside))
    weighs (a_group {a = a} t lim parens e r₁ r) = rw sum_append (omega (arith, weighs r₁, weighs r, weighed a LeftParen e (omega arith) (omega arith)))
    weighs (a_group {a = a} t lim brackets e r₁ r) = rw sum_append (omega (arith, weighs r₁, weighs r, weighed a LeftBracket e (omega arith) (omega arith)))
    weighs (a_list {a = a} t lim e r₁ r) = rw sum_append (omega (arith, weighs r₁, weighs r, weighed a Less e (omega arith) (omega arith)))
    weighs (last r c) = rw append-nil (omega (arith, weighs r, shut_weighs c))
    weighs (more {a₁ = a₁} r e r₁) = rw (comma_is r₁, sum_append) (omega (arith, weighs r, weighs r₁, weighed a₁ Comma e (omega arith) (omega arith)))

  -- ---- of the whole row

  module _ (known : KindsKnown K) {inner : ℕ → ℕ} {x : Nodes} (d : RowDerived K inner x) where
    pub at_end : drop d.at row ≡ []
    at_end =
        let u : length row ≤ d.at = omega (arith, (nothing_left K d known).0, length-map row (λ (t : Token). t.kind)) in
        drop_of_length-le row u

    each_same : (f : Token → List Token) → ((i : ℕ) → kind_at K i ≡ ShiftRight → (f (sign Greater) ≡ []) × (f (sign ShiftRight) ≡ []))
        → each f (written row x) ≡ each f row
    unfolding Writes Fine ending each
    each_same f gone = sym ((says f gone d.derivation (λ u. absurd (true≢false (sym u)))).1 ∙ rw at_end (append-nil _))

    weight_same : sum weight (written row x) ≡ sum weight row
    unfolding sum half_weight ending_weight weight closing_angles halved
    weight_same = omega (arith, rw at_end at (weighs weight refl d.derivation), ap (half_weight weight refl) (nothing_left K d known).1)

    -- They have `>` equally often,
    pub closing_angles_as_often : closing_angles (halved (written row x)) ≡ closing_angles (halved row)
    closing_angles_as_often = weight_sum (written row x) ∙ weight_same ∙ sym (weight_sum row)

    -- are the same list once every `>` is left out,
    pub else_same : without_closing_angles (halved (written row x)) ≡ without_closing_angles (halved row)
    unfolding others without_closing_angles halved
    else_same = others_each (written row x) ∙ each_same others (λ i u. (refl, refl)) ∙ sym (others_each row)

    -- and are the same list throughout if the row has no `>>`.
    pub same_throughout : tokens_of_kind ShiftRight 0 K ≡ [] → written row x ≡ row
    same_throughout no_shift =
        sym (each_self (written row x)) ∙ each_same (λ t. t ∷ []) (λ i u. absurd (none_of ShiftRight 0 K no_shift (omega arith) i u)) ∙ each_self row
