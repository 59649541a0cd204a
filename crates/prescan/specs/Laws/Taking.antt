-- A token taken by the code, way by way.
-- Assumes nothing.
use Prim.Native.Nat.{ℕ, zero, suc, ◌+◌, ◌≤◌, ◌<◌}
use Rattle.std.specs.Prelude.{◌≡◌, Bool, true, false, length, get_or, set, eqb, Some, None, Result, Ok, Err}
use Rattle.std.proofs.Math.Path.{refl, ap}
use Rattle.std.proofs.Common.{sym, ◌∙◌, arith, length-set, get_or-set_same, get_or-set_other}
use mathlib.Core.List.{List, [], ◌∷◌}
use denote.Enum.Bare.{sameb}
use Rattle.rows.specs.contracts.answer.Delimiter.{the_type}
use borrow.Author.Tests.{ne_eqb, eqb-true, eqb-false}
use Rattle.rows.specs.Notation.{◌is_one_of◌}
use Rattle.rows.specs.Kinds.{LeftParen, RightParen, LeftBracket, RightBracket, Comma, Less, Greater, ShiftRight, End}
use Rattle.rows.specs.declared.answer.Delimiter.{Delimiter}
use Rattle.rows.specs.declared.answer.Delimiter.TheVariants.{Parenthesis, Bracket}
use Rattle.rows.specs.declared.answer.TypeNameError.{TypeNameError}
use Rattle.rows.specs.declared.answer.TypeNameError.TheVariants.{UnexpectedClosingDelimiter, UnexpectedEndToken}
use Rattle.prescan.specs.Matcher.{opens, neither, role, same}
use Rattle.prescan.specs.Prescan.{Scan, Scanned, passed, refused, past, close, outside_brackets, no_bracket, in_role, take_token}
use Rattle.prescan.specs.ScanState.{delimiter_of, openers, scan_of, Past, Steps, Sound, Takes}
use Rattle.prescan.specs.Laws.Ordinary.{Ordinary}
use Rattle.prescan.specs.Laws.Outside.{other_passes}
use Rattle.prescan.specs.declared.scan.ScanState.{ScanState}

-- ---- the stack

-- A store at or above the depth leaves the openers as they are.
openers_set : (kinds stack : List ℕ) (depth i v : ℕ) → depth ≤ i → openers kinds (set stack i v) depth ≡ openers kinds stack depth
unfolding openers
openers_set kinds stack zero i v p = refl
openers_set kinds stack (suc depth) i v p =
    rw (get_or-set_other stack i depth v 0 (omega arith), openers_set kinds stack depth i v (omega arith)) refl

-- What is known of a state past a token.
past_angles : {s r : ScanState} {k depth angles first : ℕ} → Past s k depth angles first r → r.angles ≡ angles
unfolding past
past_angles p = ap (λ (c : Scan). c.angle_depth) (p.is [])

module _ {kinds stack : List ℕ} {s : ScanState} {at : ℕ} (sound : Sound kinds stack s at) (more : at < length kinds) where
  -- A state past a token with no more brackets than before.
  sound_past : {r : ScanState} {k depth angles first : ℕ} → Past s k depth angles first r → depth ≤ s.depth → angles ≤ suc at → Sound kinds stack r (suc at)
  sound_past {r} {k} {depth} {angles} p fewer few =
      let d : r.depth ≡ depth = p.same_depth in
      let a : r.angles ≡ angles = past_angles p in
      record {
        angles = omega (arith, a);
        brackets = omega (arith, d, sound.brackets);
        tokens = λ i l. omega (arith, sound.tokens i (omega (arith, d)));
        inside = omega arith;
        room = sound.room;
        fits = sound.fits;
      }

  pub on_past : {r : ScanState} {k depth angles first : ℕ} {d : Scanned} → Past s k depth angles first r → depth ≤ s.depth → angles ≤ suc at
      → d ≡ passed (past k (scan_of [] s) (openers kinds stack depth) angles first) → Takes kinds stack at (Ok r) d
  on_past {r} {depth = depth} p fewer few e =
      record { says = ap (λ (n : ℕ). passed (scan_of (openers kinds stack n) r)) p.same_depth ∙ ap passed (p.is (openers kinds stack depth)) ∙ sym e; sound = sound_past p fewer few }

pub refuses : {kinds stack : List ℕ} {at : ℕ} {e : TypeNameError} {d : Scanned} → d ≡ refused e → Takes kinds stack at (Err e) d
refuses e = record { says = sym e; sound = tt }

-- ---- a closer

-- Two brackets are of one sort where the derived comparison says so.
pub own_sort : (o d : Delimiter) {r b : Bool} → r ≡ sameb the_type o d → r ≡ b → same o d ≡ b
unfolding same
own_sort Parenthesis Parenthesis e is = sym e ∙ is
own_sort Parenthesis Bracket e is = sym e ∙ is
own_sort Bracket Parenthesis e is = sym e ∙ is
own_sort Bracket Bracket e is = sym e ∙ is

module _ (kinds stack : List ℕ) (s : ScanState) (k at : ℕ) (d : Delimiter) where
  -- what the definition does
  abbrev closed : Scanned
  closed = close d k at (openers kinds stack s.depth) (scan_of (openers kinds stack s.depth) s)

  pub nothing_open : s.depth ≡ 0 → closed ≡ refused (UnexpectedClosingDelimiter None d at)
  unfolding openers close
  nothing_open e = rw e refl

  module _ (n : ℕ) (deep : s.depth ≡ suc n) (o : Delimiter) (is : o ≡ delimiter_of (get_or kinds (get_or stack n 0) 0)) where
    pub own_open : same o d ≡ true → closed ≡ passed (past k (scan_of [] s) (openers kinds stack n) s.angles s.first)
    unfolding openers close past
    own_open e = rw (deep, ← is, e) refl

    pub other_open : same o d ≡ false → closed ≡ refused (UnexpectedClosingDelimiter (Some o) d at)
    unfolding openers close
    other_open e = rw (deep, ← is, e) refl

-- ---- any token

role_neither : (k : ℕ) → (k ≡ LeftParen → ⊥) → (k ≡ LeftBracket → ⊥) → (k ≡ RightParen → ⊥) → (k ≡ RightBracket → ⊥) → role k ≡ neither
unfolding role
role_neither k a b c d = rw (ne_eqb k LeftParen a, ne_eqb k LeftBracket b, ne_eqb k RightParen c, ne_eqb k RightBracket d) refl

module _ (language : ℕ) (kinds stack : List ℕ) (s : ScanState) (k at : ℕ) where
  -- what the definition does with token `at` of kind k
  abbrev taken : Scanned
  taken = take_token language k at (passed (scan_of (openers kinds stack s.depth) s))

  pub round_closer : k ≡ RightParen → taken ≡ closed kinds stack s k at Parenthesis
  unfolding take_token in_role role
  round_closer e = rw e refl

  pub square_closer : k ≡ RightBracket → taken ≡ closed kinds stack s k at Bracket
  unfolding take_token in_role role
  square_closer e = rw e refl

  pub end_token : k ≡ End → taken ≡ refused (UnexpectedEndToken at)
  unfolding take_token in_role role
  end_token e = rw e refl

  module _ (a : k ≡ LeftParen → ⊥) (b : k ≡ LeftBracket → ⊥) (c : k ≡ RightParen → ⊥) (d : k ≡ RightBracket → ⊥) (e : k ≡ End → ⊥) where
    no_bracket_taken : taken ≡ no_bracket language k at (openers kinds stack s.depth) (scan_of (openers kinds stack s.depth) s)
    unfolding take_token in_role
    no_bracket_taken = rw (role_neither k a b c d, ne_eqb k End e) refl

    pub inside_brackets : 0 < s.depth → taken ≡ passed (past k (scan_of [] s) (openers kinds stack s.depth) s.angles s.first)
    unfolding openers no_bracket past
    inside_brackets p = no_bracket_taken ∙ deeper s.depth p
      where
        deeper : (n : ℕ) → 0 < n → no_bracket language k at (openers kinds stack n) (scan_of (openers kinds stack n) s) ≡ passed (past k (scan_of [] s) (openers kinds stack n) s.angles s.first)
        deeper zero p = absurd (omega arith)
        deeper (suc n) p = refl

    pub outside_taken : s.depth ≡ 0 → taken ≡ outside_brackets language k at (scan_of [] s)
    unfolding openers no_bracket
    outside_taken p = no_bracket_taken ∙ rw p refl

  -- A token of an ordinary kind, inside brackets or not.
  pub ordinary_taken : Ordinary k → taken ≡ passed (past k (scan_of [] s) (openers kinds stack s.depth) s.angles s.first)
  unfolding openers no_bracket past ◌is_one_of◌
  ordinary_taken o =
      no_bracket_taken (o.apart LeftParen refl) (o.apart LeftBracket refl) (o.apart RightParen refl) (o.apart RightBracket refl) (o.apart End refl)
      ∙ anywhere s.depth
    where
      anywhere : (n : ℕ) → no_bracket language k at (openers kinds stack n) (scan_of (openers kinds stack n) s) ≡ passed (past k (scan_of [] s) (openers kinds stack n) s.angles s.first)
      anywhere zero = other_passes language k at (scan_of [] s) (o.apart Less refl) (o.apart Greater refl) (o.apart ShiftRight refl) (o.apart Comma refl)
      anywhere (suc n) = refl

  -- ---- an opener, put on the stack

  abbrev pushed : List ℕ
  pushed = set stack s.depth at

  module _ (sound : Sound kinds stack s at) (more : at < length kinds) (is : k ≡ get_or kinds at 0) where
    top_pushed : get_or pushed s.depth 0 ≡ at
    top_pushed = get_or-set_same stack s.depth at 0 (omega (arith, sound.room, sound.brackets))

    openers_pushed : (n : ℕ) → n ≡ suc s.depth → openers kinds pushed n ≡ record { delimiter = delimiter_of k; token = at } ∷ openers kinds stack s.depth
    unfolding openers
    openers_pushed n e = rw (e, top_pushed, ← is, openers_set kinds stack s.depth s.depth at (omega arith)) refl

    token_below : (r : ScanState) → r.depth ≡ s.depth + 1 → (i : ℕ) → i < r.depth → get_or pushed i 0 < suc at
    token_below r d i l = by (eqb i s.depth) refl
      where
        by : (b : Bool) → eqb i s.depth ≡ b → get_or pushed i 0 < suc at
        by true e = let same_place : i ≡ s.depth = eqb-true i s.depth e in rw (same_place, top_pushed) (omega arith)
        by false e =
            let other_place : i ≡ s.depth → ⊥ = eqb-false i s.depth e in
            rw (get_or-set_other stack s.depth i at 0 other_place) (omega (arith, sound.tokens i (omega (arith, d, other_place))))

    opener_takes : (d : Delimiter) → delimiter_of k ≡ d → role k ≡ opens d → {r : ScanState} → Past s k (s.depth + 1) s.angles s.first r → Takes kinds pushed at (Ok r) taken
    unfolding take_token in_role past
    opener_takes d e o {r} p =
        let n : r.depth ≡ suc s.depth = omega (arith, p.same_depth) in
        let same_state : passed (past k (scan_of [] s) (openers kinds pushed r.depth) s.angles s.first) ≡ taken = rw (openers_pushed r.depth n, e, o) refl in
        record {
          says = ap passed (p.is (openers kinds pushed r.depth)) ∙ same_state;
          sound =
              record {
                angles = omega (arith, past_angles p, sound.angles);
                brackets = omega (arith, n, sound.brackets);
                tokens = token_below r p.same_depth;
                inside = omega arith;
                room = rw (length-set stack s.depth at) sound.room;
                fits = sound.fits;
              };
        }

    pub round_opener : k ≡ LeftParen → {r : ScanState} → Past s k (s.depth + 1) s.angles s.first r → Takes kinds pushed at (Ok r) taken
    unfolding delimiter_of role
    round_opener e p = opener_takes Parenthesis (rw e refl) (rw e refl) p

    pub square_opener : k ≡ LeftBracket → {r : ScanState} → Past s k (s.depth + 1) s.angles s.first r → Takes kinds pushed at (Ok r) taken
    unfolding delimiter_of role
    square_opener e p = opener_takes Bracket (rw e refl) (rw e refl) p

-- ---- a token outside brackets

pub outside_takes : {kinds stack : List ℕ} {s : ScanState} {at : ℕ} → Sound kinds stack s at → at < length kinds → s.depth ≡ 0 → (r : Result ScanState TypeNameError) (d d' : Scanned) → d' ≡ d
    → Steps [] s r d → Takes kinds stack at r d'
unfolding openers
outside_takes sound more none (Err e) d d' q steps = record { says = steps.says ∙ sym q; sound = tt }
outside_takes {kinds} {stack} {s} sound more none (Ok r) d d' q steps =
    let n : r.depth ≡ 0 = steps.keeps.0 ∙ none in
    record {
      says = ap (λ (n : ℕ). passed (scan_of (openers kinds stack n) r)) n ∙ steps.says ∙ sym q;
      sound =
          record {
            angles = omega (arith, steps.keeps.1, sound.angles);
            brackets = omega (arith, n);
            tokens = λ i l. absurd (omega (arith, n));
            inside = omega arith;
            room = sound.room;
            fits = sound.fits;
          };
    }
