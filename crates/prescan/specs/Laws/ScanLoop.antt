-- The loop over a row's tokens: what is taken so far, and what is left.
-- Assumes nothing.
use Rattle.std.specs.Prelude.{ℕ, suc, ◌+◌, ◌≤◌, ◌<◌, ◌^◌, ◌≡◌, Bool, true, false, ◌||◌, length, get_or, Result, Ok, Err}
use Rattle.std.proofs.Math.Path.{refl, ap}
use Rattle.std.proofs.Common.{◌∙◌, arith, add-one, drop-cons, eq-eqb, ne_eqb}
use mathlib.Core.List.{List, [], ◌∷◌}
use Rattle.std.proofs.Math.ListN.{drop, drop_of_length-le}
use Rattle.rows.specs.Kinds.{Identifier}
use Rattle.rows.specs.Laws.Tests.{or_false}
use Rattle.rows.specs.declared.answer.TypeNameError.{TypeNameError}
use Rattle.rows.specs.declared.answer.TypeNameError.TheVariants.{Empty}
use Rattle.prescan.specs.Prescan.{passed, refused, start, past, take_token, scan, row_end, at_row_end, prescan}
use Rattle.prescan.specs.ScanState.{openers, scan_of, Past, Sound, Takes}
use Rattle.prescan.specs.Laws.Ordinary.{Ordinary, identifier_ordinary}
use Rattle.prescan.specs.Laws.Taking.{on_past, ordinary_taken}
use Rattle.prescan.specs.Prescanned.{PrescanSays}
use Rattle.prescan.specs.declared.scan.ScanState.{ScanState}

or_true : (b : Bool) → true ≡ (b || true)
or_true true = refl
or_true false = refl

module _ (language : ℕ) where
  -- After a fault nothing changes.
  scan_refused : (at : ℕ) (ks : List ℕ) (e : TypeNameError) → scan language at ks (refused e) ≡ refused e
  unfolding scan take_token
  scan_refused at [] e = refl
  scan_refused at (k ∷ ks) e = scan_refused (suc at) ks e

  pub empty_row : (kinds : List ℕ) → length kinds ≡ 0 → prescan language kinds ≡ refused Empty
  unfolding prescan
  empty_row [] e = refl
  empty_row (k ∷ ks) e = absurd (omega arith)

  full_row : (kinds : List ℕ) → 0 < length kinds → prescan language kinds ≡ at_row_end language kinds (scan language 0 kinds (passed start))
  unfolding prescan
  full_row [] p = absurd (omega arith)
  full_row (k ∷ ks) p = refl

  -- The state before token `at`.
  pub record ScanLoop (kinds stack : List ℕ) (s : ScanState) (at : ℕ) : Type 0 where
    pub some : 0 < length kinds
    pub sound : Sound kinds stack s at
    pub is : scan language 0 kinds (passed start) ≡ scan language at (drop at kinds) (passed (scan_of (openers kinds stack s.depth) s))

  module _ {kinds stack : List ℕ} {s : ScanState} {at : ℕ} (l : ScanLoop kinds stack s at) where
    -- One token more.
    taken_on : at < length kinds
        → scan language 0 kinds (passed start)
        ≡ scan language (suc at) (drop (suc at) kinds) (take_token language (get_or kinds at 0) at (passed (scan_of (openers kinds stack s.depth) s)))
    unfolding scan
    taken_on p = l.is ∙ rw (drop-cons kinds at 0 p) refl

    pub loop_refuses : at < length kinds → {stack' : List ℕ} {e : TypeNameError}
        → Takes kinds stack' at (Err e) (take_token language (get_or kinds at 0) at (passed (scan_of (openers kinds stack s.depth) s))) → PrescanSays (Err e) (prescan language kinds)
    unfolding at_row_end
    loop_refuses p {e = e} t =
        let fault : scan language 0 kinds (passed start) ≡ refused e = taken_on p ∙ rw (← t.says) (scan_refused (suc at) (drop (suc at) kinds) e) in
        record { same = full_row kinds l.some ∙ ap (at_row_end language kinds) fault }

    pub loop_goes_on : at < length kinds → {stack' : List ℕ} {s' : ScanState}
        → Takes kinds stack' at (Ok s') (take_token language (get_or kinds at 0) at (passed (scan_of (openers kinds stack s.depth) s))) → ScanLoop kinds stack' s' (at + 1)
    loop_goes_on p t = record { some = l.some; sound = rw add-one t.sound; is = taken_on p ∙ rw (← t.says, add-one) refl }

    -- A token of an ordinary kind: the state keeps its brackets and angles.
    ordinary_on : at < length kinds → Ordinary (get_or kinds at 0) → {s' : ScanState} → Past s (get_or kinds at 0) s.depth s.angles s.first s' → ScanLoop kinds stack s' (at + 1)
    ordinary_on p o t = loop_goes_on p (on_past l.sound p t (omega arith) (omega (arith, l.sound.angles)) (ordinary_taken language kinds stack s (get_or kinds at 0) at o))

    pub loop_identifier : at < length kinds → get_or kinds at 0 ≡ Identifier
        → ScanLoop kinds stack (record { depth = s.depth; angles = s.angles; first = s.first; word = true; last = get_or kinds at 0 }) (at + 1)
    unfolding past
    loop_identifier p i = ordinary_on p (identifier_ordinary i) (record { same_depth = refl; is = λ held. rw (eq-eqb (get_or kinds at 0) Identifier i, ← or_true s.word) })

    pub loop_ordinary : at < length kinds → (get_or kinds at 0 ≡ Identifier → ⊥) → Ordinary (get_or kinds at 0)
        → ScanLoop kinds stack (record { depth = s.depth; angles = s.angles; first = s.first; word = s.word; last = get_or kinds at 0 }) (at + 1)
    unfolding past
    loop_ordinary p i o = ordinary_on p o (record { same_depth = refl; is = λ held. rw (ne_eqb (get_or kinds at 0) Identifier i, or_false s.word) })

    pub loop_ends : length kinds ≤ at → (r : Result (Unit {0}) TypeNameError)
        → PrescanSays r (row_end language kinds (openers kinds stack s.depth) (scan_of (openers kinds stack s.depth) s)) → PrescanSays r (prescan language kinds)
    unfolding scan at_row_end
    loop_ends p r t =
        let end : drop at kinds ≡ [] = drop_of_length-le kinds p in
        let last : scan language 0 kinds (passed start) ≡ passed (scan_of (openers kinds stack s.depth) s) = l.is ∙ rw end refl in
        let all : prescan language kinds ≡ row_end language kinds (openers kinds stack s.depth) (scan_of (openers kinds stack s.depth) s) =
        full_row kinds l.some ∙ ap (at_row_end language kinds) last in
        rw all t

  -- Before the first token.
  pub loop_begins : (kinds stack : List ℕ) (s : ScanState) → 0 < length kinds → length kinds ≤ length stack → length kinds < 2 ^ 32 → s.depth ≡ 0 → s.angles ≡ 0
      → scan_of [] s ≡ start → ScanLoop kinds stack s 0
  unfolding openers
  loop_begins kinds stack s some room fits d a e =
      record {
        some = some;
        sound =
            record { angles = omega (arith, a); brackets = omega (arith, d); tokens = λ i l. absurd (omega (arith, d)); inside = omega arith; room = room; fits = fits };
        is = rw (d, e) refl;
      }
