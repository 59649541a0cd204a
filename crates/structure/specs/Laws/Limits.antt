-- Checks one after another under one allowance. Assumes nothing.
use Rattle.std.specs.Prelude.{ℕ, ◌+◌, ◌-◌, ◌<◌, ◌≡◌, Bool, true, false, leb, if◌then◌else◌, Ok, Err, IsErrAnd}
use Rattle.std.proofs.Math.Path.{refl}
use Rattle.std.proofs.Common.{ap, sym, ◌∙◌, arith, le-leb}
use Rattle.std.proofs.Math.Decide.{dec_le}
use Rattle.std.proofs.lemmas.Bool.{lt-leb}
use Rattle.std.proofs.lemmas.Result.{err_from_is_err_and}
use Rattle.structure.specs.Said.{Said, holds, fails, after, both, either, plain}
use Rattle.structure.specs.Allowance.{Verdict, verdict_within}
use Rattle.structure.specs.declared.moves.Fault.{Fault}
use Rattle.structure.specs.declared.moves.Fault.TheVariants.{Fails, Spent}

-- what is done with an answer: go on where it holds, or where it fails
unfoldable pub on_holds : Verdict → (ℕ → Verdict) → Verdict
on_holds (Ok left) f = f left
on_holds (Err fault) f = Err fault

unfoldable pub on_fails : Verdict → (ℕ → Verdict) → Verdict
on_fails (Ok left) f = Ok left
on_fails (Err (Fails left)) f = f left
on_fails (Err Spent) f = Err Spent

-- Where `?` returns, it hands on what the check came to.
pub handed_on : {r v : Verdict} {fault : Fault} → v ≡ Err fault → IsErrAnd r (λ y. y ≡ fault) → r ≡ v
handed_on {r} q o = let p = err_from_is_err_and r o in p.1 ∙ ap Err p.2 ∙ sym q

pub limited_after : (left m : ℕ) (s : Said) → verdict_within left (after m s) ≡ if leb m left then verdict_within (left - m) s else Err Spent
unfolding verdict_within after
limited_after left m (holds n) =
    elim (dec_le (m + n) left) [
      | yes p ↦ rw (le-leb (m + n) left p, le-leb m left (omega arith), le-leb n (left - m) (omega arith)) (ap Ok (omega arith))
      | no p ↦
          elim (dec_le m left) [
            | yes q ↦ rw (lt-leb (m + n) left (omega arith), le-leb m left q, lt-leb n (left - m) (omega arith))
            | no q ↦ rw (lt-leb (m + n) left (omega arith), lt-leb m left (omega arith))
          ]
    ]
limited_after left m (fails n) =
    elim (dec_le (m + n) left) [
      | yes p ↦ rw (le-leb (m + n) left p, le-leb m left (omega arith), le-leb n (left - m) (omega arith)) (ap (λ (l : ℕ). Err (Fails l)) (omega arith))
      | no p ↦
          elim (dec_le m left) [
            | yes q ↦ rw (lt-leb (m + n) left (omega arith), le-leb m left q, lt-leb n (left - m) (omega arith))
            | no q ↦ rw (lt-leb (m + n) left (omega arith), lt-leb m left (omega arith))
          ]
    ]

-- an entry: one step
pub limited_entry : (left : ℕ) (s : Said) → 0 < left → verdict_within left (after 1 s) ≡ verdict_within (left - 1) s
limited_entry left s h = limited_after left 1 s ∙ rw (le-leb 1 left h)

pub limited_none : (s : Said) → verdict_within 0 (after 1 s) ≡ Err Spent
limited_none s = limited_after 0 1 s

pub limited_both : (left : ℕ) (s : Said) (f : Bool → Said) → verdict_within left (both s f) ≡ on_holds (verdict_within left s) (λ l. verdict_within l (f true))
unfolding both on_holds verdict_within
limited_both left (holds m) f = limited_after left m (f true) ∙ go (leb m left)
  where
    go : (b : Bool) → (if b then verdict_within (left - m) (f true) else Err Spent) ≡ on_holds (if b then Ok (left - m) else Err Spent) (λ l. verdict_within l (f true))
    go true = refl
    go false = refl
limited_both left (fails m) f = go (leb m left)
  where
    go : (b : Bool) → (if b then Err (Fails (left - m)) else Err Spent) ≡ on_holds (if b then Err (Fails (left - m)) else Err Spent) (λ l. verdict_within l (f true))
    go true = refl
    go false = refl

pub limited_either : (left : ℕ) (s : Said) (f : Bool → Said) → verdict_within left (either s f) ≡ on_fails (verdict_within left s) (λ l. verdict_within l (f false))
unfolding either on_fails verdict_within
limited_either left (fails m) f = limited_after left m (f false) ∙ go (leb m left)
  where
    go : (b : Bool) → (if b then verdict_within (left - m) (f false) else Err Spent) ≡ on_fails (if b then Err (Fails (left - m)) else Err Spent) (λ l. verdict_within l (f false))
    go true = refl
    go false = refl
limited_either left (holds m) f = go (leb m left)
  where
    go : (b : Bool) → (if b then Ok (left - m) else Err Spent) ≡ on_fails (if b then Ok (left - m) else Err Spent) (λ l. verdict_within l (f false))
    go true = refl
    go false = refl

pub limited_yes : (left : ℕ) → verdict_within left (plain true) ≡ Ok left
unfolding verdict_within plain
limited_yes left = rw (le-leb 0 left (omega arith)) (ap Ok (omega arith))

pub limited_no : (left : ℕ) → verdict_within left (plain false) ≡ Err (Fails left)
unfolding verdict_within plain
limited_no left = rw (le-leb 0 left (omega arith)) (ap (λ (l : ℕ). Err (Fails l)) (omega arith))
