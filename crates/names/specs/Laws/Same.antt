-- Words as equal lists. Assumes nothing.
use Rattle.std.specs.Prelude.{ℕ, ◌≡◌, refl, Bool, true, false, ◌&&◌, ◌||◌, List, [], ◌∷◌, T, eqb}
use Rattle.std.proofs.Common.{sym, ap, subst, ◌∙◌, true≢false, eq-eqb, eqb→eq}
use Rattle.std.proofs.Math.Facts.{and_yes}
use Rattle.rows.specs.Words.{same_exactly, same_through}

-- ---- truth values

pub otherwise : (b : Bool) → (b ≡ true → ⊥) → b ≡ false
otherwise true d = absurd (d refl)
otherwise false d = refl

pub or_true : (b : Bool) → (b || true) ≡ true
or_true true = refl
or_true false = refl

pub both : (a b : Bool) → (a && b) ≡ true → (a ≡ true) × (b ≡ true)
both true b e = (refl, e)
both false b e = absurd (true≢false (sym e))

pub neither : (a b : Bool) → (a || b) ≡ false → (a ≡ false) × (b ≡ false)
neither true b e = absurd (true≢false e)
neither false b e = (refl, e)

-- ---- equal lists

pub same_itself : (w : List ℕ) → same_exactly w w ≡ true
unfolding same_exactly same_through
same_itself [] = refl
same_itself (b ∷ w) = rw (eq-eqb b b refl) (same_itself w)

equal : (w v : List ℕ) → T (same_exactly w v) → w ≡ v
unfolding same_exactly same_through
equal [] [] t = refl
equal [] (c ∷ v) t = absurd t
equal (b ∷ w) [] t = absurd t
equal (b ∷ w) (c ∷ v) t =
    let p = and_yes (eqb b c) _ t in
    ap (λ (x : ℕ). x ∷ w) (eqb→eq b c p.0) ∙ ap (λ (x : List ℕ). c ∷ x) (equal w v p.1)

pub same_equal : (w v : List ℕ) → same_exactly w v ≡ true → w ≡ v
same_equal w v e = equal w v (subst T (sym e) tt)

pub same_turned : (w v : List ℕ) → same_exactly w v ≡ true → same_exactly v w ≡ true
same_turned w v e = ap (same_exactly v) (same_equal w v e) ∙ same_itself v

pub other_turned : (w v : List ℕ) → same_exactly w v ≡ false → same_exactly v w ≡ false
other_turned w v e = otherwise (same_exactly v w) (λ q. true≢false (sym (same_turned v w q) ∙ e))
