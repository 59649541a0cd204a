-- An opener has one partner: along the row its number stands at most once among the openers held and the pairs.
-- Assumes nothing.
use Rattle.std.specs.Prelude.{ℕ, suc, ◌+◌, ◌≤◌, ◌≡◌, refl, ◌≢◌, eqb, if◌then◌else◌}
use mathlib.Core.List.{List, [], ◌∷◌, Memᴰ}
use native.Mathlib.Omega.{arith}
use Rattle.std.proofs.Math.Decide.{dec_le}
use Rattle.std.proofs.Common.{eqb→eq}
use Rattle.rows.specs.Laws.Tests.{by_if}
use Rattle.rows.specs.declared.answer.Delimiter.{Delimiter}
use Rattle.prescan.specs.Matcher.{Role, opens, closes, neither, role, same, Opener, Pair, Matcher, stopped, going, pop, meet, matcher, Paired}
use Rattle.reader.specs.Laws.Derived.{neqb}
use Rattle.reader.specs.Laws.Sums.{sum}

module _ (i : ℕ) where
  is : ℕ → ℕ
  is n = if eqb n i then 1 else 0

  is_yes : (n : ℕ) → n ≡ i → is n ≡ 1
  unfolding is
  is_yes n e = by_if (λ (m : ℕ). m ≡ 1) (eqb n i) (λ _. refl) (λ t. absurd (neqb _ _ t e))

  is_no : (n : ℕ) → n ≢ i → is n ≡ 0
  unfolding is
  is_no n q = by_if (λ (m : ℕ). m ≡ 0) (eqb n i) (λ t. absurd (q (eqb→eq _ _ t))) (λ _. refl)

  is_small : (n : ℕ) → is n ≤ 1
  unfolding is
  is_small n = by_if (λ (m : ℕ). m ≤ 1) (eqb n i) (λ _. omega arith) (λ _. omega arith)

  -- How often i is the number of an opener in the pairs, and held or in the pairs.
  times : List Pair → ℕ
  unfolding sum
  times ps = sum (λ (p : Pair). is p.opener) ps

  seen : Matcher → ℕ
  seen stopped = 0
  seen (going stack ps) = sum (λ (o : Opener). is o.token) stack + times ps

  -- At most once; and not yet before token i.
  Fresh : ℕ → Matcher → Type 0
  Fresh at m = (seen m ≤ 1) × (at ≤ i → seen m ≡ 0)

  pop_fresh : (d : Delimiter) (at : ℕ) (stack : List Opener) (ps : List Pair) → Fresh at (going stack ps) → Fresh (suc at) (pop d at stack ps)
  unfolding pop seen times Fresh sum
  pop_fresh d at [] ps f = (omega arith, λ _. refl)
  pop_fresh d at (o ∷ stack) ps f =
      by_if (λ (m : Matcher). (seen m ≤ 1) × (suc at ≤ i → seen m ≡ 0)) (same o.delimiter d)
      (λ _. (omega arith, λ h. let z : seen (going (o ∷ stack) ps) ≡ 0 = f.1 (omega arith) in omega arith)) (λ _. (omega arith, λ _. refl))

  meet_fresh : (r : Role) (at : ℕ) (m : Matcher) → Fresh at m → Fresh (suc at) (meet r at m)
  unfolding meet seen Fresh sum
  meet_fresh r at stopped f = (omega arith, λ _. refl)
  meet_fresh (opens d) at (going stack ps) f = (
    elim (dec_le at i) [
      | yes h ↦ let z : seen (going stack ps) ≡ 0 = f.1 h in omega (arith, is_small at)
      | no h ↦ omega (arith, is_no at (omega arith))
    ],
    λ h. let z : seen (going stack ps) ≡ 0 = f.1 (omega arith) in omega (arith, is_no at (omega arith)),
  )
  meet_fresh (closes d) at (going stack ps) f = pop_fresh d at stack ps f
  meet_fresh neither at (going stack ps) f = (f.0, λ h. f.1 (omega arith))

  run_fresh : (at : ℕ) (ks : List ℕ) (m : Matcher) → Fresh at m → seen (matcher at ks m) ≤ 1
  unfolding matcher Fresh
  run_fresh at [] m f = f.0
  run_fresh at (k ∷ ks) m f = run_fresh (suc at) ks (meet (role k) at m) (meet_fresh (role k) at m f)

  held : {p : Pair} {ps : List Pair} → Memᴰ p ps → p.opener ≡ i → 1 ≤ times ps
  unfolding times sum
  held {p} (Memᴰ.head {x = x} e) h = omega (arith, is_yes x.opener (cc))
  held (Memᴰ.tail m) h = omega (arith, held m h)

  once : {p q : Pair} {ps : List Pair} → times ps ≤ 1 → Memᴰ p ps → Memᴰ q ps → p.opener ≡ i → q.opener ≡ i → p ≡ q
  unfolding times sum
  once u (Memᴰ.head e) (Memᴰ.head f) g h = cc
  once u (Memᴰ.head {x = x} e) (Memᴰ.tail n) g h = absurd (omega (arith, is_yes x.opener (cc), held n h))
  once u (Memᴰ.tail m) (Memᴰ.head {x = x} f) g h = absurd (omega (arith, is_yes x.opener (cc), held m g))
  once u (Memᴰ.tail m) (Memᴰ.tail n) g h = once (omega arith) m n g h

-- Two pairs with the same opener are the same.
pub one_partner : (kinds : List ℕ) (pairs : List Pair) → Paired kinds pairs → (p q : Pair) → Memᴰ p pairs → Memᴰ q pairs
    → p.opener ≡ q.opener → p ≡ q
unfolding seen Fresh sum times
one_partner kinds pairs paired p q m n e =
    let i : ℕ = q.opener in
    let u : seen i (matcher 0 kinds (going [] [])) ≤ 1 = run_fresh i 0 kinds (going [] []) (omega arith, λ _. refl) in
    once i (omega (arith, rw paired at u)) m n e refl
