-- What the calls report one after the other: exactly the pairs that overlap, in order, each once. Assumes nothing.
use Rattle.std.specs.Prelude.{ℕ, ◌≡◌, List, [], ◌∷◌}
use Rattle.std.proofs.Common.{◌∙◌, subst, inl, inr, ⊎_elim, arith, lt_of_not-le}
use Rattle.std.proofs.Math.Decide.{dec_le}
use Rattle.rules.specs.Rules.{Rule}
use Rattle.rules.specs.Overlaps.{After, Pair, Places, Walk, ends, goes}

-- The pair (i, j) is reported.
pub data Reported (i j : ℕ) : List Places → Type 0 where
  here : {p : Places} {ps : List Places} → p.earlier ≡ i → p.later ≡ j → Reported i j (p ∷ ps)
  there : {p : Places} {ps : List Places} → Reported i j ps → Reported i j (p ∷ ps)

-- Each comes after the one before: so none is reported twice.
abbrev pub InOrder : (e l : ℕ) → List Places → Type 0
InOrder e l [] = Unit {0}
InOrder e l (p ∷ ps) = After e l p.earlier p.later × InOrder p.earlier p.later ps

after_trans : {e l i j i' j' : ℕ} → After e l i j → After i j i' j' → After e l i' j'
after_trans (inl p) (inl q) = inl (omega arith)
after_trans (inl p) (inr q) = inl (omega (arith, q.0))
after_trans (inr p) (inl q) = inl (omega (arith, p.0))
after_trans (inr p) (inr q) = inr (p.0 ∙ q.0, omega (arith, p.1, q.1))

module _ {rs : List Rule} where
  pub in_order : {e l : ℕ} {ps : List Places} → Walk rs e l ps → InOrder e l ps
  in_order (ends n) = tt
  in_order (goes f w) = (f.after, in_order w)

  same_places : {e l a b i j : ℕ} → a ≡ i → b ≡ j → Pair rs a b → After e l a b → Pair rs i j × After e l i j
  same_places {e} {l} {a} {b} {i} {j} p q pr af =
      (subst (λ (m : ℕ). Pair rs i m) q (subst (λ (m : ℕ). Pair rs m b) p pr), subst (λ (m : ℕ). After e l i m) q (subst (λ (m : ℕ). After e l m b) p af))

  -- What is reported overlaps, and comes after where the walk began;
  pub reported_overlaps : {e l i j : ℕ} {ps : List Places} → Walk rs e l ps → Reported i j ps → Pair rs i j × After e l i j
  reported_overlaps (goes f w) (here p q) = same_places p q f.pair f.after
  reported_overlaps (goes f w) (there r) = let u = reported_overlaps w r in (u.0, after_trans f.after u.1)
  reported_overlaps (ends _) x6 = elim x6 [ ]

  -- every pair that overlaps and comes after it is reported.
  pub overlaps_reported : {e l i j : ℕ} {ps : List Places} → Walk rs e l ps → Pair rs i j → After e l i j → Reported i j ps
  overlaps_reported (ends n) p a = absurd (n _ _ p a)
  overlaps_reported {i = i} {j = j} (goes {i = i'} {j = j'} f w) p a =
      ⊎_elim (λ q. there (overlaps_reported w p (inl q)))
      (λ q. elim (dec_le j j') [
        | yes h ↦ here q.0 (omega (arith, q.1))
        | no h ↦ there (overlaps_reported w p (inr (q.0, lt_of_not-le h)))
      ])
      (f.first i j p a)

  -- Every pair comes after (0, 0): from there all are reported.
  pub after_start : {i j : ℕ} → Pair rs i j → After 0 0 i j
  after_start {i} p = elim (dec_le i 0) [
    | yes h ↦ inr (omega arith, omega (arith, p.in_order))
    | no h ↦ inl (lt_of_not-le h)
  ]
