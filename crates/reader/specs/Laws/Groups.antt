-- Every G and B has its opener's partner, and below it stand exactly the nodes whose token lies between the two: by node numbers, as the records have them.
-- Assumes nothing.
use Rattle.std.specs.Prelude.{ℕ, ◌<◌, ◌≡◌, ◌↔◌, ◌⊎◌, T}
use Rattle.std.proofs.Common.{sym, ap, ◌∙◌, inl, inr, arith}
use mathlib.Core.List.{List, Memᴰ}
use Rattle.prescan.specs.Matcher.{Pair, Paired}
use Rattle.reader.specs.Nodes.{NodeKind, t_node, g_node, b_node, l_node, a_node, number, Nodes, count, records}
use Rattle.reader.specs.Derivation.{RowDerived}
use Rattle.reader.specs.Standing.{Below, IsGroup}
use Rattle.reader.specs.Nodes.{token_of}
use Rattle.reader.specs.Laws.Tokens.{KindsKnown}
use Rattle.reader.specs.Laws.NodeNumbers.{in_count, says, numbered, in_extent}
use Rattle.reader.specs.Laws.Brackets.{bracket, Partner, partnered}
use Rattle.reader.specs.Laws.Partner.{one_partner}

is_bracket : (k : NodeKind) → (number k ≡ number g_node) ⊎ (number k ≡ number b_node) → T (bracket k)
unfolding number
is_bracket t_node (inl e) = absurd (omega arith)
is_bracket t_node (inr e) = absurd (omega arith)
is_bracket g_node e = tt
is_bracket b_node e = tt
is_bracket l_node (inl e) = absurd (omega arith)
is_bracket l_node (inr e) = absurd (omega arith)
is_bracket a_node (inl e) = absurd (omega arith)
is_bracket a_node (inr e) = absurd (omega arith)

module _ (row : List ℕ) (known : KindsKnown row) (pairs : List Pair) (paired : Paired row pairs) {inner : ℕ → ℕ} {x : Nodes} (d : RowDerived row inner x) where
  partner_at : (n : ℕ) (lt : n < count x) → IsGroup (records x) n → Partner pairs x (numbered x n lt).stands
  partner_at n lt g =
      let v = numbered x n lt in
      let s = says v in
      let k : (number v.the_kind ≡ number g_node) ⊎ (number v.the_kind ≡ number b_node) =
      elim g [ inl u ↦ inl (sym s.the_kind ∙ u) | inr u ↦ inr (sym s.the_kind ∙ u) ] in
      partnered row known pairs paired d v.the_kind v.the_token v.beneath (is_bracket v.the_kind k) v.stands

  pub partner : (n : ℕ) → n < count x → IsGroup (records x) n → (p : Pair) × Memᴰ p pairs × (p.opener ≡ token_of (records x) n)
  partner n lt g =
      let v = numbered x n lt in
      let q = partner_at n lt g in
      (record { opener = v.the_token; closer = q.j }, q.paired, sym (says v).the_token)

  pub below_each : (n n' : ℕ) → n < count x → n' < count x → IsGroup (records x) n → (p : Pair) → Memᴰ p pairs → p.opener ≡ token_of (records x) n
      → Below (records x) n n' ↔ ((p.opener < token_of (records x) n') × (token_of (records x) n' < p.closer))
  below_each n n' lt lt' g p mem eq =
      let u = numbered x n lt in
      let v = numbered x n' lt' in
      let s = says u in
      let s' = says v in
      let q = partner_at n lt g in
      let same : p ≡ record { opener = u.the_token; closer = q.j } = one_partner row pairs paired p _ mem q.paired (eq ∙ s.the_token) in
      let i : p.opener ≡ u.the_token = ap (λ (p : Pair). p.opener) same in
      let j : p.closer ≡ q.j = ap (λ (p : Pair). p.closer) same in (
        λ b.
            let w = in_extent u.stands v.stands (omega (arith, u.placed, v.placed, b)) (omega (arith, u.placed, v.placed, b, s.the_extent)) in
            omega (arith, q.holds v.the_kind v.the_token v.beneath w, i, j, s'.the_token),
        λ t.
            let w = q.only v.the_kind v.the_token v.beneath v.stands (omega (arith, t, i, s'.the_token)) (omega (arith, t, j, s'.the_token)) in
            omega (arith, w.1, in_count w.0, u.placed, v.placed, s.the_extent),
      )
