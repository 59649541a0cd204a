-- What the laws of the reading ask of a row holds of every row that a file gives: its kinds are token kinds, and words stand only at kind 0.
-- Assumes nothing.
use Rattle.std.specs.Prelude.{ℕ, zero, suc, ◌≡◌, refl, List, [], ◌∷◌}
use Rattle.std.proofs.Common.{ap, arith}
use Rattle.rows.specs.Records.{RowToken, kinds_of}
use Rattle.rows.specs.Laws.RowFacts.{GoodTokens}
use Rattle.reader.specs.Reading.{kind_at}
use Rattle.reader.specs.Laws.Tokens.{KindsKnown}
use Rattle.reader.specs.Laws.WrittenOut.{kinds_in, Worded}
use Rattle.type_name.specs.Promises.{tokens_in}

pub kinds_known : (ts : List RowToken) → GoodTokens ts → KindsKnown (kinds_of ts)
unfolding kinds_of kind_at
kinds_known [] g i p = absurd (omega arith)
kinds_known (t ∷ ts) g zero p = omega (arith, g.0.known)
kinds_known (t ∷ ts) g (suc i) p = kinds_known ts g.1 i (omega arith)

pub worded : (ts : List RowToken) → GoodTokens ts → Worded (tokens_in ts)
worded [] g i p q = absurd (omega arith)
worded (t ∷ ts) g zero p q = g.0.wordless q
worded (t ∷ ts) g (suc i) p q = worded ts g.1 i (omega arith) q

pub same_kinds : (ts : List RowToken) → kinds_in (tokens_in ts) ≡ kinds_of ts
unfolding kinds_of
same_kinds [] = refl
same_kinds (t ∷ ts) = ap (λ (ks : List ℕ). t.kind ∷ ks) (same_kinds ts)
