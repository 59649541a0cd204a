-- A row's tokens by number: which have a kind, and the row from one of them on.
-- Assumes nothing.
use Rattle.std.specs.Prelude.{ℕ, suc, ◌≤◌, ◌<◌, ◌≡◌, ◌≢◌, List, ◌∷◌, length, get_or, drop}
use Rattle.std.proofs.Common.{arith}
use Rattle.std.proofs.Math.Decide.{dec_le}
use Rattle.std.proofs.Math.Nat.{lt_of_not-le}
use Rattle.std.proofs.Math.ListN.{get_or-eq_default}
use Rattle.std.proofs.Math.Seq.{drop-cons}
use Rattle.rows.specs.Kinds.{NoToken}
use Rattle.rows.specs.Laws.Lookups.{any_default, past_default}
use Rattle.reader.specs.Reading.{kind_at}

-- What the row module has checked of every token.
abbrev pub KindsKnown : List ℕ → Type 0
KindsKnown row = (i : ℕ) → i < length row → kind_at row i < NoToken

module _ (row : List ℕ) where
  -- What has a kind is a token of the row,
  pub inside : (a : ℕ) → kind_at row a ≢ NoToken → a < length row
  unfolding kind_at
  inside a q = elim (dec_le (length row) a) [ yes h ↦ absurd (q (get_or-eq_default row NoToken h)) | no h ↦ lt_of_not-le h ]

  -- and every token has one.
  pub past_end : KindsKnown row → (a : ℕ) → kind_at row a ≡ NoToken → length row ≤ a
  past_end ks a e = elim (dec_le (length row) a) [ yes h ↦ h | no h ↦ absurd (omega (arith, ks a (lt_of_not-le h))) ]

  pub taken : (a : ℕ) → kind_at row a ≢ NoToken → drop a row ≡ kind_at row a ∷ drop (suc a) row
  unfolding kind_at
  taken a q = drop-cons row a NoToken (inside a q)

-- ---- a token's kind, as code reads it

module _ (row : List ℕ) (a : ℕ) where
  pub kind_in : a < length row → get_or row a 0 ≡ kind_at row a
  unfolding kind_at
  kind_in h = any_default row a 0 NoToken h

  pub kind_out : length row ≤ a → NoToken ≡ kind_at row a
  unfolding kind_at
  kind_out h = past_default row a NoToken h
