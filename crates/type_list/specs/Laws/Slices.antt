-- The kinds and the word numbers of some of a row's tokens. Assumes nothing.
use Rattle.std.specs.Prelude.{ℕ, zero, suc, ◌<◌, ◌≡◌, refl, List, [], ◌∷◌, ◌++◌, map, length, get_or, take, drop}
use Rattle.std.proofs.Common.{ap, arith}
use Rattle.rows.specs.Records.{RowToken, kinds_of, words_of}

module _ (f : RowToken → ℕ) where
  map_take : (n : ℕ) (ts : List RowToken) → map f (take n ts) ≡ take n (map f ts)
  map_take zero ts = refl
  map_take (suc n) [] = refl
  map_take (suc n) (t ∷ ts) = ap (λ (l : List ℕ). f t ∷ l) (map_take n ts)

  map_drop : (n : ℕ) (ts : List RowToken) → map f (drop n ts) ≡ drop n (map f ts)
  map_drop zero ts = refl
  map_drop (suc n) [] = refl
  map_drop (suc n) (t ∷ ts) = map_drop n ts

  map_length : (ts : List RowToken) → length (map f ts) ≡ length ts
  map_length [] = refl
  map_length (t ∷ ts) = ap suc (map_length ts)

pub kinds_take : (n : ℕ) (ts : List RowToken) → kinds_of (take n ts) ≡ take n (kinds_of ts)
unfolding kinds_of
kinds_take = map_take _

pub kinds_drop : (n : ℕ) (ts : List RowToken) → kinds_of (drop n ts) ≡ drop n (kinds_of ts)
unfolding kinds_of
kinds_drop = map_drop _

pub kinds_length : (ts : List RowToken) → length (kinds_of ts) ≡ length ts
unfolding kinds_of
kinds_length = map_length _

pub words_take : (n : ℕ) (ts : List RowToken) → words_of (take n ts) ≡ take n (words_of ts)
unfolding words_of
words_take = map_take _

pub words_drop : (n : ℕ) (ts : List RowToken) → words_of (drop n ts) ≡ drop n (words_of ts)
unfolding words_of
words_drop = map_drop _

-- A token of a row, what stands before it and what stands behind it.
pub split_token : (n : ℕ) (ts : List RowToken) → n < length ts → (t : RowToken) × (ts ≡ take n ts ++ t ∷ drop (suc n) ts) × (t.kind ≡ get_or (kinds_of ts) n 0)
unfolding kinds_of
split_token n [] p = absurd (omega arith)
split_token zero (t ∷ ts) p = (t, refl, refl)
split_token (suc n) (t ∷ ts) p = let (u, e, k) = split_token n ts (omega arith) in (u, ap (λ (l : List RowToken). t ∷ l) e, k)
