-- The loops that fill and compare lists of numbers.
-- Assumes nothing.
use Rattle.std.specs.Prelude.{ℕ, suc, ◌+◌, ◌*◌, ◌≤◌, ◌<◌, ◌≡◌, Bool, true, false, List, [], ◌∷◌, ◌++◌, length, take, drop, set, get_or, eqb, if◌then◌else◌}
use Rattle.std.proofs.Math.Path.{refl, sym}
use Rattle.std.proofs.Common.{ap, ◌∙◌, arith, add-zero, zero-add, add-one, length-append, drop_of_length-le, length-take-le, eqb-true, eq-eqb, ne_eqb, lt-ltb, le-ltb}
use Rattle.std.proofs.Math.ListN.{length-set}
use Rattle.std.proofs.Math.Seq.{take-suc-set, take-length, drop-cons}
use Rattle.rows.specs.Records.{little_endian}
use Rattle.replay.specs.Replay.{number_bytes, number_at, numbers, first_difference, agree}

-- ---- filling

pub number_stored : (stored : List ℕ) (count behind i n : ℕ) → i < count → n ≡ little_endian number_bytes stored (number_bytes * i) → n ≡ number_at stored count behind i
unfolding number_at
number_stored stored count behind i n less e = rw (lt-ltb i count less) e

pub number_behind : (stored : List ℕ) (count behind i : ℕ) → count ≤ i → behind ≡ number_at stored count behind i
unfolding number_at
number_behind stored count behind i past = rw (le-ltb i count past) refl

-- The first i places hold their numbers.
pub record Filling (entry stored : List ℕ) (count behind : ℕ) (list : List ℕ) (i : ℕ) : Type 0 where
  pub within : i ≤ length list
  pub long : length list ≡ length entry
  pub so_far : take i list ≡ numbers stored count behind i

module _ {entry stored : List ℕ} {count behind : ℕ} where
  pub filling_start : Filling entry stored count behind entry 0
  unfolding numbers
  filling_start = record { within = omega arith; long = refl; so_far = refl }

  pub filling_on : {list : List ℕ} {i n : ℕ} → Filling entry stored count behind list i → i < length list → n ≡ number_at stored count behind i → Filling entry stored count behind (set list i n) (i + 1)
  unfolding numbers
  filling_on {list} {i} {n} f less e = rw (add-one i) (record {
    within = rw (length-set list i n) (omega arith);
    long = length-set list i n ∙ f.long;
    so_far = take-suc-set list i n less ∙ rw (f.so_far, e) refl;
  })

  pub filling_end : {list : List ℕ} {i : ℕ} → Filling entry stored count behind list i → length list ≤ i → list ≡ numbers stored count behind (length entry)
  filling_end {list} {i} f past =
      let whole : i ≡ length list = omega (arith, f.within, past) in
      sym (take-length list) ∙ ap (λ (k : ℕ). take k list) (sym whole) ∙ f.so_far ∙ ap (numbers stored count behind) (whole ∙ f.long)

-- A part at the front that was lent is still as long.
pub part_long : (n : ℕ) (ys xs : List ℕ) → length ys ≡ length (take n xs) → n ≤ length xs → length (take n (ys ++ drop n xs)) ≡ n
part_long n ys xs kept within =
    let long : length ys ≡ n = kept ∙ length-take-le n xs within in
    length-take-le n (ys ++ drop n xs) (simp length-append (omega (arith, long)))

-- ---- comparing

-- The first `at` numbers agree.
pub record Comparing (xs ys : List ℕ) (at : ℕ) : Type 0 where
  pub within : at ≤ length xs
  pub so_far : first_difference xs ys ≡ at + first_difference (drop at xs) (drop at ys)

module _ (xs ys : List ℕ) where
  pub comparing_start : Comparing xs ys 0
  comparing_start = record { within = omega arith; so_far = sym (zero-add (first_difference xs ys)) }

  -- The first number that is left, on both sides.
  next : (at : ℕ) → at < length xs → length xs ≡ length ys → first_difference (drop at xs) (drop at ys) ≡ (if eqb (get_or xs at 0) (get_or ys at 0) then suc (first_difference (drop (suc at) xs) (drop (suc at) ys)) else 0)
  unfolding first_difference
  next at less same = rw (drop-cons xs at 0 less, drop-cons ys at 0 (omega (arith, same, less))) refl

  pub comparing_on : {at : ℕ} → Comparing xs ys at → at < length xs → length xs ≡ length ys → get_or xs at 0 ≡ get_or ys at 0 → Comparing xs ys (at + 1)
  comparing_on {at} c less same e =
      let here : first_difference (drop at xs) (drop at ys) ≡ suc (first_difference (drop (suc at) xs) (drop (suc at) ys)) = next at less same ∙ rw (eq-eqb (get_or xs at 0) (get_or ys at 0) e) refl in
      rw (add-one at) (record { within = omega arith; so_far = omega (arith, c.so_far, here) })

  pub comparing_found : {at : ℕ} → Comparing xs ys at → at < length xs → length xs ≡ length ys → (get_or xs at 0 ≡ get_or ys at 0 → ⊥) → at ≡ first_difference xs ys
  comparing_found {at} c less same e =
      let here : first_difference (drop at xs) (drop at ys) ≡ 0 = next at less same ∙ rw (ne_eqb (get_or xs at 0) (get_or ys at 0) e) refl in
      omega (arith, c.so_far, here)

  pub comparing_end : {at : ℕ} → Comparing xs ys at → length xs ≤ at → at ≡ first_difference xs ys
  unfolding first_difference
  comparing_end {at} c past = sym (c.so_far ∙ rw (drop_of_length-le xs past) (add-zero at))

-- The test of the comparison is sound: what agrees is equal.
equal_if_agree : (xs ys : List ℕ) → length xs ≡ length ys → first_difference xs ys ≡ length xs → xs ≡ ys
unfolding first_difference
equal_if_agree [] [] l e = refl
equal_if_agree [] (y ∷ ys) l e = absurd (omega (arith, l))
equal_if_agree (x ∷ xs) [] l e = absurd (omega (arith, l))
equal_if_agree (x ∷ xs) (y ∷ ys) l e = go (eqb x y) refl e (equal_if_agree xs ys (omega (arith, l))) where
  go : (b : Bool) → eqb x y ≡ b → (if b then suc (first_difference xs ys) else 0) ≡ suc (length xs) → (first_difference xs ys ≡ length xs → xs ≡ ys) → x ∷ xs ≡ y ∷ ys
  go true t e rest = rw (eqb-true x y t, rest (omega (arith, e))) refl
  go false t e rest = absurd (omega (arith, e))

pub agree_so : (xs ys : List ℕ) (at : ℕ) → at ≡ first_difference xs ys → at ≡ length xs → true ≡ agree xs ys
unfolding agree
agree_so xs ys at e f = sym (eq-eqb (first_difference xs ys) (length xs) (sym e ∙ f))

pub agree_not : (xs ys : List ℕ) (at : ℕ) → at ≡ first_difference xs ys → (at ≡ length xs → ⊥) → false ≡ agree xs ys
unfolding agree
agree_not xs ys at e f = sym (ne_eqb (first_difference xs ys) (length xs) (λ g. f (e ∙ g)))

pub equal : (xs ys : List ℕ) → length xs ≡ length ys → agree xs ys ≡ true → xs ≡ ys
unfolding agree
equal xs ys l e = equal_if_agree xs ys l (eqb-true (first_difference xs ys) (length xs) e)
