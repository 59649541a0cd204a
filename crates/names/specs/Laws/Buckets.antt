-- A word's bucket byte by byte. Assumes nothing.
use Rattle.std.specs.Prelude.{ℕ, ◌+◌, ◌*◌, ◌%◌, ◌≤◌, ◌<◌, ◌≡◌, refl, List, length, drop}
use Rattle.std.proofs.Math.Path.{sym}
use Rattle.std.proofs.Common.{◌∙◌, arith, add-one, drop_of_length-le, drop-cons}
use Rattle.std.proofs.Math.Nat.{mod-lt}
use Rattle.std.proofs.Math.ListN.{get_or}
use Rattle.names.specs.NamesSay.{buckets, factor, bucket_from, bucket_of}

-- The bytes left decide.
pub record BucketLoop (w : List ℕ) (bucket i : ℕ) : Type 0 where
  pub small : bucket < buckets
  pub same : bucket_of w ≡ bucket_from bucket (drop i w)

pub bucket_begins : (w : List ℕ) → BucketLoop w 0 0
unfolding bucket_of
bucket_begins w = record { small = omega arith; same = refl }

module _ {w : List ℕ} {bucket i : ℕ} (l : BucketLoop w bucket i) where
  pub bucket_again : i < length w → BucketLoop w ((bucket * factor + get_or w i 0) % buckets) (i + 1)
  unfolding bucket_from
  bucket_again p = record {
    small = mod-lt (bucket * factor + get_or w i 0) {m = buckets} (omega arith);
    same = l.same ∙ rw (drop-cons w i 0 p, add-one) refl;
  }

  pub bucket_ends : length w ≤ i → bucket ≡ bucket_of w
  unfolding bucket_from
  bucket_ends p = sym (l.same ∙ rw (drop_of_length-le w {i = i} p) refl)
