-- The listing of a file from what the entry says.
-- Assumes nothing.
use Rattle.rows.specs.Answer.{refused_with, Answer}
use Rattle.std.specs.Prelude.{ℕ, ◌≤◌, ◌<◌, ◌≡◌, refl, List, length, replicate}
use Rattle.std.proofs.Common.{ap, ◌∙◌, lt-ltb, le-ltb}
use Rattle.std.proofs.lemmas.List.{length-replicate}
use Rattle.rows.specs.declared.answer.TypeNameError.TheVariants.{FileTooLong}
use Rattle.type_name.specs.Promises.{Answered, Buffered}
use Rattle.listing.specs.Listing.{listing}
use Rattle.listing.specs.FileListing.{file_listing, listing_limit, tree_length}

pub too_long : (file : List ℕ) → listing_limit < length file → listing (refused_with FileTooLong 0) (replicate tree_length 0) ≡ file_listing file
unfolding file_listing
too_long file more = rw (lt-ltb listing_limit (length file) more) refl

-- `before` is lent to the entry, which leaves `tree` in it.
pub whole : (file before tree : List ℕ) (a : Answer) → length file ≤ listing_limit → before ≡ replicate tree_length 0 → Answered file before a → Buffered file before tree → listing a tree ≡ file_listing file
unfolding file_listing
whole file before tree a short zeros e f =
    let long : length before ≡ tree_length = ap length zeros ∙ length-replicate {A = ℕ} tree_length 0 in
    rw (le-ltb listing_limit (length file) short, e, long, f, zeros) refl
