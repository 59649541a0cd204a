-- `list` meets its contract. Assumes nothing.
use mathlib.Core.Path.{◌∙◌, refl, sym}
use native.Mathlib.Omega.{arith}
use Prim.Native.Nat.{ℕ, ◌≤◌}
use lib.ListN.{length, length-replicate, replicate, take}
use lib.Seq.{length-take-le}
use Rattle.text.specs.Laws.Appending.{appended_as}
use Rattle.listing.specs.FileListing.{tree_length}
use Rattle.listing.specs.Laws.Whole.{too_long, whole}
use Rattle.listing.proofs.list.Goals as goal

pub put_listing-requires : goal.put_listing-requires
put_listing-requires c = omega (arith, length-replicate {A = ℕ} tree_length 0)

pub returns-then-is_too_long : goal.returns-then-is_too_long
returns-then-is_too_long c = let end = c.put_listing.result in
    let list = c.put_listing.new.text in
    let within : end ≤ length list = omega (arith, c.put_listing.ensures.within, c.put_listing.auto.text) in record { counted = (within, sym (length-take-le end list within)); listed = appended_as (too_long (take c.args.size c.args.input.now) (omega (arith, length-take-le c.args.size c.args.input.now (omega arith), c.if-is_too_long.true))) (rw c.from-too_long.ensures at c.put_listing.ensures.appended) }

pub slice_bounds-parse_type_name-end : goal.slice_bounds-parse_type_name-end
slice_bounds-parse_type_name-end c = sym (length-take-le _ _ (omega arith))

pub put_listing-requires-2 : goal.put_listing-requires-2
put_listing-requires-2 c = omega (arith, c.parse_type_name-answer.auto.tree ∙ length-replicate {A = ℕ} tree_length 0)

pub returns : goal.returns
returns c = let end = c.put_listing-2.result in
    let list = c.put_listing-2.new.text in
    let within : end ≤ length list = omega (arith, c.put_listing-2.ensures.within, c.put_listing-2.auto.text) in record { counted = (within, sym (length-take-le end list within)); listed = appended_as (whole (take c.args.size c.args.input.now) (replicate tree_length 0) c.parse_type_name-answer.new.tree _ (omega (arith, length-take-le c.args.size c.args.input.now (omega arith), c.if-is_too_long.false)) refl c.parse_type_name-answer.ensures.answered c.parse_type_name-answer.ensures.buffered) c.put_listing-2.ensures.appended }
