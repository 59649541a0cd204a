-- `token_at` meets its contract. Assumes nothing.
use native.Mathlib.Omega.{arith}
use mathlib.Core.Path.{◌∙◌, sym, refl}
use mathlib.Core.Bool.{true, false}
use Rattle.rows.specs.Records.{length_at, kind_at, span_at}
use Rattle.rows.specs.Laws.Tokens.{cut_off, kind_too_great, span_reversed, by_length}
use Rattle.rows.proofs.token.token_at.Goals as goal

pub returns-then-file-plain : goal.returns-then-file-plain
returns-then-file-plain c = cut_off c.args.format c.args.file.now c.args.at _ refl _ refl (omega (arith, c.token_length-plain.ensures.value))

pub returns-then-file-plain-2 : goal.returns-then-file-plain-2
returns-then-file-plain-2 c = cut_off c.args.format c.args.file.now c.args.at _ refl _ refl (omega (arith, c.token_length-plain.ensures.value))

pub returns-then-kind : goal.returns-then-kind
unfolding kind_at
returns-then-kind c = kind_too_great c.args.format c.args.file.now c.args.at _ refl _ c.two_bytes-kind.ensures.value (omega (arith, c.token_length-plain.ensures.value)) c.if-kind.true

pub span-span-requires : goal.span-span-requires
span-span-requires c = (omega (arith, c.token_length-plain.ensures.value))

pub returns-then-span : goal.returns-then-span
unfolding kind_at span_at
returns-then-span c = span_reversed c.args.format c.args.file.now c.args.at _ refl _ c.two_bytes-kind.ensures.value (omega (arith, c.token_length-plain.ensures.value)) c.if-kind.false (rw c.span-span.ensures at c.if-span.true)

pub length_fits-requires : goal.length_fits-requires
unfolding kind_at length_at
length_fits-requires c = ((omega (arith, c.token_length-plain.ensures.value)), c.two_bytes-kind.ensures.value, c.two_bytes-length.ensures.value)

pub returns-then-length_fits : goal.returns-then-length_fits
unfolding kind_at length_at span_at
returns-then-length_fits c = by_length c.args.format c.args.file.now c.args.at _ c.two_bytes-length.ensures.value _ c.two_bytes-kind.ensures.value (omega (arith, c.token_length-plain.ensures.value)) c.if-kind.false (rw c.span-span.ensures at c.if-span.false) true (sym c.if-length_fits.true ∙ c.length_fits.ensures)

pub returns : goal.returns
unfolding kind_at length_at span_at
returns c = by_length c.args.format c.args.file.now c.args.at _ c.two_bytes-length.ensures.value _ c.two_bytes-kind.ensures.value (omega (arith, c.token_length-plain.ensures.value)) c.if-kind.false (rw c.span-span.ensures at c.if-span.false) false (sym c.if-length_fits.false ∙ c.length_fits.ensures)
