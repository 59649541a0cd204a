-- `read_records` meets its contract. The loop's invariant: the tokens so far stand in front of the arrays. Assumes nothing.
use mathlib.Core.Path.{sym, ◌∙◌}
use native.Mathlib.Omega.{arith}
use Rattle.rows.specs.Laws.Tokens.{formed_fits}
use Rattle.rows.specs.Laws.RowLoop.{loop_begins, loop_full, loop_malformed, loop_token, loop_ends}
use Rattle.rows.proofs.row.read_records.Goals as goal

pub loop-at-init : goal.loop-at-init
loop-at-init c = loop_begins _ _ _ _ _ _ _

pub shape_of-kinds-then-count-most : goal.shape_of-kinds-then-count-most
shape_of-kinds-then-count-most c = c.loop-at.invariant.kinds_so_far.long

pub shape_of-words-then-count-most : goal.shape_of-words-then-count-most
shape_of-words-then-count-most c = c.loop-at.invariant.words_so_far.long

pub shape_of-places-then-count-most : goal.shape_of-places-then-count-most
shape_of-places-then-count-most c = c.loop-at.invariant.places_so_far.long

pub returns-then-count-most : goal.returns-then-count-most
returns-then-count-most c = record { answered = loop_full c.loop-at.invariant c.if-count-most.true }

pub shape_of-kinds-in_default : goal.shape_of-kinds-in_default
shape_of-kinds-in_default c = c.loop-at.invariant.kinds_so_far.long

pub shape_of-words-in_default : goal.shape_of-words-in_default
shape_of-words-in_default c = c.loop-at.invariant.words_so_far.long

pub shape_of-places-in_default : goal.shape_of-places-in_default
shape_of-places-in_default c = c.loop-at.invariant.places_so_far.long

pub returns-in_default : goal.returns-in_default
returns-in_default c = record { answered = loop_malformed c.loop-at.invariant (omega arith) c.if-count-most.false (sym c.token_at-found.ensures ∙ c.in_default.is) }

pub overflow_add-word : goal.overflow_add-word
overflow_add-word c = let fit = formed_fits c.args.format _ _ _ _ (sym c.token_at-found.ensures ∙ c.in-Some.is) in omega (arith, c.token_length-plain.ensures.value)

pub overflow_add-next : goal.overflow_add-next
overflow_add-next c = let fit = formed_fits c.args.format _ _ _ _ (sym c.token_at-found.ensures ∙ c.in-Some.is) in omega (arith, c.token_length-plain.ensures.value)

pub bounds-kinds-count : goal.bounds-kinds-count
bounds-kinds-count c = omega (arith, c.loop-at.invariant.kinds_so_far.long, c.requires.for_kinds, c.loop-at.invariant.few, c.if-count-most.false)

pub slice_bounds-number_of_word-count : goal.slice_bounds-number_of_word-count
slice_bounds-number_of_word-count c = let fit = formed_fits c.args.format _ _ _ _ (sym c.token_at-found.ensures ∙ c.in-Some.is) in omega (arith, c.token_length-plain.ensures.value)

pub slice_bounds-number_of_word-start : goal.slice_bounds-number_of_word-start
slice_bounds-number_of_word-start c = let fit = formed_fits c.args.format _ _ _ _ (sym c.token_at-found.ensures ∙ c.in-Some.is) in omega (arith, c.token_length-plain.ensures.value)

pub slice_bounds-number_of_word-end : goal.slice_bounds-number_of_word-end
slice_bounds-number_of_word-end c = let fit = formed_fits c.args.format _ _ _ _ (sym c.token_at-found.ensures ∙ c.in-Some.is) in omega (arith, c.token_length-plain.ensures.value)

pub bounds-words-count : goal.bounds-words-count
bounds-words-count c = omega (arith, c.loop-at.invariant.words_so_far.long, c.requires.for_words, c.loop-at.invariant.few, c.if-count-most.false)

pub overflow_cast-places : goal.overflow_cast-places
overflow_cast-places c = omega (arith, c.requires.offsets_fit)

pub offset_bounds-places-count : goal.offset_bounds-places-count
offset_bounds-places-count c = omega (arith, c.loop-at.invariant.passed, c.loop-at-test.true, c.requires.offsets_fit)

pub bounds-places-count : goal.bounds-places-count
bounds-places-count c = omega (arith, c.loop-at.invariant.places_so_far.long, c.requires.for_places, c.loop-at.invariant.few, c.if-count-most.false)

pub overflow_add-count : goal.overflow_add-count
overflow_add-count c = omega (arith, c.loop-at.invariant.few, c.if-count-most.false)

pub loop-at-smaller : goal.loop-at-smaller
loop-at-smaller c = let fit = formed_fits c.args.format _ _ _ _ (sym c.token_at-found.ensures ∙ c.in-Some.is) in omega (arith, c.token_length-plain.ensures.value)

pub loop-at-preserved : goal.loop-at-preserved
loop-at-preserved c = loop_token c.loop-at.invariant c.requires (omega arith) c.if-count-most.false _ _ (sym c.token_at-found.ensures ∙ c.in-Some.is) _ (rw c.token_length-plain.ensures.value at c.number_of_word.ensures)

pub shape_of-kinds : goal.shape_of-kinds
shape_of-kinds c = c.loop-at.invariant.kinds_so_far.long

pub shape_of-words : goal.shape_of-words
shape_of-words c = c.loop-at.invariant.words_so_far.long

pub shape_of-places : goal.shape_of-places
shape_of-places c = c.loop-at.invariant.places_so_far.long

pub returns : goal.returns
returns c = record { answered = loop_ends c.loop-at.invariant (omega arith) }
