-- `add_name` meets its contract. Assumes nothing.
use mathlib.Core.Path.{◌∙◌, ap}
use Rattle.names.specs.NamesSay.{bucket_of}
use Rattle.names.specs.Laws.Tables.{table_there, some_chain, looks, adds_none, adds_one, one_more, some_place_free, some_link_free}
use Rattle.names.proofs.table.NameTable.add_name.Goals as goal

pub word_there-name-requires : goal.word_there-name-requires
word_there-name-requires c = c.requires.1

pub in_chain-requires : goal.in_chain-requires
in_chain-requires c = some_chain _ c.bucket_of-bucket.ensures.value c.bucket_of-bucket.ensures.small c.from.ensures (table_there c.args.self.now.held)

pub returns-then-in_chain-clause-added : goal.returns-then-in_chain-clause-added
returns-then-in_chain-clause-added c = adds_none (looks _ (c.bucket_of-bucket.ensures.value ∙ ap bucket_of c.word_there-name.ensures) c.bucket_of-bucket.ensures.small c.from.ensures (rw c.word_there-name.ensures at c.in_chain.ensures)) c.if-in_chain.true

pub invariant_of-self : goal.invariant_of-self
invariant_of-self c = record { held = some_place_free c.args.self.now.held _ }

pub invariant_of-self-2 : goal.invariant_of-self-2
invariant_of-self-2 c = record { held = some_link_free (some_place_free c.args.self.now.held _) _ }

pub invariant_of-self-3 : goal.invariant_of-self-3
invariant_of-self-3 c = record { held = one_more (looks _ (c.bucket_of-bucket.ensures.value ∙ ap bucket_of c.word_there-name.ensures) c.bucket_of-bucket.ensures.small c.from.ensures (rw c.word_there-name.ensures at c.in_chain.ensures)) c.requires.0 c.requires.1 (c.bucket_of-bucket.ensures.value ∙ ap bucket_of c.word_there-name.ensures) c.bucket_of-bucket.ensures.small c.if-in_chain.false c.args.self.now.held }

pub returns-clause-added : goal.returns-clause-added
returns-clause-added c = adds_one (looks _ (c.bucket_of-bucket.ensures.value ∙ ap bucket_of c.word_there-name.ensures) c.bucket_of-bucket.ensures.small c.from.ensures (rw c.word_there-name.ensures at c.in_chain.ensures)) c.requires.0 c.requires.1 (c.bucket_of-bucket.ensures.value ∙ ap bucket_of c.word_there-name.ensures) c.bucket_of-bucket.ensures.small c.if-in_chain.false
