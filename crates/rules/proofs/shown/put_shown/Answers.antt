-- `put_shown` meets its contract. Assumes nothing.
use Rattle.std.proofs.Common.{rules}
use Rattle.text.specs.Laws.Appending.{puts_front}
use Rattle.rules.proofs.shown.put_shown.Goals as goal

pub put_both-requires : goal.put_both-requires
put_both-requires c = let empty = c.new-items.ensures.begins in (c.requires.0, c.requires.1, rw (empty.0, empty.1) c.requires.2)

pub returns : goal.returns
returns c = record {
  says = λ p q s t.
      let both = c.put_both.ensures.says p q s t in
      let put = puts_front c.new-items.ensures.begins both in
      search (rules, both, put);
}
