-- `hand_over` meets its contract. Assumes nothing.
use native.Mathlib.Omega.{arith}
use Rattle.convert.specs.Laws.WriteLoop.{short_answer, short_output, written_answer, written_output}
use Rattle.convert.proofs.entry.hand_over.Goals as goal

pub returns-then-output-bytes : goal.returns-then-output-bytes
returns-then-output-bytes c = record { answered = short_answer c.args.from c.args.to c.args.standard c.args.file.now c.args.output.now (omega (arith, c.if-output-bytes.true, c.requires.counts)); written = short_output c.args.from c.args.to c.args.standard c.args.file.now c.args.output.now (omega (arith, c.if-output-bytes.true, c.requires.counts)) }

pub put_file-written-requires : goal.put_file-written-requires
put_file-written-requires c = record { sound = c.requires.sound; room = (omega (arith, c.if-output-bytes.false, c.requires.counts)) }

pub overflow_cast-result : goal.overflow_cast-result
overflow_cast-result c = omega (arith, c.put_file-written.ensures.counts, c.requires.counts, c.requires.small)

pub returns : goal.returns
returns c = record { answered = written_answer c.args.from c.args.to c.args.standard c.args.file.now c.args.output.now (omega (arith, c.if-output-bytes.false, c.requires.counts)) c.put_file-written.ensures; written = written_output c.args.from c.args.to c.args.standard c.args.file.now c.args.output.now (omega (arith, c.if-output-bytes.false, c.requires.counts)) c.put_file-written.ensures }
