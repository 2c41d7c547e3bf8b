use Rattle.std.proofs.Common.{sym, ◌∙◌}
use Rattle.vl_hex.proofs.Loads.{word-there, word-past}
use Rattle.vl_hex.proofs.load.load_word.Goals as goal

pub returns-then-number-memory : goal.returns-then-number-memory
returns-then-number-memory c v more e = word-past c.args.memory.width c.args.memory.lowest c.args.memory.count c.args.number v more c.args.words.now c.if-number-memory.true

pub returns : goal.returns
returns c v more e =
    rw c.set.ensures
    (word-there c.args.memory.width c.args.memory.lowest c.args.memory.count c.args.number v c.resize.result.value more c.args.words.now c.if-number-memory.false (e ∙ sym c.resize.ensures.value))
