use Rattle.std.proofs.Common.{refl}
use Rattle.reg_ports.proofs.Holding.{bank-word}
use Rattle.reg_ports.proofs.port.set_word.Goals as goal

pub returns : goal.returns
returns c =
    let b = c.args.bank.now in
    bank-word (λ m. m.items) c.args.port b.regs.items b.slots.items b.mems.items _ _ c.requires.memory c.args.word c.args.value c.requires.port c.requires.word c.index_mut-words.ensures.value refl
