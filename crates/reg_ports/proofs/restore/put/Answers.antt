use Rattle.std.proofs.Common.{refl, ap, ◌∙◌}
use Rattle.reg_ports.proofs.Holding.{over, bank-refill}
use Rattle.reg_ports.proofs.restore.put.Goals as goal

pub returns-then-port : goal.returns-then-port
returns-then-port c =
    let b = c.args.bank.now in
    let old = c.index_mut-words.result.now in
    bank-refill (λ m. m.items) c.args.port b.regs.items b.slots.items b.mems.items old _ c.if-port.true c.args.own.now c.put_front.new.words old.len c.requires.port c.requires.own c.index_mut-words.ensures.value
    old.ok.0 (c.put_front.ensures ∙ ap (over c.args.own.now) c.as_mut_slice.ensures.value) refl
