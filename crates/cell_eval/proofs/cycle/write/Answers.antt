use Rattle.std.proofs.Common.{arith}
use Rattle.std.proofs.lemmas.List.{length-map}
use Rattle.cell_eval.proofs.Filling.{wrote-word}
use Rattle.cell_eval.proofs.cycle.write.Goals as goal

pub returns-then-index-ne0 : goal.returns-then-index-ne0
returns-then-index-ne0 c =
    let fits = rw c.in-Mem.is at c.requires in
    rw c.in-Mem.is
    (wrote-word (λ m. m.items) c.args.bank.now.regs.items c.args.bank.now.slots.items c.args.bank.now.mems.items c.in-Mem.memory c.in-Mem.enable c.in-Mem.word c.in-Mem.new c.in-Mem.mask _ _ _ _ _ _
    (rw length-map at fits.0) (omega (arith, fits.1.1), omega (arith, fits.2.1), omega (arith, fits.3.1), omega (arith, fits.4.1))
    c.index-in-Mem.ensures c.if-index-ne0.true c.index-word.ensures c.index-new.ensures c.index-mask.ensures c.index_mut-words.ensures.value c.put_word.ensures)
