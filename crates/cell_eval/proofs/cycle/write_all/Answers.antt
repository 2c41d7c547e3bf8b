use Rattle.std.proofs.Common.{◌<◌, length, arith}
use Rattle.cell_form.specs.declared.cell.Write.TheVariants.{Reg}
use Rattle.cell_form.specs.Views.{bank_of}
use Rattle.cell_eval.proofs.Filling.{written-none, written-fit, written-next, written-all}
use Rattle.cell_eval.proofs.cycle.write_all.Goals as goal

pub loop-number-init : goal.loop-number-init
loop-number-init c = written-none c.args.sets.now (bank_of c.args.bank.now) c.requires

pub write-requires : goal.write-requires
write-requires c =
    let lt : c.loop-number.number < length c.args.sets.now = omega arith in
    written-fit c.args.sets.now c.loop-number.number (bank_of c.args.bank.now) (bank_of c.loop-number.bank) (Reg 0 0) lt c.loop-number.invariant

pub loop-number-preserved : goal.loop-number-preserved
loop-number-preserved c =
    let lt : c.loop-number.number < length c.args.sets.now = omega arith in
    written-next c.args.sets.now c.loop-number.number (bank_of c.args.bank.now) (bank_of c.loop-number.bank) (bank_of c.write.new.bank) (Reg 0 0) lt c.loop-number.invariant c.write.ensures

pub returns : goal.returns
returns c = written-all c.args.sets.now c.loop-number.number (bank_of c.args.bank.now) (bank_of c.loop-number.bank) (omega arith) c.loop-number.invariant
