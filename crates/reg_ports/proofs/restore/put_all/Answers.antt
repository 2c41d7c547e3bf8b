use Rattle.std.proofs.Common.{false, arith, get_or, length, ◌<◌}
use Rattle.std.proofs.lemmas.List.{get_or_default}
use Rattle.cell_form.specs.declared.bank.Port.{Port}
use Rattle.cell_form.specs.Views.{bank_of}
use Rattle.reg_ports.proofs.Loops.{put-none, put-more}
use Rattle.reg_ports.proofs.restore.put_all.Goals as goal

pub loop-port-init : goal.loop-port-init
loop-port-init c = put-none c.args.ports.now c.args.words.now (bank_of c.args.bank.now) c.requires.ports c.requires.words

pub loop-port-preserved : goal.loop-port-preserved
loop-port-preserved c =
    let ports = c.args.ports.now in
    let i = c.loop-port.port-index in
    let d : Port = record { mem = false; value = 0; work = 0; width = 0; words = 0 } in
    let lt : i < length ports = omega arith in
    put-more ports c.args.words.now (bank_of c.args.bank.now) i (get_or ports i d) c.loop-port.left.now (bank_of c.loop-port.bank) lt (get_or_default ports i d (get_or ports i d) lt) c.loop-port.invariant
    c.split_at.result.0.now c.split_at.result.1.now c.word_count.result (bank_of c.put.new.bank) c.word_count.ensures c.split_at.ensures.front c.split_at.ensures.back c.put.ensures
