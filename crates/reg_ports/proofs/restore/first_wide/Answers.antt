use Rattle.std.proofs.Common.{false, arith, get_or, length, ◌<◌, refl}
use Rattle.std.proofs.lemmas.List.{get_or_default}
use Rattle.cell_form.specs.declared.bank.Port.{Port}
use Rattle.reg_ports.proofs.Loops.{checked-none, checked-more, checked-wide, checked-all}
use Rattle.reg_ports.proofs.restore.first_wide.Goals as goal

pub loop-port-init : goal.loop-port-init
loop-port-init c = checked-none c.args.ports.now c.args.words.now c.requires.many

pub loop-port-preserved : goal.loop-port-preserved
loop-port-preserved c =
    let ports = c.args.ports.now in
    let i = c.loop-port.port-index in
    let d : Port = record { mem = false; value = 0; work = 0; width = 0; words = 0 } in
    let lt : i < length ports = omega arith in
    checked-more ports c.args.words.now i (get_or ports i d) c.loop-port.before c.loop-port.left.now lt (get_or_default ports i d (get_or ports i d) lt) c.loop-port.invariant
    c.split_at.result.0.now c.split_at.result.1.now c.word_count.result _ c.word_count.ensures c.split_at.ensures.front c.split_at.ensures.back refl c.in_default.ensures.none

pub returns-in-Some-clause-some : goal.returns-in-Some-clause-some
returns-in-Some-clause-some c =
    let ports = c.args.ports.now in
    let i = c.loop-port.port-index in
    let d : Port = record { mem = false; value = 0; work = 0; width = 0; words = 0 } in
    let lt : i < length ports = omega arith in
    checked-wide ports c.args.words.now i (get_or ports i d) c.loop-port.before c.loop-port.left.now lt (get_or_default ports i d (get_or ports i d) lt) c.loop-port.invariant
    c.split_at.result.0.now c.word_count.result c.in-Some.number _ c.word_count.ensures c.split_at.ensures.front refl c.in-Some.ensures.there c.in-Some.ensures.wide c.in-Some.ensures.first c.requires.many

pub returns-clause-none : goal.returns-clause-none
returns-clause-none c = checked-all c.args.ports.now c.args.words.now c.loop-port.port-index c.loop-port.before c.loop-port.left.now (omega arith) c.requires.many c.loop-port.invariant
