use Rattle.std.proofs.Common.{sym, ap, arith}
use Rattle.std.proofs.lemmas.Result.{on_ok_weaker}
use Rattle.vl_design.specs.declared.design.Form.{Form}
use Rattle.vl_eval.specs.Rooms.{names_of}
use Rattle.cell_emit.specs.cell_form.specs.Views.{list_of}
use Rattle.cell_emit.proofs.Assigning.{signal-there}
use Rattle.cell_emit.proofs.Staying.{always-stays}
use Rattle.cell_emit.specs.Pendings.{slots_of}
use Rattle.cell_emit.proofs.Keeping.{pending-stays}
use Rattle.cell_expr.proofs.Spotting.{room-one, of-signal, of-memory}
use Rattle.cell_expr.proofs.Storing.{spot-whole, spot-word}
use Rattle.cell_expr.proofs.spot.delay_one.Goals as goal

pub delay-requires-clause-signal : goal.delay-requires-clause-signal
delay-requires-clause-signal c =
    let names = names_of c.args.room.now in
    let x = c.args.spot in
    let (first, spot) = c.requires.first in
    let signal = (of-signal names first (list_of c.args.cells.now) x.signal x.word c.in-None.is spot.is_of).0 in
    let many = c.requires.many in
    let there = signal-there names.rows x.signal signal in (
      names,
      record {
        one = room-one c.args.room.now;
        pending = c.requires.pending;
        is_signal = signal;
        width = sym (ap (λ (f : Form). f.width) c.signal_form-wide.ensures.value);
        there = omega (arith, many, there);
      },
    )

pub returns-in-None-clause-delays : goal.returns-in-None-clause-delays
returns-in-None-clause-delays c =
    let names = names_of c.args.room.now in
    let x = c.args.spot in
    let (first, spot) = c.requires.first in
    let signal = (of-signal names first (list_of c.args.cells.now) x.signal x.word c.in-None.is spot.is_of).0 in
    let many = c.requires.many in
    let there = signal-there names.rows x.signal signal in
    on_ok_weaker c.delay.result
    (spot-whole names x c.args.part c.args.off c.signal_form-wide.result.width (slots_of c.args.pending.now) (slots_of c.delay.new.pending) (list_of c.args.cells.now) (list_of c.delay.new.cells) c.in-None.is
    (record {
      one = room-one c.args.room.now;
      pending = c.requires.pending;
      is_signal = signal;
      width = sym (ap (λ (f : Form). f.width) c.signal_form-wide.ensures.value);
      there = omega (arith, many, there);
    }))
    c.delay.ensures.delays

pub delay_word-requires-clause-zero : goal.delay_word-requires-clause-zero
delay_word-requires-clause-zero c = always-stays (list_of c.args.cells.now) (list_of c.choose.new.cells) c.args.here 0 c.in_ok-chosen-in-Some.ensures.grows c.requires.here.there c.requires.zero

pub delay_word-requires-clause-memory : goal.delay_word-requires-clause-memory
delay_word-requires-clause-memory c =
    let names = names_of c.args.room.now in
    let x = c.args.spot in
    let l0 = list_of c.args.cells.now in
    let (first, spot) = c.requires.first in (
      names,
      record {
        pending = pending-stays names l0 (list_of c.choose.new.cells) (slots_of c.args.pending.now) c.in_ok-chosen-in-Some.ensures.grows c.requires.pending;
        is_memory = (of-memory names first l0 x.signal x.word c.in-Some.address c.in-Some.is spot.is_of).0;
        width = sym (ap (λ (f : Form). f.width) c.signal_form-wide.ensures.value);
      },
    )

pub returns-in_ok-chosen-in-Some-clause-delays : goal.returns-in_ok-chosen-in-Some-clause-delays
returns-in_ok-chosen-in-Some-clause-delays c =
    let names = names_of c.args.room.now in
    let x = c.args.spot in
    let a = c.in-Some.address in
    let chosen = c.in_ok-chosen-in-Some.chosen in
    let l0 = list_of c.args.cells.now in
    let l1 = list_of c.choose.new.cells in
    let l2 = list_of c.delay_word.new.cells in
    let p = slots_of c.args.pending.now in
    let g = c.in_ok-chosen-in-Some.ensures.grows in
    let (first, spot) = c.requires.first in
    on_ok_weaker c.delay_word.result
    (spot-word names first x a c.args.here c.args.part c.args.off c.signal_form-wide.result.width chosen.enable chosen.number p (slots_of c.delay_word.new.pending) l0 l1 l2 c.in-Some.is spot c.requires.pending c.requires.part.there
    (always-stays l0 l1 c.args.here 0 g c.requires.here.there c.requires.zero) c.in_ok-chosen-in-Some.ensures.chooses
    (record {
      pending = pending-stays names l0 l1 p g c.requires.pending;
      is_memory = (of-memory names first l0 x.signal x.word a c.in-Some.is spot.is_of).0;
      width = sym (ap (λ (f : Form). f.width) c.signal_form-wide.ensures.value);
    }))
    c.delay_word.ensures.delays
