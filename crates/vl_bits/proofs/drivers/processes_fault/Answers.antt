use Rattle.std.proofs.Common.{◌≡◌, ◌<◌, ◌≤◌, ◌∙◌, subst, List, length, get_or}
use Rattle.vl_design.specs.declared.design.Process.{Process}
use Rattle.vl_design.specs.Seen.{placed}
use Rattle.vl_bits.specs.Seen.{names_seen}
use Rattle.vl_bits.specs.Masks.{in_masks}
use Rattle.vl_bits.proofs.Sounds.{process-there}
use Rattle.vl_bits.proofs.Following.{driven-next, first-none, first-next, first-all}
use Rattle.vl_bits.proofs.drivers.processes_fault.Goals as goal

pub loop-a-init : goal.loop-a-init
loop-a-init c = record {
  long = c.requires.long;
  known = c.requires.clear;
  first = first-none (placed c.args.design.now);
}

pub process_again-requires-clause-sound : goal.process_again-requires-clause-sound
process_again-requires-clause-sound c = process-there c.args.design.now (names_seen c.args.m.now) c.as_slice-a-items.result.now c.loop-a.a-index c.a-item.result c.requires.names c.as_slice-a-items.ensures c.loop-a-test.true c.a-item.is c.requires.sound

pub loop-a-preserved : goal.loop-a-preserved
loop-a-preserved c =
    let d = c.args.design.now in
    let names = names_seen c.args.m.now in
    let i = c.loop-a.a-index in
    let y = c.a-item.result in
    let v = c.loop-a.invariant in
    let e = c.in_ok-again.ensures in
    let same = c.as_slice-a-items.ensures in
    let h = subst (λ (z : List Process). i < length z) same c.loop-a-test.true in
    let is = subst (λ (z : List Process). y ≡ get_or z i y) same c.a-item.is in
    record {
      long = e.long ∙ v.long;
      known = λ b. driven-next names b d.processes i y (in_masks c.loop-a.known.items b) (in_masks c.process_again.new.known.items b) h is (e.known b) (v.known b);
      first = first-next d names c.args.m.now.signals.now c.loop-a.known.items i y c.in_ok-again.again c.loop-a.best c.construct_if-best.result c.requires.names c.requires.signals h is v.known e.again c.construct_if-best.ensures v.first;
    }

pub returns : goal.returns
returns c = first-all c.args.design.now c.loop-a.a-index c.loop-a.best (subst (λ (z : List Process). length z ≤ c.loop-a.a-index) c.as_slice-a-items.ensures c.loop-a-test.false) c.loop-a.invariant.first
