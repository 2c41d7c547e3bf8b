use Rattle.std.proofs.Common.{◌≡◌, ◌<◌, subst, List, length, get_or}
use Rattle.vl_design.specs.declared.design.Process.{Process}
use Rattle.vl_design.specs.Seen.{placed}
use Rattle.vl_check.proofs.Following.{told-next, faults-next}
use Rattle.vl_check.proofs.processes.processes_fault.Goals as goal

pub loop-a-preserved : goal.loop-a-preserved
loop-a-preserved c =
    let d = c.args.design.now in
    let i = c.loop-a.a-index in
    let y = c.a-item.result in
    let v = c.loop-a.invariant in
    let e = c.in_ok-first.ensures in
    let same = c.as_slice-a-items.ensures in
    let h = subst (λ (z : List Process). i < length z) same c.loop-a-test.true in
    let is = subst (λ (z : List Process). y ≡ get_or z i y) same c.a-item.is in
    record {
      marks_long = e.long;
      clean = e.clean;
      long = e.notes.long;
      told = told-next (length d.signals) d.processes i y c.loop-a.writers c.process_fault.new.writers h is v.told e.notes;
      rest = faults-next (placed d) d.processes i y c.loop-a.writers c.loop-a.first c.in_ok-first.first _ h is v.told e.stop v.rest;
    }
