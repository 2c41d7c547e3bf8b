use Rattle.std.proofs.Common.{suc, sym, ◌∙◌}
use Rattle.std.specs.Prelude.{if◌then◌else◌}
use Rattle.ten_core.specs.Runs.{after_call, after_cycle}
use Rattle.ten_shell.specs.Shells.{run_of}
use Rattle.ten_parcel.proofs.Running.{ready-cycles}
use Rattle.ten_parcel.proofs.tenant.Tenant.advance.Goals as goal

pub returns-then-self-clause-nearer : goal.returns-then-self-clause-nearer
returns-then-self-clause-nearer c n i r on =
    let s = c.args.self.now.shell in
    let w = r.on in
    record {
      acts = suc n;
      stage = after_call (run_of s) i;
      on = c.in_ok-serve.ensures.call c.if-self.true n i w;
      fewer = c.each_act_comes_nearer.ensures.call_nearer (run_of s) w.order n i w.running (sym w.at.waits ∙ c.if-self.true);
    }

pub returns-clause-nearer : goal.returns-clause-nearer
returns-clause-nearer c n i r on =
    let s = c.args.self.now.shell in
    let w = r.on in
    record {
      acts = if c.cycle.new.self.shell.engine.waits then n else suc n;
      stage = after_cycle (run_of s) w.order i;
      on = c.cycle.ensures.point n i w (ready-cycles c.args.self.now n i r c.if-self.false on);
      fewer = c.each_act_comes_nearer.ensures.cycle_nearer (run_of s) w.order n i w.running on (sym w.at.waits ∙ c.if-self.false);
    }
