use Rattle.std.proofs.Common.{◌∙◌, ap, sym, cond, Some}
use Rattle.vl_design.specs.declared.design.End.TheVariants.{Stopped}
use Rattle.vl_design.specs.Alone.{reason_at}
use Rattle.ten_shell.specs.Shells.{run_of}
use Rattle.ten_shell.proofs.shell.Shell.end.Goals as goal

pub returns-else-self : goal.returns-else-self
returns-else-self c = λ b n i q w r at.
    c.reason.ensures b n i q w r at ∙ sym (ap (λ x. cond x (Some Stopped) (reason_at (run_of c.args.self.now).plan i.state.ticks q)) c.if-self.false)
