use Rattle.ten_shell.specs.Shells.{run_of}
use Rattle.ten_shell.proofs.shell.Shell.done.Goals as goal

pub returns : goal.returns
returns c = λ b n i w. c.done.ensures b (run_of c.args.self.now) w.order n i w.at
