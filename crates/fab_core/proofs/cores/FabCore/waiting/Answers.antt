use Rattle.std.proofs.Common.{length, ap, ◌∙◌}
use Rattle.fab_core.proofs.Residents.{waiting-long}
use Rattle.fab_core.proofs.cores.FabCore.waiting.Goals as goal

pub returns : goal.returns
returns c = λ f h. ap length c.as_slice.ensures.value ∙ waiting-long c.args.self.now.line.items f.line h.line
