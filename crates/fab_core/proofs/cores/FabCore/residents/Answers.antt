use Rattle.std.proofs.Common.{length, ap, ◌∙◌}
use Rattle.fab_core.proofs.Residents.{standing-long}
use Rattle.fab_core.proofs.cores.FabCore.residents.Goals as goal

pub returns : goal.returns
returns c = λ f h. ap length c.as_slice.ensures.value ∙ standing-long c.args.self.now.joined c.args.self.now.residents.items f.residents h.residents
