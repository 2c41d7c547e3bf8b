use Rattle.std.proofs.Common.{ap, ◌∙◌}
use Rattle.std.specs.Prelude.{◌==◌}
use Rattle.ten_core.proofs.Places.{boundary-is}
use Rattle.ten_core.specs.Tenants.{tenant_of}
use Rattle.ten_core.specs.declared.origin.Origin.{Origin}
use Rattle.ten_core.proofs.engine.Engine.at_boundary.Goals as goal

pub returns : goal.returns
returns c b o order n i at =
    ap (λ (x : Origin). c.args.self.now.next == x.image.rise) c.deref.ensures ∙ boundary-is o order (tenant_of c.args.self.now b) n i at
