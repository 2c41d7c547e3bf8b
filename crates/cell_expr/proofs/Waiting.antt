-- Where nothing is pending.
use Rattle.std.proofs.Common.{refl, arith}
use Rattle.vl_design.specs.Width.{Names}
use Rattle.cell_emit.specs.cell_form.specs.Data.{ListData}
use Rattle.cell_emit.specs.Pendings.{ArePending}
use Rattle.cell_expr.specs.Bodies.{nothing_waits}

pub none-pending : (names : Names) (l : ListData) → ArePending names l nothing_waits
none-pending names l = record { many = refl; update = λ k h. tt; mask = λ k h. tt; sites = λ i d h. absurd (omega arith) }
