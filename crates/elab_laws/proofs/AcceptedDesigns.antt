-- Accepted designs with their loops unrolled.
use Rattle.std.proofs.Common.{sym, ap, ◌∙◌, subst}
use Rattle.ten_plan.specs.vl_design.specs.Placed as p
use Rattle.ten_plan.specs.vl_design.specs.Plainly as plain
use Rattle.ten_plan.specs.vl_design.specs.Syntax.{Flat}
use Rattle.ten_plan.specs.vl_design.specs.Trees.{flat_of}
use Rattle.vl_accept.specs.vl_loops.specs.Unroll.{unrolled_flat}
use Rattle.vl_accept.specs.vl_loops.proofs.Placing.{flat_plain}
use Rattle.vl_accept.specs.Fit.{IsFit}
use Rattle.vl_accept.specs.declared.accept.Accepted.{Accepted}
use Rattle.vl_accept.specs.Accepted.{Stands}
use Rattle.vl_accept.proofs.Fitting.{unrolls}
use Rattle.vl_accept.specs.vl_sites.specs.Answers.{AsksBehindCalls}
use Rattle.vl_accept.specs.vl_sites.specs.Others.{WritesNoOthers}
use Rattle.elab_laws.specs.Names.{NamesSaves}
use Rattle.elab_laws.proofs.Unrolled.{flat-asks, flat-names}
use Rattle.elab_laws.proofs.Others.{flat-leaves}

module _ (d : p.Design) (a : Accepted) (fit : IsFit d) (s : Stands d a) where
  -- what the unrolled design meets, the program's meets
  there : (P : Flat → Type 0) → P (unrolled_flat (plain.flat d)) → P (flat_of a.design)
  there P h = subst P (sym (ap plain.flat s.design ∙ flat_plain d (unrolls d fit s.accepted.uses))) h

  pub accepted-asks : AsksBehindCalls (plain.flat d) → AsksBehindCalls (flat_of a.design)
  accepted-asks h = there AsksBehindCalls (flat-asks (plain.flat d) h)

  pub accepted-leaves : WritesNoOthers (flat_of a.design)
  accepted-leaves = there WritesNoOthers (flat-leaves d s.accepted)

  pub accepted-names : NamesSaves (plain.flat d) → NamesSaves (flat_of a.design)
  accepted-names h = there NamesSaves (flat-names (plain.flat d) h)
