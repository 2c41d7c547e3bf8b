-- Runs of a tenants' design can be resumed from their snapshots.
use Rattle.std.proofs.Common.{◌≡◌, ℕ, true, false, List, Option, Some, None, refl, ◌∙◌}
use Rattle.std.specs.Prelude.{slice_get}
use Rattle.vl_loops.specs.vl_design.specs.declared.design.SigKind.{SigKind}
use Rattle.vl_loops.specs.vl_design.specs.declared.design.SigKind.TheVariants.{Net, Var, Comb, Loop, Mem, Clock}
use Rattle.vl_loops.specs.vl_design.specs.Sound.{HasValue}
use Rattle.vl_loops.specs.vl_design.specs.Syntax.{Row, Flat}
use Rattle.sub_runs.specs.vl_runs.specs.Computed.{is_computed, is_computed_row}
use Rattle.sub_runs.specs.vl_runs.specs.NetsOfSettle.{is_memory}
use Rattle.sub_runs.specs.vl_sites.specs.Answers.{AsksBehindCalls}
use Rattle.sub_runs.specs.Again.{CanGoOn}
use Rattle.sub_runs.specs.Nets.{HasNarrowNets}
use Rattle.ten_make.specs.cell_emit.specs.Envs.{HasOneWord}
use Rattle.ten_make.specs.cell_expr.proofs.Wording.{many-words}
use Rattle.ten_make.specs.Designs.{IsTenantDesign}

-- a computed signal has a value
has-value : (kind : SigKind) → is_computed kind ≡ true → HasValue kind
has-value Net h = tt
has-value Var h = tt
has-value Comb h = tt
has-value Loop h = tt
has-value Mem h = absurd (cc)
has-value Clock h = tt

narrow-nets : (d : Flat) → HasOneWord d.rows → HasNarrowNets d
narrow-nets d one = record { words = λ k h. at k (slice_get d.rows k) refl h }
  where
    at : (k : ℕ) (o : Option Row) → slice_get d.rows k ≡ o → is_computed_row o ≡ true → is_memory d.rows k ≡ false
    at k None e h = absurd (cc)
    at k (Some r) e h = rw (many-words d.rows k r e ∙ one.one k r e (has-value r.kind h)) refl

pub can-go-on : (d : Flat) (order : List ℕ) → IsTenantDesign d order → AsksBehindCalls d → CanGoOn d order
can-go-on d order tenant asks = record {
  unrolled = tenant.unrolled;
  checked = tenant.checked;
  ordered = tenant.ordered;
  nets = tenant.nets;
  narrow = narrow-nets d tenant.words;
  answers = asks;
  others = tenant.others;
}
