-- The image of an accepted design of a text is one of the text.
use Rattle.std.proofs.Common.{◌≡◌, ◌≤◌, List, ℕ, length, refl, sym, ap, ◌∙◌, subst}
use Rattle.std.specs.Prelude.{Result, Ok, Err, IfOk, All, map}
use Rattle.elab_laws.specs.vl_tree.specs.declared.source_tree.Source.{Source}
use Rattle.vl_loops.specs.vl_design.specs.Costs.{saturated_cost}
use Rattle.vl_loops.specs.vl_design.specs.declared.capacity.Cost.{Cost}
use Rattle.vl_loops.specs.vl_design.specs.Alone.{Origin}
use Rattle.vl_loops.specs.vl_design.specs.Cost.{cost}
use Rattle.vl_loops.specs.vl_design.specs.Laws.{IsUnrolled}
use Rattle.vl_loops.specs.vl_design.specs.Observed.{IsSameRun}
use Rattle.vl_loops.specs.vl_design.specs.Placed as p
use Rattle.vl_loops.specs.vl_design.specs.Plainly as plain
use Rattle.vl_loops.specs.vl_design.specs.Rows.{range_width, row_of}
use Rattle.vl_loops.specs.vl_design.specs.Sound.{IsWidth}
use Rattle.vl_loops.specs.vl_design.specs.Syntax.{Flat, Row}
use Rattle.vl_loops.specs.vl_design.specs.Trees.{flat_of}
use Rattle.sub_runs.specs.vl_sites.specs.Own.{HasOwnFunctions}
use Rattle.elab_laws.specs.vl_check.specs.Written.{HasWriters}
use Rattle.vl_loops.specs.Fits.{CanUnroll}
use Rattle.vl_loops.specs.Unroll.{unrolled_flat}
use Rattle.vl_loops.proofs.Placing.{flat_plain}
use Rattle.elab_laws.specs.vl_accept.specs.Fit.{IsFit}
use Rattle.elab_laws.specs.vl_sound.specs.Meeting.{IsElaboration}
use Rattle.elab_laws.specs.vl_accept.specs.declared.accept.Accepted.{Accepted}
use Rattle.elab_laws.specs.vl_accept.specs.Accepted.{Stands}
use Rattle.elab_laws.specs.vl_accept.proofs.Fitting.{unrolls}
use Rattle.vl_front.specs.Sources.{StandsFor, IsAcceptedOf}
use Rattle.ten_make.specs.ten_core.specs.declared.image.Image.{Image}
use Rattle.ten_make.specs.ten_core.specs.Tenants.{IsImage}
use Rattle.ten_make.specs.Designs.{IsTenantDesign}
use Rattle.ten_make.specs.Within.{IsWithinCost}
use Rattle.elab_laws.specs.ten_plan.specs.Written.{HasRows}
use Rattle.elab_laws.specs.Limited.{IsLimited}
use Rattle.sub_runs.specs.vl_sites.specs.Answers.{AsksBehindCalls}
use Rattle.sub_runs.specs.Again.{CanGoOn}
use Rattle.ten_build.specs.Builds.{RunsAs, IsImageOf, HasCost}
use Rattle.ten_build.proofs.Resuming.{can-go-on}

-- what two facts of a result say together
pub both : {T E : Type 0} (r : Result T E) (P Q R : T → Type 0) → ((x : T) → P x → Q x → R x) → IfOk r P → IfOk r Q → IfOk r R
both (Ok x) P Q R f p q = f x p q
both (Err e) P Q R f p q = tt

-- the laws that are called
abbrev pub Fits : Type 0
Fits = (s : Source) (d : p.Design) → IsElaboration s (Ok d) → IsFit d

abbrev pub Owns : Type 0
Owns = (s : Source) (d : p.Design) → IsElaboration s (Ok d) → HasOwnFunctions d

abbrev pub Writes : Type 0
Writes = (s : Source) (d : p.Design) → IsElaboration s (Ok d) → HasWriters d

abbrev pub Lets : Type 0
Lets = (d : p.Design) (a : Accepted) → IsFit d → HasOwnFunctions d → HasWriters d → Stands d a → length a.design.signals ≤ 268435456 → IsTenantDesign (flat_of a.design) a.order.items

abbrev pub Unrolls : Type 0
Unrolls = (o : Origin) → CanUnroll o.flat → IsSameRun o (record o { flat = unrolled_flat o.flat })

abbrev pub Costs : Type 0
Costs = (d : Flat) → cost (unrolled_flat d) ≡ cost d

abbrev pub Loopless : Type 0
Loopless = (d : Flat) → IsUnrolled (unrolled_flat d)

abbrev pub Limits : Type 0
Limits = (s : Source) (d : p.Design) → IsElaboration s (Ok d) → IsLimited d

abbrev pub Rows : Type 0
Rows = (d : p.Design) → IsLimited d → All (λ r. IsWidth (range_width r.left r.right)) d.signals → HasRows (map row_of d.signals)

abbrev pub Asks : Type 0
Asks = (s : Source) (d : p.Design) → IsElaboration s (Ok d) → AsksBehindCalls (plain.flat d)

abbrev pub AsksStill : Type 0
AsksStill = (d : p.Design) (a : Accepted) → IsFit d → AsksBehindCalls (plain.flat d) → Stands d a → AsksBehindCalls (flat_of a.design)

module _ (text : List ℕ) (a : Accepted) (is : IsAcceptedOf text a) where
  abbrev d : p.Design
  d = is.flat

  stands-for : StandsFor text (plain.flat d)
  stands-for = record { flat = d; of = is.of; accepted = is.stands.accepted; is = refl }

  pub tenant : Fits → Owns → Writes → Lets → length a.design.signals ≤ 268435456 → IsTenantDesign (flat_of a.design) a.order.items
  tenant fits owns writes lets few =
      let s = is.of.tree in
      let e = is.of.elaborated in
      lets d a (fits s d e) (owns s d e) (writes s d e) is.stands few

  fit-of : Fits → IsFit d
  fit-of fits = fits is.of.tree d is.of.elaborated

  same : Fits → flat_of a.design ≡ unrolled_flat (plain.flat d)
  same fits = ap plain.flat is.stands.design ∙ flat_plain d (unrolls d (fit-of fits) is.stands.accepted.uses)

  pub is-unrolled : Fits → Loopless → IsUnrolled (flat_of a.design)
  is-unrolled fits loopless = subst IsUnrolled (sym (same fits)) (loopless (plain.flat d))

  pub has-cost : (c : Cost) → Fits → Costs → c ≡ saturated_cost (cost (flat_of a.design)) → HasCost text c
  has-cost c fits costs is-cost = record {
    design = plain.flat d;
    stands = stands-for;
    is = is-cost ∙ ap saturated_cost (ap cost (same fits) ∙ costs (plain.flat d));
  }

  module _ (fits : Fits) (unroll : Unrolls) (costs : Costs) (limits : Limits) (rows : Rows) (asks : Asks) (still : AsksStill) where
    fit : IsFit d
    fit = fit-of fits

    flat-same : flat_of a.design ≡ unrolled_flat (plain.flat d)
    flat-same = same fits

    runs : RunsAs (flat_of a.design) (plain.flat d)
    runs =
        let can = unrolls d fit is.stands.accepted.uses in
        record {
          same = λ o e. subst (λ (x : Flat). IsSameRun o (record o { flat = x })) (ap unrolled_flat e ∙ sym flat-same) (unroll o (subst CanUnroll (sym e) can));
          rows = ap (λ (x : Flat). x.rows) flat-same;
          cost = ap cost flat-same ∙ costs (plain.flat d);
        }

    names : HasRows (flat_of a.design).rows
    names =
        subst (λ (xs : List Row). HasRows xs) (sym (ap (λ (x : Flat). x.rows) flat-same)) (rows d (limits is.of.tree d is.of.elaborated) fit.signals)

    goes-on : IsTenantDesign (flat_of a.design) a.order.items → CanGoOn (flat_of a.design) a.order.items
    goes-on tenants =
        can-go-on (flat_of a.design) a.order.items tenants (still d a fit (asks is.of.tree d is.of.elaborated) is.stands)

    pub is-image : (image : Image) → IsImage (flat_of a.design) a.order.items image → IsTenantDesign (flat_of a.design) a.order.items → IsWithinCost (flat_of a.design) image → IsImageOf text image
    is-image image made tenants within = record {
      design = plain.flat d;
      stands = stands-for;
      runs = subst (λ (x : Flat). RunsAs x (plain.flat d)) made.design runs;
      order = a.order.items;
      image_is = subst (λ (x : Flat). IsImage x a.order.items image) made.design made;
      tenant = subst (λ (x : Flat). IsTenantDesign x a.order.items) made.design tenants;
      names = subst (λ (x : Flat). HasRows x.rows) made.design names;
      within = subst (λ (x : Flat). IsWithinCost x image) made.design within;
      goes_on = subst (λ (x : Flat). CanGoOn x a.order.items) made.design (goes-on tenants);
    }
