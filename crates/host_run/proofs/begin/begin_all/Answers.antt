use Rattle.std.proofs.Common.{length, ap, sym, subst, arith}
use Rattle.std.specs.Prelude.{All}
use Rattle.std.proofs.lemmas.List.{length-map}
use Rattle.fab_rounds.specs.ten_shell.specs.Shells.{CanRunOn}
use Rattle.host_judge.specs.declared.verdict.Ready.{Ready}
use Rattle.host_run.proofs.Placed.{begun_as, can_run, labelled_as, started_as}
use Rattle.host_run.proofs.begin.begin_all.Goals as goal

pub begin_parts-requires-clause-can : goal.begin_parts-requires-clause-can
begin_parts-requires-clause-can c = subst (All CanRunOn) (sym c.in_ok-parts.ensures.origins) (can_run c.args.fabrics.now c.args.readies.items c.requires.ready)

pub begin_parts-requires-clause-few : goal.begin_parts-requires-clause-few
begin_parts-requires-clause-few c = omega (arith, ap length c.in_ok-parts.ensures.origins, length-map c.args.readies.items (λ (r : Ready). r.origin))

pub begin_parts-requires-clause-beside : goal.begin_parts-requires-clause-beside
begin_parts-requires-clause-beside c = omega (
  arith,
  ap length c.in_ok-parts.ensures.origins,
  ap length c.in_ok-parts.ensures.fabrics,
  length-map c.args.readies.items (λ (r : Ready). r.origin),
  length-map c.args.readies.items (λ (r : Ready). r.fabric),
)

pub returns-clause-labels : goal.returns-clause-labels
returns-clause-labels c = labelled_as c.in_ok-parts.parts.fabrics.items c.in_ok-parts.parts.origins.items c.begin_parts.result c.begin_parts.ensures.labels c.begin_parts.ensures.starts

pub returns-clause-starts : goal.returns-clause-starts
returns-clause-starts c =
    started_as c.args.fabrics.now c.args.readies.items c.in_ok-parts.parts.fabrics.items c.in_ok-parts.parts.origins.items c.in_ok-parts.ensures.fabrics c.in_ok-parts.ensures.origins c.requires.ready
    c.begin_parts.result c.begin_parts.ensures.starts c.begin_parts.ensures.room

pub returns-clause-begun : goal.returns-clause-begun
returns-clause-begun c =
    begun_as c.args.readies.items c.in_ok-parts.parts.fabrics.items c.in_ok-parts.parts.origins.items c.in_ok-parts.ensures.fabrics c.in_ok-parts.ensures.origins c.begin_parts.result c.begin_parts.ensures.starts
