use Rattle.std.proofs.lemmas.List.Elements.{All-from_recursion}
use Rattle.ten_files.specs.vl_design.specs.Cost as design
use Rattle.fab_orders.specs.ten_parcel.specs.Parcels.{run_of, IsParcel}
use Rattle.host_report.specs.fab_model.specs.declared.transit.Transit.{Transit}
use Rattle.host_outcomes.proofs.Making.{cost-at, number-within}
use Rattle.host_outcomes.proofs.tenants.ended_of.Goals as goal

pub bounds-ended-number_among : goal.bounds-ended-number_among
bounds-ended-number_among c =
    number-within c.args.refusals.now c.args.ended.now c.args.n c.number_among.result c.index-refusals-n.result c.requires.number c.index-refusals-n.is c.in-None.is c.requires.running c.number_among.ensures

pub returns-in-None-clause-cost : goal.returns-in-None-clause-cost
returns-in-None-clause-cost c =
    cost-at (λ (e : Transit). design.cost (run_of e.parcel).flat) c.args.refusals.now c.args.ended.now c.args.n c.number_among.result c.index-refusals-n.result c.index-ended-number_among.result
    c.requires.number c.index-refusals-n.is c.in-None.is c.requires.running c.number_among.ensures

pub returns-in-None-clause-parcel : goal.returns-in-None-clause-parcel
returns-in-None-clause-parcel c =
    All-from_recursion (λ (e : Transit). IsParcel e.parcel) c.args.ended.now c.requires.parcels c.number_among.result c.index-ended-number_among.result
    (number-within c.args.refusals.now c.args.ended.now c.args.n c.number_among.result c.index-refusals-n.result c.requires.number c.index-refusals-n.is c.in-None.is c.requires.running c.number_among.ensures)
