use Rattle.std.proofs.lemmas.List.Elements.{All-from_recursion}
use Rattle.ten_files.specs.vl_design.specs.Cost as design
use Rattle.fab_orders.specs.ten_parcel.specs.Parcels.{run_of, IsParcel}
use Rattle.fab_orders.specs.declared.outcomes.Start.{Start}
use Rattle.host_outcomes.proofs.Making.{cost-at, number-within}
use Rattle.host_outcomes.proofs.tenants.begun_of.Goals as goal

pub bounds-starts-number_among : goal.bounds-starts-number_among
bounds-starts-number_among c =
    number-within c.args.refusals.now c.args.starts.now c.args.n c.number_among.result c.index-refusals-n.result c.requires.number c.index-refusals-n.is c.in-None.is c.requires.running c.number_among.ensures

pub returns-in-None-clause-cost : goal.returns-in-None-clause-cost
returns-in-None-clause-cost c =
    cost-at (λ (s : Start). design.cost (run_of s.transit.parcel).flat) c.args.refusals.now c.args.starts.now c.args.n c.number_among.result c.index-refusals-n.result c.index-starts-number_among.result
    c.requires.number c.index-refusals-n.is c.in-None.is c.requires.running c.number_among.ensures

pub returns-in-None-clause-parcel : goal.returns-in-None-clause-parcel
returns-in-None-clause-parcel c =
    All-from_recursion (λ (s : Start). IsParcel s.transit.parcel) c.args.starts.now c.requires.parcels c.number_among.result c.index-starts-number_among.result
    (number-within c.args.refusals.now c.args.starts.now c.args.n c.number_among.result c.index-refusals-n.result c.requires.number c.index-refusals-n.is c.in-None.is c.requires.running c.number_among.ensures)
