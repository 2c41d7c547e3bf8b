use Rattle.std.proofs.Common.{ap, subst, ◌∙◌}
use Rattle.vl_eval.specs.vl_design.specs.State.{State}
use Rattle.ten_core.specs.cell_form.specs.Views.{bank_of}
use Rattle.ten_core.specs.declared.origin.Origin.{Origin}
use Rattle.ten_core.specs.Begins.{flat_in}
use Rattle.ten_parcel.specs.Loads.{IsEngineAt}
use Rattle.ten_parcel.proofs.LoadingOfLoad.{begins-again}
use Rattle.ten_parcel.proofs.load.begin_again.Goals as goal

pub returns : goal.returns
returns c =
    let x = c.args.origin in
    let can = c.requires.begins in
    let d = flat_in x in
    let h = c.in-Some.held in
    let m = c.in_ok-machine-in-Some.machine in
    let b = bank_of c.in_ok-bank-in-Some.bank in
    let rows = c.open_table-table.result in
    let e = c.engine_at.result in
    let state = c.in_ok-machine-in-Some.ensures.state in
    let at = subst (λ (y : Origin). IsEngineAt y rows m 0 e) c.in_ok-origin-in-Some.ensures.ok c.engine_at.ensures in
    begins-again x can (c.one_node_rises.ensures d) (c.other_nodes_lead_to_others.ensures.rise d) rows e b h c.in-Some.is m
    (λ node s holds. c.settled_nets_change_no_bank.ensures d x.image.order.items x.files node b s can.held holds) c.in_ok-bank-in-Some.ensures
    (c.open_table-table.ensures.table ∙ c.as_slice.ensures) c.open_table-table.ensures.fits
    (ap (λ (s : State). s.printed) state) (ap (λ (s : State). s.saves) state) (ap (λ (s : State). s.ticks) state) at
