use Rattle.std.proofs.Common.{ℕ, List, subst, ◌∙◌}
use Rattle.ten_core.specs.cell_form.specs.Views.{bank_of}
use Rattle.ten_core.specs.declared.origin.Origin.{Origin}
use Rattle.ten_zero.specs.Early.{IsBehindZero}
use Rattle.ten_core.specs.Begins.{flat_in}
use Rattle.ten_parcel.specs.Loads.{IsEngineAt}
use Rattle.ten_parcel.proofs.LoadingOfLoad.{begins-anew}
use Rattle.ten_parcel.proofs.load.begin_anew.Goals as goal

pub returns : goal.returns
returns c =
    let x = c.args.origin in
    let d = flat_in x in
    let early = c.in_ok-early.early in
    let rows = c.open_table-table.result in
    let e = c.engine_at.result in
    let behind = subst (λ (order : List ℕ). IsBehindZero d x.files order early) c.as_slice.ensures.value c.in_ok-early.ensures in
    let at = subst (λ (y : Origin). IsEngineAt y rows early.machine early.acts e) c.in_ok-origin-2.ensures.ok c.engine_at.ensures in
    begins-anew x c.requires.begins (c.one_node_rises.ensures d) (c.other_nodes_lead_to_others.ensures.rise d) rows e (bank_of c.in_ok-bank.bank)
    c.requires.start early behind c.if-early.false c.in_ok-bank.ensures (c.open_table-table.ensures.table ∙ c.deref.ensures.value)
    c.open_table-table.ensures.fits at
