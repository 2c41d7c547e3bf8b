use Rattle.std.proofs.Common.{◌≡◌, ◌∙◌, ◌+◌, ap, sym, drop, length, []}
use Rattle.std.proofs.lemmas.List.{drop_all}
use Rattle.vl_design.specs.declared.design.Form.{Form}
use Rattle.vl_design.specs.Exec.{labels_form}
use Rattle.vl_design.specs.Trees.{exp_of, exps_of, flat_of}
use Rattle.vl_design.specs.Width.{names_of, form}
use Rattle.ten_form.specs.sub_nodes.specs.Cycles.{ways_form}
use Rattle.cell_calls.specs.Next.{ways_view}
use Rattle.cell_calls.proofs.Ways.{ways-read}
use Rattle.cell_calls.proofs.next.ways_context.Goals as goal

pub loop-way-init : goal.loop-way-init
loop-way-init c =
    let names = names_of (flat_of c.args.design.now) in
    let is = rw c.room_of.ensures.names at c.form_of-all.ensures.value in
    record { width = c.form_of-all.ensures.width; leads = ap (λ (f : Form). ways_form names f (ways_view c.args.ways.now)) is }

pub labels_form-all-requires-clause-form : goal.labels_form-all-requires-clause-form
labels_form-all-requires-clause-form c = c.loop-way.invariant.width

pub loop-way-preserved : goal.loop-way-preserved
loop-way-preserved c =
    let names = names_of (flat_of c.args.design.now) in
    let ws = c.args.ways.now in
    let i = c.loop-way.way-index in
    let x = c.way-item.result in
    let rest = ways_view (drop (i + 1) ws) in
    record {
      width = c.labels_form-all.ensures.width;
      leads = ap (λ (f : Form). ways_form names f rest) c.labels_form-all.ensures.value
          ∙ sym (ap (ways_form names c.loop-way.all) (ways-read ws i x c.loop-way-test.true c.way-item.is)) ∙ c.loop-way.invariant.leads;
    }

pub returns-clause-value : goal.returns-clause-value
returns-clause-value c =
    let names = names_of (flat_of c.args.design.now) in
    sym (ap (λ ws. ways_form names c.loop-way.all (ways_view ws)) (drop_all c.loop-way.way-index c.args.ways.now c.loop-way-test.false)) ∙ c.loop-way.invariant.leads

pub returns-clause-width : goal.returns-clause-width
returns-clause-width c = c.loop-way.invariant.width
