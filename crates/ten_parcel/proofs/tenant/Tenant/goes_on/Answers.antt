use Rattle.std.proofs.Common.{ap, not, sym, ◌∙◌}
use Rattle.std.specs.Prelude.{slice_get}
use Rattle.vl_eval.specs.vl_base.proofs.Booleans.{and_right}
use Rattle.ten_core.specs.cell_form.specs.Views.{bank_of}
use Rattle.sub_nodes.specs.Code.{table_of}
use Rattle.sub_nodes.specs.Cycles.{rises}
use Rattle.ten_core.specs.Running.{ends_at}
use Rattle.ten_shell.specs.Shells.{flat_in, run_of}
use Rattle.ten_shell.proofs.Tests.{right-false}
use Rattle.ten_parcel.proofs.Running.{told-done, told-between, told-boundary, rising-rests, ready-all, ready-rests, turned}
use Rattle.ten_parcel.proofs.tenant.Tenant.goes_on.Goals as goal

pub end-requires : goal.end-requires
end-requires c =
    let t = c.args.self.now in
    let r = c.requires in
    let i = r.1 in
    let b = bank_of t.bank in
    let up = rises (slice_get (table_of (flat_in t.shell)).nodes i.node) in
    let there = and_right (not i.state.finished) up (sym (c.at_boundary.ensures b r.0 i r.2.on) ∙ c.if-at_boundary.true) in
    (b, r.0, i, r.2.on, ready-rests t r.0 i r.2 (rising-rests i.state.finished up there))

pub returns-then-done : goal.returns-then-done
returns-then-done c n i w =
    let t = c.args.self.now in
    told-done i.state.finished (rises (slice_get (table_of (flat_in t.shell)).nodes i.node)) (ends_at (run_of t.shell).plan i.state.ticks)
    (sym (c.done.ensures (bank_of t.bank) n i w) ∙ c.if-done.true)

pub returns-then-at_boundary : goal.returns-then-at_boundary
returns-then-at_boundary c n i w =
    let t = c.args.self.now in
    let b = bank_of t.bank in
    let r = c.requires in
    let up = rises (slice_get (table_of (flat_in t.shell)).nodes i.node) in
    let alive = sym (c.done.ensures b n i w) ∙ c.if-done.false in
    let there = and_right (not i.state.finished) up (sym (c.at_boundary.ensures b n i w) ∙ c.if-at_boundary.true) in
    let rests = ready-rests t n i (ready-all t r.0 r.1 n i r.2 w) (rising-rests i.state.finished up there) in
    let x = c.a_shell_at_rest_is_at_a_boundary.ensures.boundary t.shell b n i w rests in
    told-boundary (run_of t.shell).plan (flat_in t.shell) i x.0 x.2 alive there t.shell.stopped r.2.lives c.end.result (c.end.ensures b n i x.0 w rests x.1) c.is_none.result (turned _ _ c.is_none.ensures)

pub returns-else-at_boundary : goal.returns-else-at_boundary
returns-else-at_boundary c n i w =
    let t = c.args.self.now in
    let b = bank_of t.bank in
    let up = rises (slice_get (table_of (flat_in t.shell)).nodes i.node) in
    let alive = sym (c.done.ensures b n i w) ∙ c.if-done.false in
    told-between i.state.finished up (ends_at (run_of t.shell).plan i.state.ticks) alive
    (right-false (not i.state.finished) up (sym (c.at_boundary.ensures b n i w) ∙ c.if-at_boundary.false) (ap not alive))
