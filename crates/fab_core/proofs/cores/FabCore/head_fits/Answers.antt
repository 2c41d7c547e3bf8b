use Rattle.std.proofs.Common.{◌≡◌, List, sym, ap, ◌∙◌}
use Rattle.std.specs.Prelude.{slice_get}
use Rattle.ten_core.specs.cell_form.specs.Views.{bank_of}
use Rattle.ten_core.specs.declared.origin.Origin.{Origin}
use Rattle.fab_model.specs.ten_parcel.specs.declared.tenant.Tenant.{Tenant}
use Rattle.fab_model.specs.Points.{cost_of}
use Rattle.fab_model.specs.Fabrics.{plus, total, within}
use Rattle.fab_core.proofs.Points.{cost-is}
use Rattle.fab_core.proofs.Looks.{head-at, head-is}
use Rattle.fab_core.proofs.Tests.{within-is}
use Rattle.fab_core.proofs.cores.FabCore.head_fits.Goals as goal

pub returns-in-Some : goal.returns-in-Some
returns-in-Some c = λ f h.
    let x = c.args.self.now in
    let t = c.in-Some.head.now in
    let more = c.deref-in-Some.result.now.image.cost in
    let head = head-at x.line.items f.line t h.line (c.in-Some.ensures.value ∙ ap (λ (ts : List Tenant). slice_get ts 0) c.deref.ensures.value) in
    let cost : more ≡ cost_of head.point = ap (λ (o : Origin). o.image.cost) c.deref-in-Some.ensures ∙ cost-is t.shell (bank_of t.bank) head.point head.there.point in
    within-is c.fits.result x.used more x.capacity c.fits.ensures
    ∙ ap (λ u. within (plus u more) x.capacity) h.used
    ∙ ap (λ k. within (plus (total f.residents) more) k) h.capacity
    ∙ ap (λ m. within (plus (total f.residents) m) f.capacity) cost
    ∙ sym (head-is f head.point head.rest head.is)
