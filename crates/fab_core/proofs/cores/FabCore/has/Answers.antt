use Rattle.std.proofs.Common.{◌≡◌, List, sym, ap, ◌∙◌}
use Rattle.std.specs.Prelude.{◌==◌, is_some, position}
use Rattle.fab_model.specs.ten_parcel.specs.declared.tenant.Tenant.{Tenant}
use Rattle.fab_model.specs.Fabrics.{first_of}
use Rattle.fab_core.specs.declared.resident.Resident.{Resident}
use Rattle.fab_core.proofs.Firsts.{first-some, resident-place, waiter-place}
use Rattle.fab_core.proofs.Tests.{or-else, or-then}
use Rattle.fab_core.proofs.cores.FabCore.has.Goals as goal

pub returns-then-is_some : goal.returns-then-is_some
returns-then-is_some c = λ f h.
    let x = c.args.self.now in
    let n = c.args.number in
    let e : c.is_some.result ≡ is_some (first_of n f.residents) =
    c.is_some.ensures
    ∙ ap is_some (c.resident_of.ensures ∙ ap (λ (rs : List Resident). position (λ r. r.tenant.shell.number == n) rs) c.deref.ensures.value ∙ resident-place n x.joined x.residents.items f.residents h.residents)
    ∙ first-some n f.residents in
    or-then c.is_some.result (is_some (first_of n f.residents)) (is_some (first_of n f.line)) e c.if-is_some.true

pub returns-else-is_some : goal.returns-else-is_some
returns-else-is_some c = λ f h.
    let x = c.args.self.now in
    let n = c.args.number in
    let e : c.is_some.result ≡ is_some (first_of n f.residents) =
    c.is_some.ensures
    ∙ ap is_some (c.resident_of.ensures ∙ ap (λ (rs : List Resident). position (λ r. r.tenant.shell.number == n) rs) c.deref.ensures.value ∙ resident-place n x.joined x.residents.items f.residents h.residents)
    ∙ first-some n f.residents in
    let d : c.is_some-else-is_some.result ≡ is_some (first_of n f.line) =
    c.is_some-else-is_some.ensures
    ∙ ap is_some (c.waiter_of.ensures ∙ ap (λ (ts : List Tenant). position (λ t. t.shell.number == n) ts) c.deref-else-is_some.ensures.value ∙ waiter-place n x.line.items f.line h.line)
    ∙ first-some n f.line in
    or-else c.is_some-else-is_some.result (is_some (first_of n f.residents)) (is_some (first_of n f.line)) (sym e ∙ c.if-is_some.false) d
