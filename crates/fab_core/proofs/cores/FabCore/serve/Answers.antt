use Rattle.std.proofs.Common.{◌≡◌, true, false, Some, List, sym, ap, ◌∙◌}
use Rattle.std.specs.Prelude.{◌==◌, is_some, not, position}
use Rattle.std.proofs.lemmas.Result.{IfOk-weaker, on_err_weaker, on_ok_weaker}
use Rattle.ten_core.specs.sub_nodes.specs.Code.{table_of}
use Rattle.ten_core.specs.sub_nodes.specs.Stands.{at_trap}
use Rattle.fab_model.specs.Points.{Point, served, run_in}
use Rattle.fab_model.specs.Fabrics.{first_of, within, Fabric}
use Rattle.fab_core.specs.declared.resident.Resident.{Resident}
use Rattle.fab_core.specs.Standing.{IsFabric, Stands}
use Rattle.fab_core.proofs.Firsts.{changed-apart, changed-stands, first-some, found-at, found-stands, resident-place, same-stands}
use Rattle.fab_core.proofs.Steps.{total-served}
use Rattle.fab_core.proofs.cores.FabCore.serve.Goals as goal

pub unreachable-requires : goal.unreachable-requires
unreachable-requires c =
    let x = c.args.self.now in
    let t = c.args.tenant in
    let f = c.requires.0 in
    let e = sym c.in-None.is ∙ (c.resident_of.ensures ∙ ap (λ (rs : List Resident). position (λ r. r.tenant.shell.number == t) rs) c.deref.ensures.value ∙ resident-place t x.joined x.residents.items f.residents c.requires.2.residents) in
    let none : false ≡ is_some (first_of t f.residents) = ap is_some e ∙ first-some t f.residents in
    let some : is_some (first_of t f.residents) ≡ true = ap is_some c.requires.3 in
    let both = none ∙ some in
    cc

pub serve-requires : goal.serve-requires
serve-requires c =
    let x = c.args.self.now in
    let t = c.args.tenant in
    let f = c.requires.0 in
    let h = found-at t x f c.deref.result.now c.resident_of.result c.in-Some.place c.index_mut.result.now c.deref.ensures.value c.resident_of.ensures c.in-Some.is c.index_mut.ensures.value c.requires.2 in
    (c.requires.1, found-stands t x.joined x.residents.items f.residents c.in-Some.place c.index_mut.result.now h c.requires.1 c.requires.3, c.requires.4)

pub returns-clause-fabric : goal.returns-clause-fabric
returns-clause-fabric c =
    let x = c.args.self.now in
    let t = c.args.tenant in
    let k = c.in-Some.place in
    let old = c.index_mut.result.now in
    let r = c.serve.new.self in
    let e = c.serve.ensures in
    on_ok_weaker c.serve.result (λ g f h.
    let d = found-at t x f c.deref.result.now c.resident_of.result k old c.deref.ensures.value c.resident_of.ensures c.in-Some.is c.index_mut.ensures.value h in
    let cost = total-served t f.residents in
    record {
      capacity = h.capacity;
      used = h.used ∙ sym cost;
      fits = ap (λ u. within u f.capacity) cost ∙ h.fits;
      holding = h.holding;
      apart = changed-apart t x.joined x.residents.items f.residents k old d c.serve.new.joined r h.apart e.part e.others;
      once = c.each_number_stays_once.ensures.served t f h.once;
      residents = changed-stands t x.joined x.residents.items f.residents k old d c.serve.new.joined r h.apart e.part e.others served g;
      line = h.line;
    }) e.stands

pub returns-clause-which : goal.returns-clause-which
returns-clause-which c =
    let x = c.args.self.now in
    let t = c.args.tenant in
    let k = c.in-Some.place in
    let old = c.index_mut.result.now in
    IfOk-weaker c.serve.result
    (λ saved. (p : Point) → Stands x.joined old p → saved ≡ not (at_trap (table_of (run_in p).flat) p.stage))
    (λ saved. (f : Fabric) (p : Point) → IsFabric x f → first_of t f.residents ≡ Some p → saved ≡ not (at_trap (table_of (run_in p).flat) p.stage))
    (λ saved g f p h is.
    let d = found-at t x f c.deref.result.now c.resident_of.result k old c.deref.ensures.value c.resident_of.ensures c.in-Some.is c.index_mut.ensures.value h in
    g p (found-stands t x.joined x.residents.items f.residents k old d p is))
    c.serve.ensures.which

pub returns-clause-err : goal.returns-clause-err
returns-clause-err c =
    let x = c.args.self.now in
    let t = c.args.tenant in
    let k = c.in-Some.place in
    let old = c.index_mut.result.now in
    let r = c.serve.new.self in
    let e = c.serve.ensures in
    on_err_weaker c.serve.result (λ g f h.
    let d = found-at t x f c.deref.result.now c.resident_of.result k old c.deref.ensures.value c.resident_of.ensures c.in-Some.is c.index_mut.ensures.value h in
    record {
      capacity = h.capacity;
      used = h.used;
      fits = h.fits;
      holding = h.holding;
      apart = changed-apart t x.joined x.residents.items f.residents k old d c.serve.new.joined r h.apart e.part e.others;
      once = h.once;
      residents = same-stands t x.joined x.residents.items f.residents k old d c.serve.new.joined r h.apart e.part e.others g;
      line = h.line;
    }) e.err

pub returns-clause-memory : goal.returns-clause-memory
returns-clause-memory c =
    let x = c.args.self.now in
    let t = c.args.tenant in
    let k = c.in-Some.place in
    let old = c.index_mut.result.now in
    on_err_weaker c.serve.result (λ g f p h is.
    let d = found-at t x f c.deref.result.now c.resident_of.result k old c.deref.ensures.value c.resident_of.ensures c.in-Some.is c.index_mut.ensures.value h in
    g p (found-stands t x.joined x.residents.items f.residents k old d p is))
    c.serve.ensures.memory
