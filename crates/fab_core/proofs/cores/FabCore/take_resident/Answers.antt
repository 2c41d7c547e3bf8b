use Rattle.std.proofs.Common.{◌≡◌, ◌-◌, ◌<◌, length, get_or, arith, refl, ap, sym, ◌∙◌, subst}
use Rattle.std.proofs.lemmas.Option.{get_or_from_slice_get}
use Rattle.vl_design.specs.declared.capacity.Cost.{Cost}
use Rattle.ten_core.specs.declared.origin.Origin.{Origin}
use Rattle.fab_model.specs.Points.{Point}
use Rattle.fab_core.specs.declared.cores.FabCore.{FabCore}
use Rattle.fab_core.specs.declared.resident.Resident.{Resident}
use Rattle.fab_core.specs.Standing.{HasPart, Stands}
use Rattle.fab_core.proofs.Counted.{cost_in}
use Rattle.fab_core.proofs.Lists.{point_in, standing_at, standing_many, standing_parts}
use Rattle.fab_core.proofs.Taking.{cost_there, swapped_on, without_fabric}
use Rattle.fab_core.proofs.cores.FabCore.take_resident.Goals as goal

pub remove-resident-requires : goal.remove-resident-requires
remove-resident-requires c =
    let x = c.args.self.now in
    let many = standing_many x.joined x.residents.items c.requires.0.residents c.requires.1.residents in
    let long = x.residents.ok.0 in
    let lt = c.requires.2 in
    omega (arith, many, long, lt)

pub swap-requires : goal.swap-requires
swap-requires c =
    let x = c.args.self.now in
    let rs = x.residents.items in
    let r = c.remove-resident.result in
    let many = standing_many x.joined rs c.requires.0.residents c.requires.1.residents in
    let lt = c.requires.2 in
    subst (λ (q : Resident). HasPart x.joined q) (sym c.remove-resident.ensures.value)
    (standing_parts x.joined rs c.requires.0.residents c.requires.1.residents c.args.place r (omega (arith, many, lt)))

pub overflow_sub-self : goal.overflow_sub-self
overflow_sub-self c =
    let x = c.args.self.now in
    let f = c.requires.0 in
    let r = c.remove-resident.result in
    let there = cost_there x f c.args.place r c.requires.1 c.requires.2 c.remove-resident.ensures.value (point_in f.residents c.args.place c.requires.2) in
    let same : c.deref.result.now.image.cost ≡ cost_in r.tenant = ap (λ (o : Origin). o.image.cost) c.deref.ensures ∙ ap (λ s. cost_in (record r.tenant { shell = s })) c.swap.ensures.shell in
    let part = there.regs in
    let e = ap (λ (k : Cost). k.regs) same in
    omega (arith, part, e)

pub overflow_sub-self-2 : goal.overflow_sub-self-2
overflow_sub-self-2 c =
    let x = c.args.self.now in
    let f = c.requires.0 in
    let r = c.remove-resident.result in
    let there = cost_there x f c.args.place r c.requires.1 c.requires.2 c.remove-resident.ensures.value (point_in f.residents c.args.place c.requires.2) in
    let same : c.deref.result.now.image.cost ≡ cost_in r.tenant = ap (λ (o : Origin). o.image.cost) c.deref.ensures ∙ ap (λ s. cost_in (record r.tenant { shell = s })) c.swap.ensures.shell in
    let part = there.cells in
    let e = ap (λ (k : Cost). k.cells) same in
    omega (arith, part, e)

pub overflow_sub-self-3 : goal.overflow_sub-self-3
overflow_sub-self-3 c =
    let x = c.args.self.now in
    let f = c.requires.0 in
    let r = c.remove-resident.result in
    let there = cost_there x f c.args.place r c.requires.1 c.requires.2 c.remove-resident.ensures.value (point_in f.residents c.args.place c.requires.2) in
    let same : c.deref.result.now.image.cost ≡ cost_in r.tenant = ap (λ (o : Origin). o.image.cost) c.deref.ensures ∙ ap (λ s. cost_in (record r.tenant { shell = s })) c.swap.ensures.shell in
    let part = there.mem in
    let e = ap (λ (k : Cost). k.mem) same in
    omega (arith, part, e)

pub returns-clause-fabric : goal.returns-clause-fabric
returns-clause-fabric c = λ f h.
    let x = c.args.self.now in
    let r = c.remove-resident.result in
    let cost = c.deref.result.now.image.cost in
    let y : FabCore = record {
      capacity = x.capacity;
      used = record { regs = x.used.regs - cost.regs; cells = x.used.cells - cost.cells; mem = x.used.mem - cost.mem };
      residents = c.remove-resident.new.self;
      line = x.line;
      holding = x.holding;
      joined = c.swap.new.joined;
    } in
    let many = standing_many x.joined x.residents.items c.requires.0.residents c.requires.1.residents in
    let most = standing_many x.joined x.residents.items f.residents h.residents in
    let first = c.requires.2 in
    let lt : c.args.place < length f.residents = omega (arith, many, most, first) in
    let same : c.deref.result.now.image.cost ≡ cost_in r.tenant = ap (λ (o : Origin). o.image.cost) c.deref.ensures ∙ ap (λ s. cost_in (record r.tenant { shell = s })) c.swap.ensures.shell in
    without_fabric x y f c.args.place r c.swap.new.self (point_in f.residents c.args.place lt) h lt (record {
      read = c.remove-resident.ensures.value;
      swapped = c.swap.ensures;
      capacity = refl;
      regs = ap (λ (k : Cost). x.used.regs - k.regs) same;
      cells = ap (λ (k : Cost). x.used.cells - k.cells) same;
      mem = ap (λ (k : Cost). x.used.mem - k.mem) same;
      holding = refl;
      residents = c.remove-resident.ensures.items;
      line = refl;
    })

pub returns-clause-tenant : goal.returns-clause-tenant
returns-clause-tenant c = λ f p h e.
    let x = c.args.self.now in
    let rs = x.residents.items in
    let r = c.remove-resident.result in
    let many = standing_many x.joined rs c.requires.0.residents c.requires.1.residents in
    let lt = c.requires.2 in
    let here = standing_at x.joined rs f.residents c.args.place r p h.residents (omega (arith, many, lt)) in
    let stood : Stands x.joined r p = subst (λ (q : Resident). Stands x.joined q p) (sym c.remove-resident.ensures.value)
    (subst (λ (q : Point). Stands x.joined (get_or rs c.args.place r) q) (get_or_from_slice_get f.residents c.args.place p p e) here) in
    swapped_on x.joined c.swap.new.joined r c.swap.new.self p c.swap.ensures stood
