use Rattle.std.proofs.Common.{◌≡◌, ℕ, List, ◌++◌, ◌∷◌, [], refl, ap, sym, ◌∙◌}
use Rattle.std.proofs.lemmas.Bool.{iff_false}
use Rattle.vl_design.specs.declared.capacity.Cost.{Cost}
use Rattle.vl_design.specs.Costs.{Fits}
use Rattle.fab_model.specs.ten_parcel.specs.declared.tenant.Tenant.{Tenant}
use Rattle.fab_model.specs.Points.{cost_of}
use Rattle.fab_model.specs.Fabrics.{has, nothing, within}
use Rattle.fab_core.specs.declared.cores.FabCore.{FabCore}
use Rattle.fab_core.proofs.Arriving.{arrived_fabric, parcel_cost, parcel_is, parcel_number, parcel_rests, within_alone, without_room}
use Rattle.fab_core.proofs.cores.FabCore.arrive.Goals as goal

pub returns-then-not-fits-clause-why : goal.returns-then-not-fits-clause-why
returns-then-not-fits-clause-why c = λ f p h at.
    let x = c.args.self.now in
    let m = c.cost-cost.result in
    let cost : m ≡ cost_of p = c.cost-cost.ensures (parcel_is c.args.parcel p at) ∙ parcel_cost c.args.parcel p at in
    let fails : Fits nothing m x.capacity → ⊥ = iff_false c.fits.ensures c.if-not-fits.true in
    (cost, h.capacity, ap (λ (k : Cost). within k f.capacity) (sym cost) ∙ ap (λ (k : Cost). within m k) (sym h.capacity) ∙ without_room m x.capacity fails)

pub returns-then-has-clause-why : goal.returns-then-has-clause-why
returns-then-has-clause-why c = λ f p h at.
    let x = c.args.self.now in
    let m = c.cost-cost.result in
    let cost : m ≡ cost_of p = c.cost-cost.ensures (parcel_is c.args.parcel p at) ∙ parcel_cost c.args.parcel p at in
    let room : Fits nothing m x.capacity = c.fits.ensures.0 c.if-not-fits.false in
    let number : c.number-number.result ≡ p.number = c.number-number.ensures ∙ parcel_number c.args.parcel p at in (
      number,
      ap (λ (k : Cost). within k f.capacity) (sym cost) ∙ ap (λ (k : Cost). within m k) (sym h.capacity) ∙ within_alone m x.capacity room,
      ap (λ (n : ℕ). has n f) (sym number) ∙ sym (c.has.ensures f h) ∙ c.if-has.true,
    )

pub returns-then-is_err-clause-why : goal.returns-then-is_err-clause-why
returns-then-is_err-clause-why c = λ f p h at.
    let x = c.args.self.now in
    let m = c.cost-cost.result in
    let cost : m ≡ cost_of p = c.cost-cost.ensures (parcel_is c.args.parcel p at) ∙ parcel_cost c.args.parcel p at in
    let room : Fits nothing m x.capacity = c.fits.ensures.0 c.if-not-fits.false in
    let number : c.number-number.result ≡ p.number = c.number-number.ensures ∙ parcel_number c.args.parcel p at in (
      ap (λ (k : Cost). within k f.capacity) (sym cost) ∙ ap (λ (k : Cost). within m k) (sym h.capacity) ∙ within_alone m x.capacity room,
      ap (λ (n : ℕ). has n f) (sym number) ∙ sym (c.has.ensures f h) ∙ c.if-has.false,
    )

pub returns-clause-arrived : goal.returns-clause-arrived
returns-clause-arrived c = λ f p h at.
    let x = c.args.self.now in
    let t = c.from_parcel.result in
    let y : FabCore = record x { line = c.push_reserved.new.self } in
    let number : c.number-number.result ≡ p.number = c.number-number.ensures ∙ parcel_number c.args.parcel p at in
    let fresh = ap (λ (n : ℕ). has n f) (sym number) ∙ sym (c.has.ensures f h) ∙ c.if-has.false in
    arrived_fabric x y f t p h (parcel_rests c.args.parcel t p c.from_parcel.ensures at) (record {
      capacity = refl;
      used = refl;
      holding = refl;
      residents = refl;
      joined = refl;
      line = c.push_reserved.ensures.items ∙ ap (λ (ts : List Tenant). ts ++ t ∷ []) c.reserve.ensures.items;
    })
    (c.each_number_stays_once.ensures.arrived p f h.once fresh)

pub returns-clause-fits : goal.returns-clause-fits
returns-clause-fits c = λ f p h at.
    let x = c.args.self.now in
    let m = c.cost-cost.result in
    let cost : m ≡ cost_of p = c.cost-cost.ensures (parcel_is c.args.parcel p at) ∙ parcel_cost c.args.parcel p at in
    let room : Fits nothing m x.capacity = c.fits.ensures.0 c.if-not-fits.false in
    let number : c.number-number.result ≡ p.number = c.number-number.ensures ∙ parcel_number c.args.parcel p at in (
      ap (λ (k : Cost). within k f.capacity) (sym cost) ∙ ap (λ (k : Cost). within m k) (sym h.capacity) ∙ within_alone m x.capacity room,
      ap (λ (n : ℕ). has n f) (sym number) ∙ sym (c.has.ensures f h) ∙ c.if-has.false,
    )
