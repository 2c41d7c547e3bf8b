use Rattle.std.proofs.Common.{◌≢◌, ◌<◌, ℕ, ◌++◌, ◌∷◌, [], List, length, arith, refl, ap, sym, ◌∙◌, subst}
use Rattle.std.specs.Prelude.{vec_len, vec_capacity}
use Rattle.vl_design.specs.declared.capacity.Cost.{Cost}
use Rattle.fab_core.specs.fab_model.specs.Fabrics.{within}
use Rattle.fab_core.specs.declared.cores.FabCore.{FabCore}
use Rattle.fab_core.specs.Standing.{IsFabric}
use Rattle.fab_core.specs.fab_model.specs.declared.note.Note.{Note}
use Rattle.fab_core.specs.fab_model.specs.Histories.{place_of, replay, Away}
use Rattle.fab_bay.specs.declared.berth.Berth.{Berth}
use Rattle.fab_bay.specs.declared.noted.NotedCore.{NotedCore}
use Rattle.fab_bay.specs.Refusals.{IsAway}
use Rattle.fab_bay.proofs.Arriving.{away_of, back_chained, back_end, here_of, put_noted, same_transit, IsNew, IsPutIn}
use Rattle.fab_bay.proofs.Events.{on-ok}
use Rattle.fab_bay.proofs.Kept.{still_noted}
use Rattle.fab_bay.proofs.noted.NotedCore.put.Goals as goal

pub returns-then-not-is_within-clause-why : goal.returns-then-not-is_within-clause-why
returns-then-not-is_within-clause-why c =
    let x = c.args.self.now in
    let t = c.args.transit in
    let cost = c.cost-cost.ensures (c.points_tell_of_tenants.ensures.parcel t.parcel c.requires.transit.0 c.requires.transit.1).0 in
    (cost, refl, ap (λ (k : Cost). within k x.label.capacity) (sym cost) ∙ (sym c.is_within.ensures ∙ c.if-not-is_within.true))

pub returns-then-is_there-clause-why : goal.returns-then-is_there-clause-why
returns-then-is_there-clause-why c =
    let x = c.args.self.now in
    let t = c.args.transit in
    let cost = c.cost-cost.ensures (c.points_tell_of_tenants.ensures.parcel t.parcel c.requires.transit.0 c.requires.transit.1).0 in (
      c.number-tenant.ensures,
      ap (λ (k : Cost). within k x.label.capacity) (sym cost) ∙ (sym c.is_within.ensures ∙ c.if-not-is_within.false),
      subst (λ (n : ℕ). place_of n (replay [] x.notes.items) ≢ Away) c.number-tenant.ensures
          (here_of x c.requires.fabric.0 c.number-tenant.result c.requires.fabric.1 (sym c.is_there.ensures ∙ c.if-is_there.true)),
    )

pub returns-then-is_err-clause-why : goal.returns-then-is_err-clause-why
returns-then-is_err-clause-why c =
    let x = c.args.self.now in
    let t = c.args.transit in
    let cost = c.cost-cost.ensures (c.points_tell_of_tenants.ensures.parcel t.parcel c.requires.transit.0 c.requires.transit.1).0 in (
      ap (λ (k : Cost). within k x.label.capacity) (sym cost) ∙ (sym c.is_within.ensures ∙ c.if-not-is_within.false),
      subst (λ (n : ℕ). IsAway x.notes.items n) c.number-tenant.ensures
          (away_of x c.requires.fabric.0 c.number-tenant.result c.requires.fabric.1 (sym c.is_there.ensures ∙ c.if-is_there.false)),
    )

pub returns-then-is_err-clause-same : goal.returns-then-is_err-clause-same
returns-then-is_err-clause-same c = λ f h.
    let e = c.prepare_line.ensures in
    still_noted c.args.self.now c.prepare_line.new.self f
    (record { label = e.label; core = λ g j. subst (λ (a : FabCore). IsFabric a g) (sym e.core) j; berths = ap (λ v. v.items) e.berths; waiting = e.waiting; notes = e.notes; told = ap (λ v. v.items) e.told }) h

pub arrive-requires : goal.arrive-requires
arrive-requires c =
    let f = c.requires.fabric.0 in
    record {
      fabric = (f, subst (λ (a : FabCore). IsFabric a f) (sym c.prepare_line.ensures.core) c.requires.fabric.1.core);
      parcel = c.requires.transit;
    }

pub returns-in_default-clause-why : goal.returns-in_default-clause-why
returns-in_default-clause-why c =
    let x = c.args.self.now in
    let t = c.args.transit in
    let cost = c.cost-cost.ensures (c.points_tell_of_tenants.ensures.parcel t.parcel c.requires.transit.0 c.requires.transit.1).0 in (
      ap (λ (k : Cost). within k x.label.capacity) (sym cost) ∙ (sym c.is_within.ensures ∙ c.if-not-is_within.false),
      subst (λ (n : ℕ). IsAway x.notes.items n) c.number-tenant.ensures
          (away_of x c.requires.fabric.0 c.number-tenant.result c.requires.fabric.1 (sym c.is_there.ensures ∙ c.if-is_there.false)),
    )

pub returns-in_default-clause-same : goal.returns-in_default-clause-same
returns-in_default-clause-same c = λ f h.
    let e = c.prepare_line.ensures in
    still_noted c.args.self.now c.prepare_line.new.self f
    (record { label = e.label; core = λ g j. subst (λ (a : FabCore). IsFabric a g) (sym e.core) j; berths = ap (λ v. v.items) e.berths; waiting = e.waiting; notes = e.notes; told = ap (λ v. v.items) e.told }) h

pub returns-in-Err-clause-why : goal.returns-in-Err-clause-why
returns-in-Err-clause-why c =
    let x = c.args.self.now in
    let t = c.args.transit in
    let cost = c.cost-cost.ensures (c.points_tell_of_tenants.ensures.parcel t.parcel c.requires.transit.0 c.requires.transit.1).0 in (
      ap (λ (k : Cost). within k x.label.capacity) (sym cost) ∙ (sym c.is_within.ensures ∙ c.if-not-is_within.false),
      subst (λ (n : ℕ). IsAway x.notes.items n) c.number-tenant.ensures
          (away_of x c.requires.fabric.0 c.number-tenant.result c.requires.fabric.1 (sym c.is_there.ensures ∙ c.if-is_there.false)),
    )

pub returns-in-Err-clause-same : goal.returns-in-Err-clause-same
returns-in-Err-clause-same c = λ f h.
    let e = c.prepare_line.ensures in
    let y = c.prepare_line.new.self in
    let z : NotedCore = record y { core = c.arrive.new.self } in
    still_noted c.args.self.now z f
    (record {
      label = e.label;
      core = λ g j. c.in-Err.ensures.same g (subst (λ (a : FabCore). IsFabric a g) (sym e.core) j);
      berths = ap (λ v. v.items) e.berths;
      waiting = e.waiting;
      notes = e.notes;
      told = ap (λ v. v.items) e.told;
    }) h

pub returns-in-Ok-arrive-clause-put : goal.returns-in-Ok-arrive-clause-put
returns-in-Ok-arrive-clause-put c =
    let x = c.args.self.now in
    let e = c.prepare_line.ensures in
    let n = c.line-note.result in
    let l = c.len-position.ensures in
    let o = c.prepare_line.new.self.notes.ok.0 in
    let k = ap length e.notes in
    record {
      note = n;
      notes = c.push_reserved.ensures.items ∙ ap (λ (zs : List Note). zs ++ n ∷ []) e.notes;
      entry = refl;
      deed = c.line-note.ensures.deed;
      tells = c.line-note.ensures.entry;
      position = omega (arith, l, o, k);
    }

pub returns-in-Ok-arrive-clause-room : goal.returns-in-Ok-arrive-clause-room
returns-in-Ok-arrive-clause-room c =
    let x = c.args.self.now in
    let t = c.args.transit in
    let cost = c.cost-cost.ensures (c.points_tell_of_tenants.ensures.parcel t.parcel c.requires.transit.0 c.requires.transit.1).0 in (
      ap (λ (k : Cost). within k x.label.capacity) (sym cost) ∙ (sym c.is_within.ensures ∙ c.if-not-is_within.false),
      subst (λ (n : ℕ). IsAway x.notes.items n) c.number-tenant.ensures
          (away_of x c.requires.fabric.0 c.number-tenant.result c.requires.fabric.1 (sym c.is_there.ensures ∙ c.if-is_there.false)),
    )

pub returns-in-Ok-arrive-clause-arrived : goal.returns-in-Ok-arrive-clause-arrived
returns-in-Ok-arrive-clause-arrived c = λ f p h at.
    let x = c.args.self.now in
    let y = c.prepare_line.new.self in
    let t = c.args.transit in
    let e = c.prepare_line.ensures in
    let n = c.line-note.result in
    let b = c.in-Ok.berth in
    let law = c.points_tell_of_tenants.ensures in
    let z : NotedCore = record y { core = c.arrive.new.self; notes = c.push_reserved.new.self; waiting = c.push_reserved-in-Ok-arrive.new.self } in
    let cost = c.cost-cost.ensures (law.parcel t.parcel c.requires.transit.0 c.requires.transit.1).0 in
    let new : IsNew b t = record { tenant = c.in-Ok.ensures.tenant; since = c.in-Ok.ensures.since; noted = c.in-Ok.ensures.noted; line = c.in-Ok.ensures.line; by_move = c.in-Ok.ensures.by_move; stays = c.in-Ok.ensures.stays; room = c.in-Ok.ensures.room } in
    let w : IsPutIn c.args.number x z b t n = record {
      label = e.label;
      notes = c.push_reserved.ensures.items ∙ ap (λ (zs : List Note). zs ++ n ∷ []) e.notes;
      berths = ap (λ v. v.items) e.berths;
      waiting = c.push_reserved-in-Ok-arrive.ensures.items ∙ ap (λ (zs : List Berth). zs ++ b ∷ []) e.waiting;
      new = new;
      entry = c.line-note.ensures.entry;
      deed = c.line-note.ensures.deed;
      few = c.requires.tenant;
      first = c.requires.first;
      fits = ap (λ (k : Cost). within k x.label.capacity) (sym cost) ∙ (sym c.is_within.ensures ∙ c.if-not-is_within.false);
      away =
          subst (λ (i : ℕ). IsAway x.notes.items i) c.number-tenant.ensures
          (away_of x c.requires.fabric.0 c.number-tenant.result c.requires.fabric.1 (sym c.is_there.ensures ∙ c.if-is_there.false));
    } in
    let q = law.boundary t.parcel p at in
    let none = law.ended t.parcel p q.0 at q.1 ∙ (sym (law.ended t.parcel c.requires.transit.0 q.0 c.requires.transit.1 q.1) ∙ c.requires.transit.2) in
    put_noted c.args.number x z b t n f p w h at none (c.in-Ok-arrive.ensures.arrived f p (subst (λ (a : FabCore). IsFabric a f) (sym e.core) h.core) at)

pub invariant_of-result : goal.invariant_of-result
invariant_of-result c = record { chained = back_chained c.args.transit _ c.in-Err.ensures.back; before_end = back_end c.args.transit _ c.in-Err.ensures.back }

pub returns-in-Err-clause-back : goal.returns-in-Err-clause-back
returns-in-Err-clause-back c = same_transit _ c.args.transit c.in-Err.ensures.back refl refl

pub push_reserved-requires : goal.push_reserved-requires
push_reserved-requires c =
    let y = c.prepare_line.new.self in
    (on-ok ((vec_len y.notes < vec_capacity y.notes) × (vec_len y.waiting < vec_capacity y.waiting)) c.prepare_line.result (sym c.is_err.ensures.value ∙ c.if-is_err.false) c.prepare_line.ensures.room).0

pub push_reserved-requires-in-Ok-arrive : goal.push_reserved-requires-in-Ok-arrive
push_reserved-requires-in-Ok-arrive c =
    let y = c.prepare_line.new.self in
    (on-ok ((vec_len y.notes < vec_capacity y.notes) × (vec_len y.waiting < vec_capacity y.waiting)) c.prepare_line.result (sym c.is_err.ensures.value ∙ c.if-is_err.false) c.prepare_line.ensures.room).1
