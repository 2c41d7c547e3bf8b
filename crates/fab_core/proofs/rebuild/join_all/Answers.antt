use Rattle.std.proofs.Common.{◌≡◌, ◌+◌, ◌++◌, ◌∷◌, [], List, length, arith, ap, sym, ◌∙◌, subst, append_assoc}
use Rattle.std.specs.Vec.Iter.{drain_items}
use Rattle.fab_model.specs.ten_parcel.specs.declared.tenant.Tenant.{Tenant}
use Rattle.fab_core.specs.declared.resident.Resident.{Resident}
use Rattle.fab_core.specs.Alone.{tenants_of, AreNumbered}
use Rattle.fab_core.proofs.Numbered.{numbers_push, tenants_push}
use Rattle.fab_core.proofs.rebuild.join_all.Goals as goal

pub loop-tenant-preserved : goal.loop-tenant-preserved
loop-tenant-preserved c =
    let h = c.loop-tenant.invariant in
    let step = c.in-Some.ensures.steps in
    let t = c.in-Some.tenant in
    let rs = c.loop-tenant.residents.items in
    let rest = drain_items c.next.new.self in
    let new : Resident = record { tenant = t; part = c.len-part.result } in
    let pushed = c.push_reserved.ensures.items in
    let many = c.push_reserved.ensures.len in
    let capacity = c.push_reserved.ensures.capacity in
    let size : length (drain_items c.loop-tenant.tenant-iterator) ≡ length (t ∷ rest) = ap (λ (ts : List Tenant). length ts) step.0 in
    let room = h.room in
    let few = h.few in
    let long = c.loop-tenant.residents.ok.0 in
    let at = c.len-part.ensures in
    record {
      can = tt;
      finite = tt;
      keeps = (step.2.0 ∙ h.keeps.0, step.2.1 ∙ h.keeps.1, step.2.2 ∙ h.keeps.2);
      moved =
          ap (λ (xs : List Resident). tenants_of xs ++ rest) pushed
          ∙ ap (λ (xs : List Tenant). xs ++ rest) (tenants_push rs new)
          ∙ append_assoc (tenants_of rs) (t ∷ []) rest
          ∙ ap (λ (xs : List Tenant). tenants_of rs ++ xs) (sym step.0)
          ∙ h.moved;
      room = omega (arith, size, room, many, capacity);
      few = omega (arith, size, few, many);
      numbers = subst (λ (xs : List Resident). AreNumbered xs) (sym pushed) (numbers_push rs new (at ∙ long) h.numbers);
    }
