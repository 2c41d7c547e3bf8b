use Rattle.std.proofs.Common.{◌≡◌, ◌++◌, List, false, map, take, refl, ap, sym, ◌∙◌, subst}
use Rattle.std.specs.List.{All}
use Rattle.std.proofs.lemmas.List.{with_items_is}
use Rattle.fab_model.specs.ten_parcel.specs.declared.tenant.Tenant.{Tenant}
use Rattle.fab_core.specs.declared.cores.FabCore.{FabCore}
use Rattle.fab_core.specs.declared.resident.Resident.{Resident}
use Rattle.fab_core.specs.Alone.{part_for, tenants_of, HasPoint}
use Rattle.fab_core.specs.Standing.{AreStanding, AreWaiting, HasPart}
use Rattle.fab_core.proofs.Anew.{anew_fabric, on_alone, on_waiting, points_of}
use Rattle.fab_core.proofs.Lists.{standing_parts, waiting_take}
use Rattle.fab_core.proofs.cores.FabCore.rebuild.Goals as goal

pub swap_all-requires-clause-parts : goal.swap_all-requires-clause-parts
swap_all-requires-clause-parts c =
    let x = c.args.self.now in
    let e : c.deref_mut.result.now ≡ x.residents.items = c.deref_mut.ensures.value ∙ c.reserve.ensures.items in
    subst (λ (rs : List Resident). All (HasPart x.joined) rs) (sym e) (standing_parts x.joined x.residents.items c.requires.0.residents c.requires.1.residents)

pub joined_anew-requires-clause-residents : goal.joined_anew-requires-clause-residents
joined_anew-requires-clause-residents c =
    let x = c.args.self.now in
    let f = c.requires.0 in
    let ws = c.swap_all.new.residents in
    let e : c.deref_mut.result.now ≡ x.residents.items = c.deref_mut.ensures.value ∙ c.reserve.ensures.items in
    let made = with_items_is c.reserve.new.self ws (c.swap_all.auto.residents ∙ c.deref_mut.ensures.len) in
    let now : c.deref-2.result.now ≡ ws = c.deref-2.ensures.value ∙ made in
    let stood : AreStanding x.joined c.deref_mut.result.now f.residents = subst (λ (rs : List Resident). AreStanding x.joined rs f.residents) (sym e) c.requires.1.residents in
    subst (λ (rs : List Resident). All HasPoint (tenants_of rs)) (sym now) (points_of (tenants_of ws) f.residents (on_alone ws f.residents (c.swap_all.ensures.alone f.residents stood)))

pub joined_anew-requires-clause-line : goal.joined_anew-requires-clause-line
joined_anew-requires-clause-line c =
    let x = c.args.self.now in
    let f = c.requires.0 in
    let n = c.joining_of-joining.result.count in
    subst (λ (ts : List Tenant). All HasPoint (take n ts)) (sym c.deref-3.ensures.value)
    (points_of (take n x.line.items) (take n f.line) (on_waiting (take n x.line.items) (take n f.line) (waiting_take n x.line.items f.line c.requires.1.line)))

pub returns-in-Ok-clause-fabric : goal.returns-in-Ok-clause-fabric
returns-in-Ok-clause-fabric c = λ f h.
    let x = c.args.self.now in
    let n = c.joining_of-joining.result.count in
    let ws = c.swap_all.new.residents in
    let y : FabCore = record { capacity = x.capacity; used = c.joining_of-joining.result.used; residents = c.join_all.new.residents; line = c.join_all.new.line; holding = false; joined = c.in-Ok.anew } in
    let e : c.deref_mut.result.now ≡ x.residents.items = c.deref_mut.ensures.value ∙ c.reserve.ensures.items in
    let made = with_items_is c.reserve.new.self ws (c.swap_all.auto.residents ∙ c.deref_mut.ensures.len) in
    let now : c.deref-2.result.now ≡ ws = c.deref-2.ensures.value ∙ made in
    let stood : AreStanding x.joined c.deref_mut.result.now f.residents = subst (λ (rs : List Resident). AreStanding x.joined rs f.residents) (sym e) h.residents in
    let waiting : AreWaiting c.deref.result.now f.line = subst (λ (ts : List Tenant). AreWaiting ts f.line) (sym c.deref.ensures.value) h.line in
    anew_fabric x y f ws n h (c.swap_all.ensures.alone f.residents stood)
    (record {
      capacity = refl;
      parts = c.in-Ok.ensures ∙ ap (λ (rs : List Resident). map part_for (tenants_of rs ++ take n c.deref-3.result.now)) now ∙ ap (λ (ts : List Tenant). map part_for (tenants_of ws ++ take n ts)) c.deref-3.ensures.value;
      tenants = c.join_all.ensures.tenants ∙ ap (λ (rs : List Resident). tenants_of rs ++ take n x.line.items) made;
      numbers = c.join_all.ensures.numbers;
      line = c.join_all.ensures.line;
      holding = refl;
    })
    (c.joining_of-joining.ensures.count f.line waiting)
    (c.joining_of-joining.ensures.used f.line waiting)
    (c.each_number_stays_once.ensures.rebuilt f h.once)
