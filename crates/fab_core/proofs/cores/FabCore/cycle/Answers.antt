use Rattle.std.proofs.Common.{List, map, sym, ap, ◌∙◌, subst}
use Rattle.std.proofs.lemmas.List.{with_items_is}
use Rattle.fab_model.specs.Fabrics.{stepped, steppers, within}
use Rattle.fab_core.specs.declared.resident.Resident.{Resident}
use Rattle.fab_core.specs.Standing.{ArePartsApart, AreStanding}
use Rattle.fab_core.proofs.Steps.{total-stepped}
use Rattle.fab_core.proofs.cores.FabCore.cycle.Goals as goal

pub returns-clause-count : goal.returns-clause-count
returns-clause-count c = λ f h.
    let x = c.args.self.now in
    let standing = subst (λ (rs : List Resident). AreStanding x.joined rs f.residents) (sym c.deref_mut.ensures.value) h.residents in
    c.cycle_all.ensures.count f.residents standing ∙ ap (λ y. steppers y f.residents) h.holding

pub returns-clause-fabric : goal.returns-clause-fabric
returns-clause-fabric c = λ f h.
    let x = c.args.self.now in
    let ws = c.cycle_all.new.residents in
    let j = c.cycle_all.new.joined in
    let e = with_items_is x.residents ws (c.cycle_all.auto.residents ∙ c.deref_mut.ensures.len) in
    let cost = total-stepped f.holding f.residents in
    let standing = subst (λ (rs : List Resident). AreStanding x.joined rs f.residents) (sym c.deref_mut.ensures.value) h.residents in
    record {
      capacity = h.capacity;
      used = h.used ∙ sym cost;
      fits = ap (λ u. within u f.capacity) cost ∙ h.fits;
      holding = h.holding;
      apart = subst (λ (rs : List Resident). ArePartsApart rs) (sym e) c.cycle_all.ensures.apart;
      once = c.each_number_stays_once.ensures.stepped f h.once;
      residents =
          subst (λ (rs : List Resident). AreStanding j rs (map (stepped f.holding) f.residents)) (sym e)
          (subst (λ y. AreStanding j ws (map (stepped y) f.residents)) h.holding (c.cycle_all.ensures.standing f.residents standing));
      line = h.line;
    }
