use Rattle.std.proofs.Common.{List, ap, sym, ◌∙◌}
use Rattle.std.specs.Prelude.{◌==◌, position}
use Rattle.fab_bay.specs.declared.berth.Berth.{Berth}
use Rattle.fab_bay.proofs.Gone.{place_either}
use Rattle.fab_bay.proofs.noted.NotedCore.take_with_room.Goals as goal

pub take_resident-requires : goal.take_resident-requires
take_resident-requires c = record {
  fabric = c.requires.fabric;
  rest = c.requires.rest;
  place = ap (λ (bs : List Berth). position (λ b. b.tenant == c.args.tenant) bs) (sym c.deref.ensures.value) ∙ (sym c.berth_of.ensures ∙ c.in-Some.is);
  room = c.requires.room;
}

pub unreachable-requires : goal.unreachable-requires
unreachable-requires c =
    let x = c.args.self.now in
    let f = c.requires.fabric.0 in
    let h = c.requires.fabric.1 in
    place_either c.args.tenant x f
    (ap (λ (bs : List Berth). position (λ b. b.tenant == c.args.tenant) bs) (sym c.deref.ensures.value) ∙ (sym c.berth_of.ensures ∙ c.in_default.is))
    (ap (λ (bs : List Berth). position (λ b. b.tenant == c.args.tenant) bs) (sym c.deref-2.ensures.value) ∙ (sym c.berth_of-2.ensures ∙ c.in_default-berth_of.is))
    h (c.requires.there f h)

pub take_waiter-requires : goal.take_waiter-requires
take_waiter-requires c = record {
  fabric = c.requires.fabric;
  rest = c.requires.rest;
  none = ap (λ (bs : List Berth). position (λ b. b.tenant == c.args.tenant) bs) (sym c.deref.ensures.value) ∙ (sym c.berth_of.ensures ∙ c.in_default.is);
  place = ap (λ (bs : List Berth). position (λ b. b.tenant == c.args.tenant) bs) (sym c.deref-2.ensures.value) ∙ (sym c.berth_of-2.ensures ∙ c.in-Some-berth_of.is);
  room = c.requires.room;
}
