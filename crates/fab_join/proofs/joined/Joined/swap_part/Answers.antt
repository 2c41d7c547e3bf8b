use Rattle.std.proofs.Common.{◌<◌, List, length, map, ap, ◌∙◌, sym, arith, set, subst}
use Rattle.std.proofs.lemmas.List.{length-map}
use Rattle.trap_runtime.specs.cell_form.specs.Data.{BankData}
use Rattle.trap_runtime.specs.cell_form.specs.Sound.{Shape, shape_of}
use Rattle.trap_runtime.specs.cell_form.specs.Views.{bank_of}
use Rattle.fab_join.specs.Banks.{part}
use Rattle.fab_join.specs.Laid.{shape_of_span, part_data, IsLaid}
use Rattle.fab_join.specs.Parts.{PartData, part_at, with_bank}
use Rattle.fab_join.proofs.Laid.{part_of_read}
use Rattle.fab_join.proofs.Joining.{put_size, put_within, laid_put, view_put}
use Rattle.fab_join.proofs.joined.Joined.swap_part.Goals as goal

pub exchange-requires : goal.exchange-requires
exchange-requires c =
    let ps = c.self.inside.parts.items in
    let b = bank_of c.self.inside.bank in
    let lt : c.args.part < length ps = omega (arith, sym (length-map ps (part_data b)) ∙ ap length c.self.view_is) in
    let same = c.requires.same ∙ ap (λ (qs : List PartData). shape_of (part_at qs c.args.part).bank) (sym c.self.view_is) in
    put_within b (bank_of c.args.own.now) ps c.args.part c.index.result.now lt c.index.ensures c.self.invariant same

pub invariant_of-self : goal.invariant_of-self
invariant_of-self c =
    let ps = c.self.inside.parts.items in
    let b = bank_of c.self.inside.bank in
    let lt : c.args.part < length ps = omega (arith, sym (length-map ps (part_data b)) ∙ ap length c.self.view_is) in
    let same = c.requires.same ∙ ap (λ (qs : List PartData). shape_of (part_at qs c.args.part).bank) (sym c.self.view_is) in
    subst (λ (z : BankData). IsLaid z ps) (sym c.exchange.ensures.bank) (laid_put b (bank_of c.args.own.now) ps c.args.part c.index.result.now lt c.index.ensures c.self.invariant same)

pub returns-clause-parts : goal.returns-clause-parts
returns-clause-parts c =
    let ps = c.self.inside.parts.items in
    let b = bank_of c.self.inside.bank in
    let lt : c.args.part < length ps = omega (arith, sym (length-map ps (part_data b)) ∙ ap length c.self.view_is) in
    let same = c.requires.same ∙ ap (λ (qs : List PartData). shape_of (part_at qs c.args.part).bank) (sym c.self.view_is) in
    ap (λ (z : BankData). map (part_data z) ps) c.exchange.ensures.bank
    ∙ view_put b (bank_of c.args.own.now) ps c.args.part c.index.result.now lt c.index.ensures c.self.invariant same
    ∙ ap (λ (qs : List PartData). set qs c.args.part (with_bank (part_at qs c.args.part) (bank_of c.args.own.now))) c.self.view_is

pub returns-clause-own : goal.returns-clause-own
returns-clause-own c =
    let ps = c.self.inside.parts.items in
    let b = bank_of c.self.inside.bank in
    let x = c.index.result.now in
    let a = shape_of_span x.place in
    let lt : c.args.part < length ps = omega (arith, sym (length-map ps (part_data b)) ∙ ap length c.self.view_is) in
    let same = c.requires.same ∙ ap (λ (qs : List PartData). shape_of (part_at qs c.args.part).bank) (sym c.self.view_is) in
    c.exchange.ensures.own
    ∙ ap (λ (s : Shape). part a s b) (put_size b (bank_of c.args.own.now) ps c.args.part x lt c.index.ensures c.self.invariant same)
    ∙ ap (λ (p : PartData). p.bank) (sym (part_of_read b ps c.args.part x lt c.index.ensures))
    ∙ ap (λ (qs : List PartData). (part_at qs c.args.part).bank) c.self.view_is
