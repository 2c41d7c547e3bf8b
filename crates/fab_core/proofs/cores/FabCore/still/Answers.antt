use Rattle.std.proofs.Common.{◌≡◌, ◌+◌, true, false, drop, sym, ap, ◌∙◌}
use Rattle.std.specs.Prelude.{◌&&◌}
use Rattle.std.proofs.lemmas.List.{at_drop_all}
use Rattle.fab_join.specs.Parts.{part_at}
use Rattle.fab_model.specs.Points.{rests}
use Rattle.fab_core.proofs.Points.{rests-is}
use Rattle.fab_core.proofs.Looks.{all_rest, looked-all, looked-at, rest-more, still-is}
use Rattle.fab_core.proofs.cores.FabCore.still.Goals as goal

pub rests-requires : goal.rests-requires
rests-requires c =
    let x = c.args.self.now in
    let r = c.resident-item.result in
    let i = c.loop-resident.resident-index in
    let s = looked-at x c.requires.0 c.deref-resident-items.result.now i r c.deref-resident-items.ensures.value c.loop-resident-test.true c.resident-item.is c.requires.1 in
    ((part_at x.joined r.part).bank, s.point.acts, s.point.stage, s.stands.point.stands)

pub loop-resident-preserved : goal.loop-resident-preserved
loop-resident-preserved c = λ f h.
    let x = c.args.self.now in
    let r = c.resident-item.result in
    let i = c.loop-resident.resident-index in
    let s = looked-at x f c.deref-resident-items.result.now i r c.deref-resident-items.ensures.value c.loop-resident-test.true c.resident-item.is h in
    let b = (part_at x.joined r.part).bank in
    let k : rests s.point ≡ true = sym (c.rests.ensures b s.point.acts s.point.stage s.stands.point.stands ∙ rests-is r.tenant.shell b s.point s.stands.point) ∙ c.if-not-rests.false in
    c.loop-resident.invariant f h ∙ rest-more f.residents i s.point s.there s.is ∙ ap (λ y. y && all_rest (drop (i + 1) f.residents)) k

pub returns-then-not-rests : goal.returns-then-not-rests
returns-then-not-rests c = λ f h.
    let x = c.args.self.now in
    let r = c.resident-item.result in
    let i = c.loop-resident.resident-index in
    let s = looked-at x f c.deref-resident-items.result.now i r c.deref-resident-items.ensures.value c.loop-resident-test.true c.resident-item.is h in
    let b = (part_at x.joined r.part).bank in
    let k : rests s.point ≡ false = sym (c.rests.ensures b s.point.acts s.point.stage s.stands.point.stands ∙ rests-is r.tenant.shell b s.point s.stands.point) ∙ c.if-not-rests.true in
    sym (still-is f ∙ c.loop-resident.invariant f h ∙ rest-more f.residents i s.point s.there s.is ∙ ap (λ y. y && all_rest (drop (i + 1) f.residents)) k)

pub returns : goal.returns
returns c = λ f h.
    let x = c.args.self.now in
    let i = c.loop-resident.resident-index in
    sym (still-is f ∙ c.loop-resident.invariant f h ∙ at_drop_all all_rest f.residents i (looked-all x f c.deref-resident-items.result.now i c.deref-resident-items.ensures.value c.loop-resident-test.false h))
