use Rattle.std.proofs.Common.{◌≡◌, ◌+◌, true, false, Some, drop, sym, ap, ◌∙◌}
use Rattle.std.specs.Prelude.{if◌then◌else◌, is_some}
use Rattle.std.proofs.lemmas.List.{at_drop_all}
use Rattle.fab_join.specs.Parts.{part_at}
use Rattle.fab_model.specs.Points.{due}
use Rattle.fab_model.specs.Fabrics.{first_leaving}
use Rattle.fab_core.proofs.Points.{due-is}
use Rattle.fab_core.proofs.Looks.{leave-more, looked-all, looked-at}
use Rattle.fab_core.proofs.cores.FabCore.next_leaving.Goals as goal

pub due-requires : goal.due-requires
due-requires c =
    let x = c.args.self.now in
    let r = c.resident-item.result in
    let i = c.loop-resident.resident-index in
    let s = looked-at x c.requires.0 c.deref-resident-items.result.now i r c.deref-resident-items.ensures.value c.loop-resident-test.true c.resident-item.is c.requires.1 in
    ((part_at x.joined r.part).bank, s.point.acts, s.point.stage, s.stands.point.stands)

pub loop-resident-preserved : goal.loop-resident-preserved
loop-resident-preserved c = λ f h.
    let x = c.args.self.now in
    let r = c.resident-item.result in
    let i = c.loop-resident.resident-index in
    let s = looked-at x f c.deref-resident-items.result.now i r c.deref-resident-items.ensures.value c.loop-resident-test.true c.resident-item.is h in
    let b = (part_at x.joined r.part).bank in
    let k : is_some (due s.point) ≡ false = ap is_some (sym (c.due.ensures b s.point.acts s.point.stage s.stands.point.stands ∙ due-is r.tenant.shell b s.point s.stands.point)) ∙ sym c.is_some.ensures ∙ c.if-is_some.false in
    c.loop-resident.invariant f h ∙ leave-more f.residents i s.point s.there s.is ∙ ap (λ y. if y then Some s.point.number else first_leaving (drop (i + 1) f.residents)) k

pub returns-then-is_some : goal.returns-then-is_some
returns-then-is_some c = λ f h.
    let x = c.args.self.now in
    let r = c.resident-item.result in
    let i = c.loop-resident.resident-index in
    let s = looked-at x f c.deref-resident-items.result.now i r c.deref-resident-items.ensures.value c.loop-resident-test.true c.resident-item.is h in
    let b = (part_at x.joined r.part).bank in
    let k : is_some (due s.point) ≡ true = ap is_some (sym (c.due.ensures b s.point.acts s.point.stage s.stands.point.stands ∙ due-is r.tenant.shell b s.point s.stands.point)) ∙ sym c.is_some.ensures ∙ c.if-is_some.true in
    ap (λ n. Some n) s.stands.point.number ∙ sym (c.loop-resident.invariant f h ∙ leave-more f.residents i s.point s.there s.is ∙ ap (λ y. if y then Some s.point.number else first_leaving (drop (i + 1) f.residents)) k)

pub returns : goal.returns
returns c = λ f h.
    let x = c.args.self.now in
    let i = c.loop-resident.resident-index in
    sym (c.loop-resident.invariant f h ∙ at_drop_all first_leaving f.residents i (looked-all x f c.deref-resident-items.result.now i c.deref-resident-items.ensures.value c.loop-resident-test.false h))
