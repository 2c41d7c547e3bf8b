use Rattle.std.proofs.Common.{◌≡◌, ◌+◌, true, false, Some, drop, sym, ap, ◌∙◌}
use Rattle.std.specs.Prelude.{if◌then◌else◌}
use Rattle.std.proofs.lemmas.List.{at_drop_all}
use Rattle.fab_join.specs.Parts.{part_at}
use Rattle.fab_model.specs.Points.{waits}
use Rattle.fab_model.specs.Fabrics.{first_waiting}
use Rattle.fab_core.proofs.Points.{waits-is}
use Rattle.fab_core.proofs.Looks.{looked-all, looked-at, wait-more}
use Rattle.fab_core.proofs.cores.FabCore.next_trap.Goals as goal

pub waits-requires : goal.waits-requires
waits-requires c =
    let x = c.args.self.now in
    let r = c.resident-item.result in
    let i = c.loop-resident.resident-index in
    let s = looked-at x c.requires.0 c.deref-resident-items.result.now i r c.deref-resident-items.ensures.value c.loop-resident-test.true c.resident-item.is c.requires.1 in
    ((part_at x.joined r.part).bank, s.point.acts, s.point.stage, s.stands.point.stands)

pub loop-resident-preserved : goal.loop-resident-preserved
loop-resident-preserved c = λ f h.
    let x = c.args.self.now in
    let r = c.resident-item.result in
    let i = c.loop-resident.resident-index in
    let s = looked-at x f c.deref-resident-items.result.now i r c.deref-resident-items.ensures.value c.loop-resident-test.true c.resident-item.is h in
    let b = (part_at x.joined r.part).bank in
    let k : waits s.point ≡ false = sym (c.waits.ensures b s.point.acts s.point.stage s.stands.point.stands ∙ waits-is r.tenant.shell b s.point s.stands.point) ∙ c.if-waits.false in
    c.loop-resident.invariant f h ∙ wait-more f.residents i s.point s.there s.is ∙ ap (λ y. if y then Some s.point.number else first_waiting (drop (i + 1) f.residents)) k

pub returns-then-waits : goal.returns-then-waits
returns-then-waits c = λ f h.
    let x = c.args.self.now in
    let r = c.resident-item.result in
    let i = c.loop-resident.resident-index in
    let s = looked-at x f c.deref-resident-items.result.now i r c.deref-resident-items.ensures.value c.loop-resident-test.true c.resident-item.is h in
    let b = (part_at x.joined r.part).bank in
    let k : waits s.point ≡ true = sym (c.waits.ensures b s.point.acts s.point.stage s.stands.point.stands ∙ waits-is r.tenant.shell b s.point s.stands.point) ∙ c.if-waits.true in
    ap (λ n. Some n) s.stands.point.number ∙ sym (c.loop-resident.invariant f h ∙ wait-more f.residents i s.point s.there s.is ∙ ap (λ y. if y then Some s.point.number else first_waiting (drop (i + 1) f.residents)) k)

pub returns : goal.returns
returns c = λ f h.
    let x = c.args.self.now in
    let i = c.loop-resident.resident-index in
    sym (c.loop-resident.invariant f h ∙ at_drop_all first_waiting f.residents i (looked-all x f c.deref-resident-items.result.now i c.deref-resident-items.ensures.value c.loop-resident-test.false h))
