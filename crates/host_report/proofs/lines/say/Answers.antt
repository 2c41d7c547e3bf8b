use Rattle.std.proofs.Common.{Option, refl, sym, subst}
use Rattle.std.proofs.lemmas.Result.{IfOk-weaker}
use Rattle.std.specs.Vec.Iter.{into_iter_items}
use Rattle.host_files.specs.host_form.specs.declared.refusal.Refusal.{Refusal}
use Rattle.host_report.specs.Endings.{IsSaid}
use Rattle.host_report.proofs.lines.say.Goals as goal

pub returns-in-Some : goal.returns-in-Some
returns-in-Some c =
    let s = c.args.script.now in
    let name = c.args.name.now in
    let all = into_iter_items c.args.ended.now in
    IfOk-weaker c.refused.result _ _ (λ said k. subst (λ (r : Option Refusal). IsSaid s name r all all said) (sym c.in-Some.is) (refl, k s)) c.refused.ensures

pub returns-in-Some-next : goal.returns-in-Some-next
returns-in-Some-next c =
    let s = c.args.script.now in
    let name = c.args.name.now in
    let before = into_iter_items c.args.ended.now in
    let after = into_iter_items c.next.new.self in
    IfOk-weaker c.said_of.result _ _
    (λ said k. subst (λ (r : Option Refusal). IsSaid s name r before after said) (sym c.in-None.is)
    (record { next = c.in-Some-next.transit; first = c.in-Some-next.ensures.items; said = k c.in-Some-next.transit c.ending_of.ensures }))
    c.said_of.ensures
