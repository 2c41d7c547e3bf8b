use Rattle.std.proofs.Common.{List, map, ap, ◌∙◌, Option}
use Rattle.std.specs.List.{list_any}
use Rattle.host_report.specs.fab_model.specs.declared.transit.Transit.{Transit}
use Rattle.host_form.specs.Orders.{free_line}
use Rattle.host_form.specs.declared.refusal.Refusal.{Refusal}
use Rattle.host_report.specs.Ends.{is_refused}
use Rattle.host_outcomes.specs.Given.{answered, costs_of}
use Rattle.host_run.proofs.Saying.{says_ok}
use Rattle.host_run.proofs.Tellable.{parcels, running}
use Rattle.host_run.proofs.said.said_of.Goals as goal

pub replies-requires-clause-running : goal.replies-requires-clause-running
replies-requires-clause-running c = rw (c.deref.ensures.value, c.deref-2.ensures.value) (running c.args.refusals.items c.args.ended.items c.requires.each)

pub replies-requires-clause-parcels : goal.replies-requires-clause-parcels
replies-requires-clause-parcels c = rw c.deref-2.ensures.value (parcels c.args.refusals.items c.args.ended.items c.requires.each)

pub returns : goal.returns
returns c =
    let s = c.args.script.now in
    let rs = c.args.refusals.items in
    let es = c.args.ended.items in
    let e = c.in_words.ensures in
    let theirs = c.args.answers.now in
    says_ok s rs es theirs c.in_ok-told.told c.any_refused-refused.result c.deref-4.result.now
    (c.any_refused-refused.ensures ∙ ap (λ (xs : List (Option Refusal)). list_any (λ x. x) (map is_refused xs)) c.deref-3.ensures.value)
    (c.deref-4.ensures.value ∙ c.in_ok-lines.ensures
    ∙ ap (λ (xs : List (Option Refusal)). map (free_line s) (answered s.fabrics (map is_refused xs) (costs_of c.deref-2.result.now) s.free theirs)) c.deref.ensures.value
    ∙ ap (λ (xs : List Transit). map (free_line s) (answered s.fabrics (map is_refused rs) (costs_of xs) s.free theirs)) c.deref-2.ensures.value)
    c.in_ok-told.ensures c.in_words.result e.refused e.blocks e.text e.kept
