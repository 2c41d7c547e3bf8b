use Rattle.std.proofs.Common.{◌≡◌, ◌+◌, ap, sym, refl, ◌∙◌, append-nil, drop}
use Rattle.std.proofs.lemmas.List.{drop_all}
use Rattle.vl_run.proofs.Pieces.{rest-at}
use Rattle.vl_run.proofs.scope.Scope.push_arguments.Goals as goal

pub loop-first-init : goal.loop-first-init
loop-first-init g c = record { shown = refl; sound = c.requires.sound; next = refl }

pub push_next-requires-clause-sound : goal.push_next-requires-clause-sound
push_next-requires-clause-sound g c =
    let l = c.loop-first in
    let args = c.args.args.now in
    let here = rest-at args l.first-index c.first-item.result c.loop-first-test.true c.first-item.is in
    let rest : c.behind.result.now ≡ drop (l.first-index + 1) args = c.behind.ensures ∙ ap (λ k. drop (k + 1) args) l.invariant.next in
    let sound = rw here at l.invariant.sound in
    rw rest sound

pub loop-first-preserved : goal.loop-first-preserved
loop-first-preserved g c =
    let l = c.loop-first in
    let args = c.args.args.now in
    let here = rest-at args l.first-index c.first-item.result c.loop-first-test.true c.first-item.is in
    let rest : c.behind.result.now ≡ drop (l.first-index + 1) args = c.behind.ensures ∙ ap (λ k. drop (k + 1) args) l.invariant.next in
    let done = c.in_ok-now.ensures in
    let text = rw rest at done.text in
    let sound = rw rest at done.sound in
    let before = rw here at l.invariant.shown in
    record {
      shown = text ∙ before;
      sound = sound;
      next = ap (λ k. k + 1) l.invariant.next;
    }

pub returns : goal.returns
returns g c =
    let l = c.loop-first in
    let none = drop_all l.first-index c.args.args.now c.loop-first-test.false in
    let shown = rw none at l.invariant.shown in
    sym (append-nil l.printed.items) ∙ shown
