use Rattle.std.proofs.Common.{◌≡◌, ◌+◌, ap, refl, ◌∙◌, drop, map, ◌∷◌}
use Rattle.std.proofs.lemmas.List.{drop_all}
use Rattle.vl_design.specs.Formats.{pieces_from}
use Rattle.vl_design.specs.Trees.{arg_of, flat_of}
use Rattle.cell_emit.specs.cell_form.specs.Views.{list_of}
use Rattle.cell_emit.proofs.Frames.{grows-same, grows-then}
use Rattle.cell_emit.specs.Envs.{env_of}
use Rattle.vl_run.proofs.Pieces.{rest-at}
use Rattle.cell_calls.proofs.Owning.{ready-stays}
use Rattle.cell_calls.proofs.Walking.{walked-none, walked-then, walked-sound}
use Rattle.cell_calls.proofs.format.push_arguments.Goals as goal

pub loop-first-init : goal.loop-first-init
loop-first-init c =
    let d = flat_of c.args.site.design.now in
    let all = pieces_from c.args.site.path.now 0 (map arg_of c.args.args.now) in
    record {
      walked = walked-none d (env_of c.args.site.at.now) all c.args.display.now (list_of c.args.cells.now);
      grows = grows-same (list_of c.args.cells.now);
      ready = c.requires.ready;
      sound = c.requires.sound;
      next = refl;
    }

pub push_next-requires-clause-sound : goal.push_next-requires-clause-sound
push_next-requires-clause-sound c =
    let l = c.loop-first in
    let args = c.args.args.now in
    let here = rest-at args l.first-index c.first-item.result c.loop-first-test.true c.first-item.is in
    let rest : c.behind.result.now ≡ drop (l.first-index + 1) args = c.behind.ensures ∙ ap (λ k. drop (k + 1) args) l.invariant.next in
    let sound = rw here at l.invariant.sound in
    rw rest sound

pub loop-first-preserved : goal.loop-first-preserved
loop-first-preserved c =
    let l = c.loop-first in
    let args = c.args.args.now in
    let d = flat_of c.args.site.design.now in
    let path = c.args.site.path.now in
    let at = env_of c.args.site.at.now in
    let here = rest-at args l.first-index c.first-item.result c.loop-first-test.true c.first-item.is in
    let rest : c.behind.result.now ≡ drop (l.first-index + 1) args = c.behind.ensures ∙ ap (λ k. drop (k + 1) args) l.invariant.next in
    let done = c.in_ok-taken.ensures in
    let walked = rw rest at done.walked in
    let before = rw here at l.invariant.walked in
    let sound = rw here at l.invariant.sound in
    let all = pieces_from path 0 (map arg_of args) in
    let mid = pieces_from path l.taken (arg_of c.first-item.result ∷ map arg_of (drop (l.first-index + 1) args)) in
    let last = pieces_from path c.in_ok-taken.taken (map arg_of (drop (l.first-index + 1) args)) in
    let l0 = list_of c.args.cells.now in
    let l1 = list_of l.cells in
    let l2 = list_of c.push_next.new.cells in
    record {
      walked = walked-then d at all mid last c.args.display.now l.display c.push_next.new.display l0 l1 l2 c.requires.ready.fits before walked;
      grows = grows-then l0 l1 l2 l.invariant.grows done.grows;
      ready = ready-stays d at l1 l2 done.grows l.invariant.ready;
      sound = walked-sound d at mid last l.display c.push_next.new.display l1 l2 walked sound;
      next = ap (λ k. k + 1) l.invariant.next;
    }

pub returns-clause-grows : goal.returns-clause-grows
returns-clause-grows c = c.loop-first.invariant.grows

pub returns-clause-adds : goal.returns-clause-adds
returns-clause-adds c =
    let l = c.loop-first in
    let none = drop_all l.first-index c.args.args.now c.loop-first-test.false in
    rw none at l.invariant.walked
