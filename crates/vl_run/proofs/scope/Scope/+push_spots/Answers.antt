use Rattle.std.proofs.Common.{ap}
use Rattle.std.proofs.lemmas.List.{drop_all}
use Rattle.vl_design.specs.Trees.{exp_of}
use Rattle.vl_eval.specs.Rooms.{names_of, sample_of}
use Rattle.vl_run.specs.Lists.{targets_of}
use Rattle.vl_run.specs.Scopes.{scope_of}
use Rattle.vl_run.proofs.Spotting.{list-of, targets-more, word-width, spotted-none, spotted-on}
use Rattle.vl_run.proofs.scope.Scope.+push_spots.Goals as goal

pub loop-part-init : goal.loop-part-init
loop-part-init g t c =
    let e = list-of c.args.target.now c.in-List.parts c.in-List.is in
    let sound = rw e at c.requires.sound in
    rw (c.deref-part-items.ensures.value)
    record {
      sound = sound.1;
      leads = λ new h. rw e h;
    }

pub loop-part-preserved : goal.loop-part-preserved
loop-part-preserved g t c =
    let e = targets-more c.deref-part-items.result.now c.loop-part.part-index c.part-item.result c.loop-part-test.true c.part-item.is in
    let l = c.loop-part.invariant in
    let sound = rw e at l.sound in
    record {
      sound = sound.1;
      leads = λ new h. l.leads new (rw e (spotted-on (names_of c.args.self.now.room) c.loop-part.spots.items c.push_spots.new.spots.items new _ _ _ _ c.in_ok-push_spots-in-List.ensures h));
    }

pub returns-in_ok-word_spot-in-Word : goal.returns-in_ok-word_spot-in-Word
returns-in_ok-word_spot-in-Word g t c =
    let names = names_of c.args.self.now.room in
    let spot = c.in_ok-word_spot-in-Word.ensures in
    let is = rw c.deref.ensures at spot.spot in
    let width = word-width (scope_of c.args.self.now) (sample_of c.args.s.now) c.in-Word.memory (exp_of c.in-Word.address.value) c.in_ok-word_spot-in-Word.field-0 is in
    rw c.in-Word.is (c.add_spot-in-Word.ensures names _ _ spot.sound is width)

pub returns-in_ok-picked_spot-in-Pick : goal.returns-in_ok-picked_spot-in-Pick
returns-in_ok-picked_spot-in-Pick g t c =
    let names = names_of c.args.self.now.room in
    let spot = c.in_ok-picked_spot-in-Pick.ensures in
    let is = rw (c.deref-in-Pick.ensures, c.deref-in-Pick-2.ensures) at spot.spot in
    rw c.in-Pick.is (c.add_spot-in-Pick.ensures names _ _ spot.sound is spot.width)

pub returns-after-loop-part : goal.returns-after-loop-part
returns-after-loop-part g t c =
    let none = ap targets_of (drop_all c.loop-part.part-index c.deref-part-items.result.now c.loop-part-test.false) in
    c.loop-part.invariant.leads c.loop-part.spots.items (rw none (spotted-none (names_of c.args.self.now.room) c.loop-part.spots.items))
