use Rattle.std.proofs.Common.{◌≡◌, ◌+◌, ap, arith, drop}
use Rattle.std.proofs.lemmas.List.{drop_all}
use Rattle.vl_base.specs.Selects.{appended}
use Rattle.vl_design.specs.Trees.{exp_of, exps_of}
use Rattle.vl_design.specs.Width.{total_width}
use Rattle.vl_eval.specs.Rooms.{names_of, sample_of}
use Rattle.vl_eval.specs.Answers.{parts_of}
use Rattle.vl_eval.proofs.Reading.{pick-read, binary-read, reads-on, reads-whole}
use Rattle.vl_eval.proofs.Rows.{has-parts, exps-more}
use Rattle.vl_eval.proofs.eval.+eval.Goals as goal

pub eval-returns-in-Pick-clause-reads : goal.eval-returns-in-Pick-clause-reads
eval-returns-in-Pick-clause-reads t c =
    let n = names_of c.args.room.now in
    let s = sample_of c.args.s.now in
    let b = c.read_own-base.ensures in
    let i = c.read_own-index.ensures in
    let br = rw c.deref-in-Pick.ensures at b.reads in
    let bw = rw c.deref-in-Pick.ensures at b.width in
    let ir = rw c.deref-in-Pick-2.ensures at i.reads in
    let iw = rw c.deref-in-Pick-2.ensures at i.width in
    let is = rw c.deref-in-Pick-2.ensures at i.signed in
    rw c.in-Pick.is (pick-read n s c.args.c c.args.calls.now _ _ _ _ c.in-Pick.from c.in-Pick.bits _ _ _ _ _ _ c.picked_at.result.value c.widened.result.value br bw ir iw is c.whole_number-whole.ensures c.picked_at.ensures.value c.widened.ensures.value)

pub eval-returns-in-Bin-clause-reads : goal.eval-returns-in-Bin-clause-reads
eval-returns-in-Bin-clause-reads t c =
    let n = names_of c.args.room.now in
    let s = sample_of c.args.s.now in
    let f = c.operand_forms-forms.ensures in
    let left = rw (c.deref-in-Bin.ensures, c.deref-in-Bin-2.ensures) at f.left in
    let right = rw (c.deref-in-Bin.ensures, c.deref-in-Bin-2.ensures) at f.right in
    let a = rw c.deref-in-Bin-3.ensures at c.eval-a-in-Bin.ensures.reads in
    let b = rw c.deref-in-Bin-4.ensures at c.eval-b.ensures.reads in
    rw c.in-Bin.is (binary-read n s c.args.c c.args.calls.now _ _ c.in-Bin.op _ _ c.operand_forms-forms.result.left c.operand_forms-forms.result.right _ _ _ c.binary.result.value c.widened-in-Bin.result.value left right a b c.eval-a-in-Bin.ensures.width c.binary.ensures.value c.widened-in-Bin.ensures.value)

pub read_parts-loop-part-init : goal.read_parts-loop-part-init
read_parts-loop-part-init t c =
    let p = has-parts (names_of c.args.room.now) c.args.e.now c.in-Cat.list c.in-Cat.is c.requires.sound in
    rw (c.deref-part-items.ensures.value)
    record {
      sound = p.sound;
      small = rw (p.are) p.narrow;
      sum = rw (p.are) (omega arith);
      fits = omega arith;
      leads = λ v after h.
          let z : appended 0 (total_width (names_of c.args.room.now) (exps_of c.in-Cat.list.items)) v ≡ v = omega arith in
          rw (p.are, z) h;
    }

pub read_parts-loop-part-preserved : goal.read_parts-loop-part-preserved
read_parts-loop-part-preserved t c =
    let n = names_of c.args.room.now in
    let s = sample_of c.args.s.now in
    let l = c.loop-part.invariant in
    let e = exps-more c.deref-part-items.result.now c.loop-part.part-index c.part-item.result c.loop-part-test.true c.part-item.is in
    let h = rw e at l.sound in
    let m = rw e at l.sum in
    let b = c.beside-all.ensures in
    let o = c.read_own-next.ensures in
    record {
      sound = h.1;
      small = l.small;
      sum = rw (b.width, o.width) (omega arith);
      fits = b.fits;
      leads = λ v after k.
          let k' = rw b.left at k in
          reads-on n s (parts_of (exp_of c.args.e.now)) c.args.calls.now c.loop-part.all.left.now c.read_own-next.result.left.now (exp_of c.part-item.result) (exps_of (drop (c.loop-part.part-index + 1) c.deref-part-items.result.now)) (exps_of (drop c.loop-part.part-index c.deref-part-items.result.now)) c.loop-part.all.value c.read_own-next.result.bits.width c.read_own-next.result.bits.value c.beside-all.result.value e o.width b.value o.reads l.leads v after k';
    }

pub read_parts-returns-after-loop-part-clause-reads : goal.read_parts-returns-after-loop-part-clause-reads
read_parts-returns-after-loop-part-clause-reads t c =
    let l = c.loop-part.invariant in
    let none = ap exps_of (drop_all c.loop-part.part-index c.deref-part-items.result.now c.loop-part-test.false) in
    reads-whole (names_of c.args.room.now) (sample_of c.args.s.now) (parts_of (exp_of c.args.e.now)) c.args.calls.now c.loop-part.all.left.now _ c.loop-part.all.value none l.leads
