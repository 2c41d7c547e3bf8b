use Rattle.cell_expr.proofs.Adding.{whole-of, word-of, slice-of, pick-of}
use Rattle.cell_expr.proofs.Listing.{none-right, none-left}
use Rattle.cell_expr.proofs.Setting.{spotted-none, spotted-then}
use Rattle.cell_expr.proofs.Sizes.{targets_size, target-part}
use Rattle.cell_expr.specs.Contexts.{names_of, body_of}
use Rattle.cell_expr.specs.Counts.{indices_count, all_indices_count, parts_count, all_parts_count}
use Rattle.cell_emit.specs.cell_form.specs.Views.{list_of}
use Rattle.cell_emit.proofs.Staying.{fits-stays}
use Rattle.cell_emit.specs.Envs.{env_of}
use Rattle.cell_emit.proofs.Frames.{grows-then}
use Rattle.std.proofs.Common.{◌+◌, refl, drop, ◌≡◌, ◌*◌, arith, rules, w32}
use Rattle.std.proofs.lemmas.Int.{to_z-of_z}
use Rattle.std.proofs.lemmas.List.{drop_all}
use Rattle.vl_design.specs.Trees.{target_of}
use Rattle.vl_run.proofs.Spotting.{targets-more, list-of}
use Rattle.vl_run.specs.Lists.{targets_of}
use Rattle.cell_expr.proofs.context.Context.+spots.Goals as goal

pub targets_in-loop-part-preserved : goal.targets_in-loop-part-preserved
targets_in-loop-part-preserved g t c =
    let names = names_of c.args.self.now in
    let body = body_of c.args.self.now in
    let parts = c.args.parts.now in
    let i = c.loop-part.part-index in
    let x = c.part-item.result in
    let l = c.loop-part.invariant in
    let e = targets-more parts i x c.loop-part-test.true c.part-item.is in
    let s = rw e at l.sound in
    let w = rw e at l.apart in
    let at = env_of c.args.at.now in
    let l0 = list_of c.loop-part.cells in
    let l1 = list_of c.spots_in.new.cells in
    let g = c.in_ok-spots_in.ensures.grows in
    record {
      grows = grows-then (list_of c.args.cells.now) l0 l1 l.grows g;
      fits = fits-stays names l0 l1 at g l.fits;
      sound = s.1;
      apart = none-right _ _ w;
      leads = λ files after new h. l.leads files after new (rw e (spotted-then names (indices_count body (target_of x)) (all_indices_count body (targets_of (drop (i + 1) parts))) at l0 l1 new
          c.loop-part.spots.items c.spots_in.new.spots.items after _ _ (parts_count (target_of x)) (all_parts_count (targets_of (drop (i + 1) parts))) _ _ _ _ _ (λ later. refl) l.fits (c.in_ok-spots_in.ensures.spotted files) h));
    }

pub targets_in-returns-clause-spotted : goal.targets_in-returns-clause-spotted
targets_in-returns-clause-spotted g t c = λ files.
    let l = c.loop-part.invariant in
    let none = drop_all c.loop-part.part-index c.args.parts.now c.loop-part-test.false in
    let cells = list_of c.loop-part.cells in
    l.leads files c.loop-part.spots.items cells (rw none (spotted-none (names_of c.args.self.now) (env_of c.args.at.now) cells c.loop-part.spots.items))

pub spots_in-whole_in-requires-clause-sound : goal.spots_in-whole_in-requires-clause-sound
spots_in-whole_in-requires-clause-sound g t c =
    let e = whole-of c.args.target.now c.in-Sig.field-0 c.in-Sig.is in
    rw e (rw e at c.requires.sound)

pub spots_in-whole_in-requires-in-Word-clause-sound : goal.spots_in-whole_in-requires-in-Word-clause-sound
spots_in-whole_in-requires-in-Word-clause-sound g t c =
    let e = word-of c.args.target.now c.in-Word.field-0 c.in-Word.field-1 c.in-Word.is in
    rw e (rw e at c.requires.sound)

pub spots_in-slice_target_in-requires-clause-sound : goal.spots_in-slice_target_in-requires-clause-sound
spots_in-slice_target_in-requires-clause-sound g t c =
    let e = slice-of c.args.target.now c.in-Slice.base c.in-Slice.low c.in-Slice.width c.in-Slice.is in
    let p = rw e at c.requires.sound in
    rw c.deref.ensures p

pub spots_in-slice_target_in-requires-clause-apart : goal.spots_in-slice_target_in-requires-clause-apart
spots_in-slice_target_in-requires-clause-apart g t c =
    let e = slice-of c.args.target.now c.in-Slice.base c.in-Slice.low c.in-Slice.width c.in-Slice.is in
    let p = rw e at c.requires.apart in
    rw c.deref.ensures p

pub spots_in-pick_target_in-requires-clause-sound : goal.spots_in-pick_target_in-requires-clause-sound
spots_in-pick_target_in-requires-clause-sound g t c =
    let e = pick-of c.args.target.now c.in-Pick.base c.in-Pick.index c.in-Pick.from c.in-Pick.width c.in-Pick.is in
    let p = rw e at c.requires.sound in
    rw (c.deref-in-Pick.ensures, c.deref-in-Pick-2.ensures) p

pub spots_in-pick_target_in-requires-clause-apart : goal.spots_in-pick_target_in-requires-clause-apart
spots_in-pick_target_in-requires-clause-apart g t c =
    let e = pick-of c.args.target.now c.in-Pick.base c.in-Pick.index c.in-Pick.from c.in-Pick.width c.in-Pick.is in
    let p = rw e at c.requires.apart in
    rw c.deref-in-Pick.ensures p

pub spots_in-returns-in-Slice-clause-spotted : goal.spots_in-returns-in-Slice-clause-spotted
spots_in-returns-in-Slice-clause-spotted g t c =
    let e = slice-of c.args.target.now c.in-Slice.base c.in-Slice.low c.in-Slice.width c.in-Slice.is in
    let plain = to_z-of_z w32 c.in-Slice.low (search rules) in
    let done = rw (c.deref.ensures, plain) at c.slice_target_in.ensures.spotted in
    rw e done

pub spots_in-returns-in-Pick-clause-spotted : goal.spots_in-returns-in-Pick-clause-spotted
spots_in-returns-in-Pick-clause-spotted g t c =
    let e = pick-of c.args.target.now c.in-Pick.base c.in-Pick.index c.in-Pick.from c.in-Pick.width c.in-Pick.is in
    let done = rw (c.deref-in-Pick.ensures, c.deref-in-Pick-2.ensures) at c.pick_target_in.ensures.spotted in
    rw e done

pub spots_in-returns-in-List-clause-spotted : goal.spots_in-returns-in-List-clause-spotted
spots_in-returns-in-List-clause-spotted g t c =
    let e = list-of c.args.target.now c.in-List.parts c.in-List.is in
    let done = rw c.deref-in-List.ensures.value at c.targets_in.ensures.spotted in
    rw e done

pub targets_in-spots_in-requires : goal.targets_in-spots_in-requires
targets_in-spots_in-requires g t c =
    let m : 4 * targets_size (targets_of c.args.parts.now) + 2 ≡ t = c.decreases in
    let i = c.loop-part.part-index in
    let x = c.part-item.result in
    let l = c.loop-part.invariant in
    let p = target-part c.args.parts.now i x c.loop-part-test.true c.part-item.is in
    let e = targets-more c.args.parts.now i x c.loop-part-test.true c.part-item.is in
    let s = rw e at l.sound in
    let w = rw e at l.apart in
    λ κs lives. (omega (arith, m, p), (lives, (c.requires.functions, (s.0, (none-left _ _ w, l.fits)))))

pub spots_in-targets_in-requires : goal.spots_in-targets_in-requires
spots_in-targets_in-requires g t c =
    let e = list-of c.args.target.now c.in-List.parts c.in-List.is in
    let m = rw e at c.decreases in
    let s = rw e at c.requires.sound in
    let w = rw e at c.requires.apart in
    rw c.deref-in-List.ensures.value (λ κs lives. (omega (arith, m), (lives, (c.requires.functions, (s.1, (w, c.requires.fits))))))

pub targets_in-returns-in_err-spots_in-clause-grows : goal.targets_in-returns-in_err-spots_in-clause-grows
targets_in-returns-in_err-spots_in-clause-grows g t c =
    let l0 = list_of c.args.cells.now in
    let l1 = list_of c.loop-part.cells in
    let l2 = list_of c.spots_in.new.cells in
    grows-then l0 l1 l2 c.loop-part.invariant.grows c.spots_in.ensures.grows

pub targets_in-returns-clause-grows : goal.targets_in-returns-clause-grows
targets_in-returns-clause-grows g t c = c.loop-part.invariant.grows

pub spots_in-returns-in-Sig-clause-grows : goal.spots_in-returns-in-Sig-clause-grows
spots_in-returns-in-Sig-clause-grows g t c = c.whole_in.ensures.grows

pub spots_in-returns-in-Word-clause-grows : goal.spots_in-returns-in-Word-clause-grows
spots_in-returns-in-Word-clause-grows g t c = c.whole_in-in-Word.ensures.grows

pub spots_in-returns-in-Slice-clause-grows : goal.spots_in-returns-in-Slice-clause-grows
spots_in-returns-in-Slice-clause-grows g t c = c.slice_target_in.ensures.grows

pub spots_in-returns-in-Pick-clause-grows : goal.spots_in-returns-in-Pick-clause-grows
spots_in-returns-in-Pick-clause-grows g t c = c.pick_target_in.ensures.grows

pub spots_in-returns-in-List-clause-grows : goal.spots_in-returns-in-List-clause-grows
spots_in-returns-in-List-clause-grows g t c = c.targets_in.ensures.grows
