use Rattle.std.proofs.Common.{◌≡◌, ◌∙◌, ◌+◌, ◌-◌, ◌<◌, ◌≤◌, [], ◌∷◌, ap, sym, refl, drop, length, get_or, arith, subst}
use Rattle.std.proofs.lemmas.List.{drop_all}
use Rattle.vl_design.specs.Exec.{some_match}
use Rattle.vl_design.specs.Functions.{scope_of}
use Rattle.vl_design.specs.Trees.{exp_of, exps_of, flat_of}
use Rattle.vl_design.specs.Value.{value}
use Rattle.vl_design.specs.Width.{names_of, form}
use Rattle.vl_run.specs.Cases.{AreWithin}
use Rattle.cell_emit.specs.cell_form.specs.Views.{list_of}
use Rattle.cell_emit.specs.Slots.{width_at, Nothing}
use Rattle.cell_emit.proofs.Frames.{in-stays, grows-then, width-stays, longer-grows}
use Rattle.cell_emit.specs.Envs.{env_of, HasMemories}
use Rattle.cell_emit.proofs.Staying.{fits-stays, is-slot-stays}
use Rattle.cell_expr.specs.Compiled.{Holds}
use Rattle.cell_expr.specs.Counts.{exp_count, labels_count, body_cells}
use Rattle.cell_expr.proofs.Holding.{holds-wider, holds-then}
use Rattle.cell_emit.proofs.Staying.{longer-plain}
use Rattle.ten_form.specs.sub_nodes.specs.Cycles.{way_of, ways_form}
use Rattle.cell_calls.specs.Next.{ways_view, ways_count}
use Rattle.cell_calls.proofs.Nexting.{holds-way, holds-over, holds-number}
use Rattle.cell_calls.proofs.Ways.{ways-within, subject-within, ways-read}
use Rattle.cell_calls.proofs.next.switch.Goals as goal

pub compile-requires-clause-wide : goal.compile-requires-clause-wide
compile-requires-clause-wide c =
    let names = names_of (flat_of c.args.design.now) in
    let f = form names (exp_of c.args.subject.now) in
    rw c.ways_context-c.ensures.value (subject-within names f (ways_view c.args.ways.now))

pub loop-tried-init : goal.loop-tried-init
loop-tried-init c =
    let d = flat_of c.args.design.now in
    let names = names_of d in
    let at = env_of c.args.at.now in
    let ws = c.args.ways.now in
    let e = exp_of c.args.subject.now in
    let l0 = list_of c.args.cells.now in
    let l1 = list_of c.compile.new.cells in
    let l2 = list_of c.number.new.cells in
    let n = exp_count (body_cells d) e in
    let g02 = grows-then l0 l1 l2 c.in_ok-subject.ensures.grows c.in_ok-next.ensures.grows in
    let none : drop (length ws - 0) ws ≡ [] = drop_all (length ws - 0) ws (omega arith) in
    let num = c.in_ok-next.ensures.gives in
    record {
      grows = g02;
      fits = fits-stays names l0 l2 at g02 c.requires.fits;
      slot = is-slot-stays l1 l2 c.in_ok-subject.subject c.ways_context-c.result.width c.in_ok-next.ensures.grows (c.in_ok-subject.ensures.gives []).slot;
      subject = λ files. subst (λ left. Holds names (n + 1 + ways_count (body_cells d) (ways_view left)) at l0 l2 c.in_ok-subject.subject c.ways_context-c.result.width (λ x. value (scope_of d files) x e c.ways_context-c.result)) (sym none)
          (holds-wider names at (n + 1) (n + 1 + 0) l0 l2 c.in_ok-subject.subject c.ways_context-c.result.width _ (omega arith)
          (holds-then names at n 1 l0 l1 l2 c.in_ok-subject.subject c.ways_context-c.result.width (λ x. value (scope_of d files) x e c.ways_context-c.result) (longer-plain names at 1 1 l1 l2 (omega arith) num.longer) (c.in_ok-subject.ensures.gives files)));
      next = λ files. subst (λ left. Holds names (n + 1 + ways_count (body_cells d) (ways_view left)) at l0 l2 c.in_ok-next.next 32 (λ x. way_of (scope_of d files) x (value (scope_of d files) x e c.ways_context-c.result) c.ways_context-c.result (ways_view left) c.args.otherwise)) (sym none)
          (holds-wider names at (n + 1) (n + 1 + 0) l0 l2 c.in_ok-next.next 32 _ (omega arith)
          (holds-number names at n c.args.otherwise l0 l1 l2 c.in_ok-next.next c.requires.fits (c.in_ok-subject.ensures.gives files).longer num));
    }

pub labels-requires-clause-subject : goal.labels-requires-clause-subject
labels-requires-clause-subject c = c.loop-tried.invariant.slot

pub labels-requires-clause-rest : goal.labels-requires-clause-rest
labels-requires-clause-rest c = c.loop-tried.invariant.fits.here

pub labels-requires-clause-within : goal.labels-requires-clause-within
labels-requires-clause-within c =
    let names = names_of (flat_of c.args.design.now) in
    let f = form names (exp_of c.args.subject.now) in
    let ws = c.args.ways.now in
    let i = length ws - 1 - c.loop-tried.tried in
    let lt = c.loop-tried-test.true in
    rw c.ways_context-c.ensures.value (rw c.index-ways-ways.is (ways-within names f ws i c.index-ways-ways.result (omega (arith, lt))))

pub labels-requires-clause-fits : goal.labels-requires-clause-fits
labels-requires-clause-fits c = c.loop-tried.invariant.fits

pub returns-in_err-behind-clause-grows : goal.returns-in_err-behind-clause-grows
returns-in_err-behind-clause-grows c = grows-then (list_of c.args.cells.now) (list_of c.loop-tried.cells) (list_of c.labels.new.cells) c.loop-tried.invariant.grows c.labels.ensures.grows

pub returns-in_err-to-clause-grows : goal.returns-in_err-to-clause-grows
returns-in_err-to-clause-grows c =
    let l0 = list_of c.args.cells.now in
    let l1 = list_of c.loop-tried.cells in
    let l2 = list_of c.labels.new.cells in
    grows-then l0 l1 (list_of c.number-in-loop-tried.new.cells) c.loop-tried.invariant.grows (grows-then l1 l2 (list_of c.number-in-loop-tried.new.cells) c.in_ok-behind.ensures.grows c.number-in-loop-tried.ensures.grows)

pub mux-requires-clause-test : goal.mux-requires-clause-test
mux-requires-clause-test c = in-stays (list_of c.labels.new.cells) (list_of c.number-in-loop-tried.new.cells) c.in_ok-behind.behind c.in_ok-to.ensures.grows (c.in_ok-behind.ensures.compares []).slot.there

pub mux-requires-clause-second : goal.mux-requires-clause-second
mux-requires-clause-second c =
    let l1 = list_of c.loop-tried.cells in
    let l2 = list_of c.labels.new.cells in
    let l3 = list_of c.number-in-loop-tried.new.cells in
    in-stays l1 l3 c.loop-tried.next (grows-then l1 l2 l3 c.in_ok-behind.ensures.grows c.in_ok-to.ensures.grows) (c.loop-tried.invariant.next []).slot.there

pub mux-requires-clause-one_width : goal.mux-requires-clause-one_width
mux-requires-clause-one_width c =
    let l1 = list_of c.loop-tried.cells in
    let l2 = list_of c.labels.new.cells in
    let l3 = list_of c.number-in-loop-tried.new.cells in
    let h = (c.loop-tried.invariant.next []).slot in
    width-stays l1 l3 c.loop-tried.next (grows-then l1 l2 l3 c.in_ok-behind.ensures.grows c.in_ok-to.ensures.grows) h.there ∙ h.width ∙ sym c.in_ok-to.ensures.gives.width

pub returns-in_err-next-2-clause-grows : goal.returns-in_err-next-2-clause-grows
returns-in_err-next-2-clause-grows c =
    let l0 = list_of c.args.cells.now in
    let l1 = list_of c.loop-tried.cells in
    let l2 = list_of c.labels.new.cells in
    let l3 = list_of c.number-in-loop-tried.new.cells in
    let l4 = list_of c.mux.new.cells in
    grows-then l0 l1 l4 c.loop-tried.invariant.grows (grows-then l1 l2 l4 c.in_ok-behind.ensures.grows (grows-then l2 l3 l4 c.in_ok-to.ensures.grows c.mux.ensures.grows))

pub loop-tried-preserved : goal.loop-tried-preserved
loop-tried-preserved c =
    let d = flat_of c.args.design.now in
    let names = names_of d in
    let body = body_cells d in
    let at = env_of c.args.at.now in
    let ws = c.args.ways.now in
    let e = exp_of c.args.subject.now in
    let f = c.ways_context-c.result in
    let k = c.loop-tried.tried in
    let lt = c.loop-tried-test.true in
    let x = c.index-ways-ways.result in
    let i = length ws - 1 - k in
    let l0 = list_of c.args.cells.now in
    let l1 = list_of c.loop-tried.cells in
    let l2 = list_of c.labels.new.cells in
    let l3 = list_of c.number-in-loop-tried.new.cells in
    let l4 = list_of c.mux.new.cells in
    let inv = c.loop-tried.invariant in
    let rest = ways_view (drop (length ws - k) ws) in
    let m = exp_count body e + 1 + ways_count body rest in
    let n = labels_count body (exps_of x.labels.now) in
    let g14 = grows-then l1 l2 l4 c.in_ok-behind.ensures.grows (grows-then l2 l3 l4 c.in_ok-to.ensures.grows c.in_ok-next-2.ensures.grows) in
    let one : length ws - (k + 1) ≡ i = omega arith in
    let two : i + 1 ≡ length ws - k = omega (arith, lt) in
    let left : ways_view (drop (length ws - (k + 1)) ws) ≡ record { labels = exps_of x.labels.now; to = x.to } ∷ rest =
    ap (λ j. ways_view (drop j ws)) one ∙ ways-read ws i x (omega (arith, lt)) c.index-ways-ways.is ∙ ap (λ j. record { labels = exps_of x.labels.now; to = x.to } ∷ ways_view (drop j ws)) two in
    let wide : width_at l3 c.in_ok-to.to ≡ 32 = c.in_ok-to.ensures.gives.width in
    record {
      grows = grows-then l0 l1 l4 inv.grows g14;
      fits = fits-stays names l1 l4 at g14 inv.fits;
      slot = is-slot-stays l1 l4 c.in_ok-subject.subject f.width g14 inv.slot;
      subject = λ files. subst (λ left. Holds names (exp_count body e + 1 + ways_count body left) at l0 l4 c.in_ok-subject.subject f.width (λ x. value (scope_of d files) x e f)) (sym left)
          (holds-wider names at (m + (n + 2)) _ l0 l4 c.in_ok-subject.subject f.width _ (omega arith)
          (holds-over names at m n m f.width (width_at l3 c.in_ok-to.to) (λ x. value (scope_of d files) x e f) _ _ l0 l1 l2 l3 l4 c.in_ok-subject.subject c.in_ok-to.to c.in_ok-next-2.next (inv.subject files) (c.in_ok-behind.ensures.compares files).longer c.in_ok-to.ensures.gives c.in_ok-next-2.ensures.gives));
      next = λ files. subst (λ left. Holds names (exp_count body e + 1 + ways_count body left) at l0 l4 c.in_ok-next-2.next 32 (λ x. way_of (scope_of d files) x (value (scope_of d files) x e f) f left c.args.otherwise)) (sym left)
          (holds-wider names at (m + (n + 2)) _ l0 l4 c.in_ok-next-2.next 32 _ (omega arith)
          (holds-way names at (scope_of d files) f m n m f.width (width_at l3 c.in_ok-to.to) (exps_of x.labels.now) (λ x. way_of (scope_of d files) x (value (scope_of d files) x e f) f rest c.args.otherwise) (λ x. value (scope_of d files) x e f)
          l0 l1 l2 l3 l4 c.loop-tried.next c.in_ok-subject.subject c.args.at.now.here c.in_ok-behind.behind c.in_ok-to.to c.in_ok-next-2.next x.to refl c.requires.fits (inv.next files) (inv.subject files) refl (c.in_ok-behind.ensures.compares files) c.in_ok-to.ensures.gives wide c.in_ok-next-2.ensures.gives));
    }

pub returns-clause-grows : goal.returns-clause-grows
returns-clause-grows c = c.loop-tried.invariant.grows

pub returns-clause-holds : goal.returns-clause-holds
returns-clause-holds c files =
    let d = flat_of c.args.design.now in
    let names = names_of d in
    let body = body_cells d in
    let ws = c.args.ways.now in
    let e = exp_of c.args.subject.now in
    let f = c.ways_context-c.result in
    let past = c.loop-tried-test.false in
    let none : length ws - c.loop-tried.tried ≡ 0 = omega (arith, past) in
    let h = subst (λ j. Holds names (exp_count body e + 1 + ways_count body (ways_view (drop j ws))) (env_of c.args.at.now) (list_of c.args.cells.now) (list_of c.loop-tried.cells) c.loop-tried.next 32 (λ x. way_of (scope_of d files) x (value (scope_of d files) x e f) f (ways_view (drop j ws)) c.args.otherwise)) none (c.loop-tried.invariant.next files) in
    rw (sym c.ways_context-c.ensures.value) h
