use Rattle.std.proofs.Common.{◌∙◌, ◌+◌, ◌≤◌, [], drop, subst, sym}
use Rattle.std.proofs.lemmas.List.{drop_all}
use Rattle.vl_design.specs.Trees.{exp_of, exps_of}
use Rattle.vl_eval.proofs.Rows.{exps-more}
use Rattle.cell_emit.specs.cell_form.specs.Views.{list_of}
use Rattle.cell_emit.specs.Slots.{Nothing, width_at}
use Rattle.cell_emit.proofs.Frames.{grows-then, in-stays}
use Rattle.cell_emit.specs.Envs.{env_of}
use Rattle.cell_emit.proofs.Casing.{compares-none}
use Rattle.cell_emit.proofs.Staying.{fits-stays, is-slot-stays, gives-slot}
use Rattle.cell_expr.specs.Contexts.{names_of, scope_of, body_of}
use Rattle.cell_expr.specs.Counts.{exp_count, labels_count, in_count}
use Rattle.cell_expr.proofs.Labelling.{label-compares}
use Rattle.cell_expr.proofs.context.Context.labels_in.Goals as goal
use Rattle.cell_expr.proofs.Counting.{in-most}
use Rattle.cell_expr.proofs.Holding.{holds-wider}
use Rattle.vl_design.specs.Value.{value}

pub differs-requires-clause-label : goal.differs-requires-clause-label
differs-requires-clause-label g c = (c.in_ok-slot.ensures.gives []).slot.there

pub differs-requires-clause-one_width : goal.differs-requires-clause-one_width
differs-requires-clause-one_width g c =
    (is-slot-stays (list_of c.loop-label.cells) (list_of c.compile_in.new.cells) c.args.subject c.args.c.width c.in_ok-slot.ensures.grows c.loop-label.invariant.subject).width
    ∙ sym (c.in_ok-slot.ensures.gives []).slot.width

pub open_behind-requires-clause-never : goal.open_behind-requires-clause-never
open_behind-requires-clause-never g c =
    let l0 = list_of c.loop-label.cells in
    let l1 = list_of c.compile_in.new.cells in
    let l2 = list_of c.differs.new.cells in
    (fits-stays (names_of c.args.self.now) l0 l2 (env_of c.args.at.now) (grows-then l0 l1 l2 c.in_ok-slot.ensures.grows c.in_ok-apart.ensures.grows) c.loop-label.invariant.fits).is_away

pub loop-label-preserved : goal.loop-label-preserved
loop-label-preserved g c =
    let names = names_of c.args.self.now in
    let body = body_of c.args.self.now in
    let labels = c.args.labels.now in
    let i = c.loop-label.label-index in
    let x = c.label-item.result in
    let l = c.loop-label.invariant in
    let e = exps-more labels i x c.loop-label-test.true c.label-item.is in
    let s = rw e at l.sound in
    let w = rw e at l.within in
    let at = env_of c.args.at.now in
    let l0 = list_of c.loop-label.cells in
    let l1 = list_of c.compile_in.new.cells in
    let l2 = list_of c.differs.new.cells in
    let l3 = list_of c.open_behind.new.cells in
    let g02 = grows-then l0 l1 l2 c.in_ok-slot.ensures.grows c.in_ok-apart.ensures.grows in
    let g03 = grows-then l0 l2 l3 g02 c.in_ok-left.ensures.grows in
    let rest = exps_of (drop (i + 1) labels) in
    record {
      grows = grows-then (list_of c.args.cells.now) l0 l3 l.grows g03;
      fits = fits-stays names l0 l3 at g03 l.fits;
      subject = is-slot-stays l0 l3 c.args.subject c.args.c.width g03 l.subject;
      path = gives-slot Nothing 1 l2 l3 c.in_ok-left.left 1 _ c.in_ok-left.ensures.gives;
      sound = s.1;
      within = w.1;
      leads = λ files r new h. l.leads files r new (rw e (label-compares (scope_of c.args.self.now files) c.args.c (exp_count body (exp_of x)) (labels_count body rest) c.args.subject c.in_ok-slot.slot c.in_ok-apart.apart c.loop-label.left c.in_ok-left.left r
          (width_at l1 c.args.subject) c.care_of-care.result (exp_of x) rest at l0 l1 l2 l3 new l.fits l.subject.there l.path.there c.care_of-care.ensures (holds-wider names at (in_count names body c.args.c.width (exp_of x)) (exp_count body (exp_of x)) l0 l1 c.in_ok-slot.slot c.args.c.width (λ y. value (scope_of c.args.self.now files) y (exp_of x) c.args.c) (in-most names body (exp_of x) c.args.c.width) (c.in_ok-slot.ensures.gives files)) c.in_ok-apart.ensures.gives c.in_ok-left.ensures.gives h));
    }

pub returns-clause-compares : goal.returns-clause-compares
returns-clause-compares g c = λ files.
    let l = c.loop-label.invariant in
    let none = drop_all c.loop-label.label-index c.args.labels.now c.loop-label-test.false in
    let cells = list_of c.loop-label.cells in
    l.leads files c.loop-label.left cells (rw none (compares-none (names_of c.args.self.now) (scope_of c.args.self.now files) c.args.c c.args.subject c.loop-label.left (env_of c.args.at.now) cells l.path))

pub compile_in-requires-clause-expression : goal.compile_in-requires-clause-expression
compile_in-requires-clause-expression g c =
    let l = c.loop-label.invariant in
    let e = exps-more c.args.labels.now c.loop-label.label-index c.label-item.result c.loop-label-test.true c.label-item.is in
    (rw e at l.sound).0

pub compile_in-requires-clause-wide : goal.compile_in-requires-clause-wide
compile_in-requires-clause-wide g c =
    let l = c.loop-label.invariant in
    let e = exps-more c.args.labels.now c.loop-label.label-index c.label-item.result c.loop-label-test.true c.label-item.is in
    (rw e at l.within).0

pub compile_in-requires-clause-fits : goal.compile_in-requires-clause-fits
compile_in-requires-clause-fits g c = c.loop-label.invariant.fits

pub care_of-care-requires-clause-label : goal.care_of-care-requires-clause-label
care_of-care-requires-clause-label g c =
    let l = c.loop-label.invariant in
    let e = exps-more c.args.labels.now c.loop-label.label-index c.label-item.result c.loop-label-test.true c.label-item.is in
    (rw e at l.sound).0

pub care_of-care-requires-clause-within : goal.care_of-care-requires-clause-within
care_of-care-requires-clause-within g c =
    let l = c.loop-label.invariant in
    let e = exps-more c.args.labels.now c.loop-label.label-index c.label-item.result c.loop-label-test.true c.label-item.is in
    (rw e at l.within).0

pub differs-requires-clause-subject : goal.differs-requires-clause-subject
differs-requires-clause-subject g c = in-stays (list_of c.loop-label.cells) (list_of c.compile_in.new.cells) c.args.subject c.in_ok-slot.ensures.grows c.loop-label.invariant.subject.there

pub differs-requires-clause-wide : goal.differs-requires-clause-wide
differs-requires-clause-wide g c =
    let same = (is-slot-stays (list_of c.loop-label.cells) (list_of c.compile_in.new.cells) c.args.subject c.args.c.width c.in_ok-slot.ensures.grows c.loop-label.invariant.subject).width in
    subst (λ n. 1 ≤ n) (sym same) c.requires.context.wide

pub differs-requires-clause-narrow : goal.differs-requires-clause-narrow
differs-requires-clause-narrow g c =
    let same = (is-slot-stays (list_of c.loop-label.cells) (list_of c.compile_in.new.cells) c.args.subject c.args.c.width c.in_ok-slot.ensures.grows c.loop-label.invariant.subject).width in
    subst (λ n. n ≤ 128) (sym same) c.requires.context.narrow

pub open_behind-requires-clause-differs : goal.open_behind-requires-clause-differs
open_behind-requires-clause-differs g c = c.in_ok-apart.ensures.gives.there

pub open_behind-requires-clause-rest : goal.open_behind-requires-clause-rest
open_behind-requires-clause-rest g c =
    let l0 = list_of c.loop-label.cells in
    let l1 = list_of c.compile_in.new.cells in
    let l2 = list_of c.differs.new.cells in
    is-slot-stays l0 l2 c.loop-label.left 1 (grows-then l0 l1 l2 c.in_ok-slot.ensures.grows c.in_ok-apart.ensures.grows) c.loop-label.invariant.path

pub open_behind-requires-clause-away : goal.open_behind-requires-clause-away
open_behind-requires-clause-away g c =
    let l0 = list_of c.loop-label.cells in
    let l1 = list_of c.compile_in.new.cells in
    let l2 = list_of c.differs.new.cells in
    (fits-stays (names_of c.args.self.now) l0 l2 (env_of c.args.at.now) (grows-then l0 l1 l2 c.in_ok-slot.ensures.grows c.in_ok-apart.ensures.grows) c.loop-label.invariant.fits).away

pub returns-in_err-slot-clause-grows : goal.returns-in_err-slot-clause-grows
returns-in_err-slot-clause-grows g c =
    let l0 = list_of c.args.cells.now in
    let l1 = list_of c.loop-label.cells in
    let l2 = list_of c.compile_in.new.cells in
    grows-then l0 l1 l2 c.loop-label.invariant.grows c.compile_in.ensures.grows

pub returns-in_err-apart-clause-grows : goal.returns-in_err-apart-clause-grows
returns-in_err-apart-clause-grows g c =
    let l0 = list_of c.args.cells.now in
    let l1 = list_of c.loop-label.cells in
    let l2 = list_of c.compile_in.new.cells in
    let l3 = list_of c.differs.new.cells in
    grows-then l0 l1 l3 c.loop-label.invariant.grows (grows-then l1 l2 l3 c.in_ok-slot.ensures.grows c.differs.ensures.grows)

pub returns-in_err-left-clause-grows : goal.returns-in_err-left-clause-grows
returns-in_err-left-clause-grows g c =
    let l0 = list_of c.args.cells.now in
    let l1 = list_of c.loop-label.cells in
    let l2 = list_of c.compile_in.new.cells in
    let l3 = list_of c.differs.new.cells in
    let l4 = list_of c.open_behind.new.cells in
    grows-then l0 l1 l4 c.loop-label.invariant.grows (grows-then l1 l2 l4 c.in_ok-slot.ensures.grows (grows-then l2 l3 l4 c.in_ok-apart.ensures.grows c.open_behind.ensures.grows))

pub returns-clause-grows : goal.returns-clause-grows
returns-clause-grows g c = c.loop-label.invariant.grows
