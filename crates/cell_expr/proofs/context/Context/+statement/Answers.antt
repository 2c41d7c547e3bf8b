use Rattle.cell_expr.proofs.Labelling.{case-does, case-leaves}
use Rattle.cell_expr.proofs.Listing.{apart-at, then-more, none-left, none-right, list-then, list-both, list-none, waits-at, items-wait-at}
use Rattle.cell_expr.proofs.Nets.{if-segment, set-segment, later-segment}
use Rattle.cell_expr.proofs.Sizes.{exp_size, stm_size, items_size, item-part, stm-part}
use Rattle.cell_expr.proofs.Stepping.{steps-body, steps-item, steps-items, steps-first, steps-second}
use Rattle.cell_expr.proofs.Trying.{tried-default, tried-item, item-sound, item-segment, item-apart, others-apart, stored-default, stored-item, default-words, default-sound, default-segment, default-apart}
use Rattle.cell_expr.specs.Bodies.{IsSegment, CanWait}
use Rattle.cell_expr.specs.Contexts.{names_of, scope_of, body_of}
use Rattle.cell_expr.specs.Counts.{own_count, stm_count}
use Rattle.cell_emit.specs.vl_sites.specs.Stored.{stored_words, items_stored, default_stored}
use Rattle.cell_emit.specs.cell_form.specs.Views.{list_of}
use Rattle.cell_emit.proofs.Keeping.{pending-stays}
use Rattle.cell_emit.proofs.Leaving.{leaves-nop, leaves-set, leaves-then, leaves-if, leaves-no-items}
use Rattle.cell_emit.specs.Delays.{Leaves}
use Rattle.cell_emit.specs.Pendings.{slots_of, memories_of}
use Rattle.cell_emit.proofs.Casing.{tries-none}
use Rattle.cell_emit.proofs.Staying.{fits-stays, is-slot-stays, gives-slot}
use Rattle.cell_emit.proofs.Testing.{does-if}
use Rattle.cell_emit.proofs.Walking.{does-nop, does-then}
use Rattle.cell_emit.specs.Envs.{env_of}
use Rattle.cell_emit.specs.Paths.{Does}
use Rattle.cell_emit.proofs.Frames.{grows-same, grows-then}
use Rattle.cell_emit.specs.Slots.{Nothing}
use Rattle.std.proofs.Common.{[], ◌≡◌, ◌+◌, ◌++◌, List, drop, ◌∙◌, sym, ap, subst, append-nil, nat_lt, false, ◌*◌, arith, length}
use Rattle.std.proofs.lemmas.List.{drop_all}
use Rattle.std.proofs.lemmas.Result.{IfOk-weaker, on_ok_weaker}
use Rattle.vl_base.specs.declared.files.File.{File}
use Rattle.vl_design.proofs.TreeLemmas.{stm_of-Seq}
use Rattle.vl_design.specs.Acts.{default_body}
use Rattle.vl_design.specs.Exec.{exec}
use Rattle.vl_design.specs.Reads.{stm_writes}
use Rattle.vl_design.specs.Sound.{IsSoundStm}
use Rattle.vl_design.specs.Syntax.{Stm, Set}
use Rattle.vl_design.specs.Trees.{stm_of, exp_of, then_of, target_of}
use Rattle.vl_design.specs.Width.{form}
use Rattle.vl_eval.proofs.Widths.{form-width}
use Rattle.vl_run.proofs.Casing.{none-there, some-there, items-more, labels-within-more, labels-sound, items-grow, items-within, body-is, case-of}
use Rattle.vl_run.specs.Cases.{items_of, AreLabelsWithin}
use Rattle.vl_design.specs.Seen as seen
use Rattle.cell_expr.proofs.context.Context.+statement.Goals as goal

pub item_in-taken-requires-clause-behind : goal.item_in-taken-requires-clause-behind
item_in-taken-requires-clause-behind g t c = (c.in_ok-behind.ensures.compares []).slot.there

pub item_in-taken-requires-clause-never : goal.item_in-taken-requires-clause-never
item_in-taken-requires-clause-never g t c = (fits-stays (names_of c.args.self.now) (list_of c.args.cells.now) (list_of c.labels_in.new.cells) (env_of c.args.at.now) c.in_ok-behind.ensures.grows c.requires.fits).is_away

pub item_in-returns-clause-does : goal.item_in-returns-clause-does
item_in-returns-clause-does g t c = λ files.
    let labels = rw c.deref.ensures.value at (c.in_ok-behind.ensures.compares files) in
    record {
      compared = list_of c.labels_in.new.cells;
      ready = list_of c.taken.new.cells;
      taken = c.in_ok-path.path;
      labels = labels;
      path = c.in_ok-path.ensures.gives;
      does = c.in_ok-statement_in.ensures.does files;
      leaves = c.in_ok-statement_in.ensures.leaves files;
    }

pub try_in-returns-then-is_empty-clause-tries : goal.try_in-returns-then-is_empty-clause-tries
try_in-returns-then-is_empty-clause-tries g t c = λ files.
    let x = c.args.item.now in
    let test = rw c.as_slice.ensures.value at c.is_empty.ensures in
    let ctx = c.args.self.now in
    tried-default (scope_of ctx files) (body_of ctx) c.args.c c.args.subject c.args.rest x.labels.items (stm_of [] x.body) (env_of c.args.at.now) (slots_of c.args.pending.now) (list_of c.args.cells.now) (none-there x.labels.items c.is_empty.result test c.if-is_empty.true) c.requires.fits c.requires.rest c.requires.pending

pub try_in-returns-else-is_empty-clause-tries : goal.try_in-returns-else-is_empty-clause-tries
try_in-returns-else-is_empty-clause-tries g t c =
    let x = c.args.item.now in
    let test = rw c.as_slice.ensures.value at c.is_empty.ensures in
    let ctx = c.args.self.now in
    IfOk-weaker c.item_in.result _ _
    (λ r d files. tried-item (scope_of ctx files) (body_of ctx) c.args.c c.args.subject c.args.rest r x.labels.items (stm_of [] x.body) (env_of c.args.at.now) (env_of c.item_in.new.at) (slots_of c.args.pending.now) (slots_of c.item_in.new.pending) (list_of c.args.cells.now) (list_of c.item_in.new.cells)
    (some-there x.labels.items c.is_empty.result test c.if-is_empty.false) c.requires.fits c.requires.subject c.requires.rest c.requires.pending (d files))
    c.item_in.ensures.does

pub items_in-loop-item-preserved : goal.items_in-loop-item-preserved
items_in-loop-item-preserved g t c =
    let names = names_of c.args.self.now in
    let items = c.args.items.now in
    let i = c.loop-item.item-index in
    let x = c.item-item.result in
    let l = c.loop-item.invariant in
    let e = items-more [] items i x c.loop-item-test.true c.item-item.is in
    let es = seen.exps_of x.labels.items in
    let a = stm_of [] x.body in
    let others = items_of [] (drop (i + 1) items) in
    let s = rw e at l.sound in
    let n = rw e at l.segment in
    let w = rw e at l.apart in
    let d = c.in_ok-rest.ensures.tries in
    let g = c.in_ok-rest.ensures.grows in
    let l0 = list_of c.loop-item.cells in
    let l1 = list_of c.try_in.new.cells in
    record {
      grows = grows-then (list_of c.args.cells.now) l0 l1 l.grows g;
      fits = (d []).fits;
      subject = is-slot-stays l0 l1 c.args.subject c.args.c.width g l.subject;
      path = (d []).slot;
      sound = (item-sound names es a others s).2;
      within = (labels-within-more names c.args.c.width items i x c.loop-item-test.true c.item-item.is l.within).1;
      pending = (d []).pending;
      segment = items-wait-at names (length c.loop-item.pending.update.items) (length c.try_in.new.pending.update.items) others (d []).many (item-segment (CanWait names (length c.loop-item.pending.update.items)) es a others n).1;
      apart = others-apart c.loop-item.at.first c.try_in.new.at.first others (d []).first (item-apart c.loop-item.at.first es a others w).1;
      sites = c.in_ok-rest.ensures.sites others ∙ (rw e at l.sites);
      leads = λ files r at new h. l.leads files r at new (rw e ((d files).leads others r at new h));
      leaves = λ files r at p new h. l.leaves files r at p new (rw e ((d files).leaves others r at p new h));
    }

pub items_in-returns-clause-tries : goal.items_in-returns-clause-tries
items_in-returns-clause-tries g t c = λ files.
    let l = c.loop-item.invariant in
    let none = drop_all c.loop-item.item-index c.args.items.now c.loop-item-test.false in
    let cells = list_of c.loop-item.cells in
    l.leads files c.loop-item.rest (env_of c.loop-item.at) cells (rw none (tries-none (names_of c.args.self.now) (scope_of c.args.self.now files) c.args.c c.args.subject c.loop-item.rest (env_of c.loop-item.at) cells l.fits l.path))

pub items_in-returns-clause-leaves : goal.items_in-returns-clause-leaves
items_in-returns-clause-leaves g t c = λ files.
    let l = c.loop-item.invariant in
    let none = drop_all c.loop-item.item-index c.args.items.now c.loop-item-test.false in
    let cells = list_of c.loop-item.cells in
    let p = slots_of c.loop-item.pending in
    l.leaves files c.loop-item.rest (env_of c.loop-item.at) p cells (rw none (leaves-no-items (names_of c.args.self.now) (scope_of c.args.self.now files) c.args.c c.args.subject c.loop-item.rest (env_of c.loop-item.at) p cells l.pending l.path))

pub case_in-items_form-c-requires-clause-items : goal.case_in-items_form-c-requires-clause-items
case_in-items_form-c-requires-clause-items g t c = labels-sound (names_of c.args.self.now) [] c.args.items.now c.requires.sound

pub case_in-items_form-c-requires-clause-form : goal.case_in-items_form-c-requires-clause-form
case_in-items_form-c-requires-clause-form g t c = rw c.form_of.ensures.value (form-width (names_of c.args.self.now) (exp_of c.args.subject.now) c.requires.subject)

pub case_in-compile_in-requires-clause-wide : goal.case_in-compile_in-requires-clause-wide
case_in-compile_in-requires-clause-wide g t c =
    let is = rw c.form_of.ensures.value at (c.items_form-c.ensures.value []) in
    rw is (items-grow (names_of c.args.self.now) [] (form (names_of c.args.self.now) (exp_of c.args.subject.now)) c.args.items.now)

pub case_in-compile_in-requires-clause-narrow : goal.case_in-compile_in-requires-clause-narrow
case_in-compile_in-requires-clause-narrow g t c = c.items_form-c.ensures.width.narrow

pub case_in-returns-in-None-clause-does : goal.case_in-returns-in-None-clause-does
case_in-returns-in-None-clause-does g t c = λ files.
    let ctx = c.args.self.now in
    let names = names_of ctx in
    let cells = body_of ctx in
    let scope = scope_of ctx files in
    let e = exp_of c.args.subject.now in
    let items = items_of [] c.args.items.now in
    let is = rw c.form_of.ensures.value at (c.items_form-c.ensures.value []) in
    let none = rw c.in-None.is at (c.default_of.ensures.body []) in
    let at1 = env_of c.items_in.new.at in
    let l2 = list_of c.items_in.new.cells in
    let tries = c.in_ok-rest.ensures.tries files in
    case-does scope cells e items c.items_form-c.result c.args.off c.in_ok-subject.subject c.in_ok-rest.rest (env_of c.args.at.now) at1 at1 (list_of c.args.cells.now) (list_of c.compile_in.new.cells) l2 l2 is c.requires.fits c.requires.off.there
    (c.in_ok-subject.ensures.gives files) tries
    (subst (λ (z : Stm). Does names (stm_count cells z) (exec scope z) c.in_ok-rest.rest at1 at1 l2 l2) none (does-nop names scope c.in_ok-rest.rest at1 l2 tries.fits))

pub case_in-returns-in-Some-clause-does : goal.case_in-returns-in-Some-clause-does
case_in-returns-in-Some-clause-does g t c =
    let ctx = c.args.self.now in
    let names = names_of ctx in
    let cells = body_of ctx in
    let e = exp_of c.args.subject.now in
    let items = items_of [] c.args.items.now in
    let is = rw c.form_of.ensures.value at (c.items_form-c.ensures.value []) in
    let x = c.index-items-number.result in
    let there = rw c.in-Some.is at c.default_of.ensures.there in
    let body = rw c.in-Some.is at (c.default_of.ensures.body []) in
    let same = sym (body-is [] c.args.items.now c.in-Some.number x there c.index-items-number.is) ∙ body in
    let at1 = env_of c.items_in.new.at in
    let at2 = env_of c.statement_in.new.at in
    let l2 = list_of c.items_in.new.cells in
    let l3 = list_of c.statement_in.new.cells in
    let a = stm_of [] x.body in
    on_ok_weaker c.statement_in.result
    (λ (d : (files : List File) → Does names (stm_count cells a) (exec (scope_of ctx files) a) c.in_ok-rest.rest at1 at2 l2 l3) files.
    case-does (scope_of ctx files) cells e items c.items_form-c.result c.args.off c.in_ok-subject.subject c.in_ok-rest.rest (env_of c.args.at.now) at1 at2 (list_of c.args.cells.now) (list_of c.compile_in.new.cells) l2 l3 is c.requires.fits c.requires.off.there
    (c.in_ok-subject.ensures.gives files) (c.in_ok-rest.ensures.tries files)
    (subst (λ (z : Stm). Does names (stm_count cells z) (exec (scope_of ctx files) z) c.in_ok-rest.rest at1 at2 l2 l3) same (d files)))
    (rw (← c.index-items-number.is) at c.statement_in.ensures.does)

pub case_in-returns-in-None-clause-leaves : goal.case_in-returns-in-None-clause-leaves
case_in-returns-in-None-clause-leaves g t c = λ files.
    let ctx = c.args.self.now in
    let names = names_of ctx in
    let scope = scope_of ctx files in
    let items = items_of [] c.args.items.now in
    let is = rw c.form_of.ensures.value at (c.items_form-c.ensures.value []) in
    let none = rw c.in-None.is at (c.default_of.ensures.body []) in
    let at1 = env_of c.items_in.new.at in
    let p1 = slots_of c.items_in.new.pending in
    let l2 = list_of c.items_in.new.cells in
    let leaves = c.in_ok-rest.ensures.leaves files in
    case-leaves scope (body_of ctx) (exp_of c.args.subject.now) items c.items_form-c.result c.args.off c.in_ok-subject.subject c.in_ok-rest.rest (env_of c.args.at.now) at1 (slots_of c.args.pending.now) p1 p1
    (list_of c.args.cells.now) (list_of c.compile_in.new.cells) l2 l2 is c.requires.fits c.requires.pending c.requires.off.there (c.in_ok-subject.ensures.gives files) (c.in_ok-rest.ensures.tries files) leaves
    (subst (λ (z : Stm). Leaves names (exec scope z) c.in_ok-rest.rest at1 p1 p1 l2 l2) none (leaves-nop names scope c.in_ok-rest.rest at1 p1 l2 leaves.pending))

pub case_in-returns-in-Some-clause-leaves : goal.case_in-returns-in-Some-clause-leaves
case_in-returns-in-Some-clause-leaves g t c =
    let ctx = c.args.self.now in
    let names = names_of ctx in
    let items = items_of [] c.args.items.now in
    let is = rw c.form_of.ensures.value at (c.items_form-c.ensures.value []) in
    let x = c.index-items-number.result in
    let there = rw c.in-Some.is at c.default_of.ensures.there in
    let body = rw c.in-Some.is at (c.default_of.ensures.body []) in
    let same = sym (body-is [] c.args.items.now c.in-Some.number x there c.index-items-number.is) ∙ body in
    let at1 = env_of c.items_in.new.at in
    let p1 = slots_of c.items_in.new.pending in
    let p2 = slots_of c.statement_in.new.pending in
    let l2 = list_of c.items_in.new.cells in
    let l3 = list_of c.statement_in.new.cells in
    let a = stm_of [] x.body in
    on_ok_weaker c.statement_in.result
    (λ (d : (files : List File) → Leaves names (exec (scope_of ctx files) a) c.in_ok-rest.rest at1 p1 p2 l2 l3) files.
    case-leaves (scope_of ctx files) (body_of ctx) (exp_of c.args.subject.now) items c.items_form-c.result c.args.off c.in_ok-subject.subject c.in_ok-rest.rest (env_of c.args.at.now) at1 (slots_of c.args.pending.now) p1 p2
    (list_of c.args.cells.now) (list_of c.compile_in.new.cells) l2 l3 is c.requires.fits c.requires.pending c.requires.off.there (c.in_ok-subject.ensures.gives files) (c.in_ok-rest.ensures.tries files) (c.in_ok-rest.ensures.leaves files)
    (subst (λ (z : Stm). Leaves names (exec (scope_of ctx files) z) c.in_ok-rest.rest at1 p1 p2 l2 l3) same (d files)))
    (rw (← c.index-items-number.is) at c.statement_in.ensures.leaves)

pub list_in-loop-item-preserved : goal.list_in-loop-item-preserved
list_in-loop-item-preserved g t c =
    let names = names_of c.args.self.now in
    let body = body_of c.args.self.now in
    let list = c.args.list.now in
    let i = c.loop-item.item-index in
    let x = c.item-item.result in
    let l = c.loop-item.invariant in
    let e = then-more list i x c.loop-item-test.true c.item-item.is in
    let s = rw e at l.sound in
    let n = rw e at l.segment in
    let w = rw e at l.apart in
    let d = c.in_ok-statement_in.ensures.does in
    let g = c.in_ok-statement_in.ensures.grows in
    let l0 = list_of c.loop-item.cells in
    let l1 = list_of c.statement_in.new.cells in
    let a = stm_of [] x in
    let rest = then_of [] (drop (i + 1) list) in
    record {
      grows = grows-then (list_of c.args.cells.now) l0 l1 l.grows g;
      fits = (d []).fits;
      off = is-slot-stays l0 l1 c.args.off 1 g l.off;
      sound = s.1;
      pending = (c.in_ok-statement_in.ensures.leaves []).pending;
      segment = waits-at names (length c.loop-item.pending.update.items) (length c.statement_in.new.pending.update.items) rest (c.in_ok-statement_in.ensures.leaves []).many n.1;
      apart = apart-at c.loop-item.at.first c.statement_in.new.at.first rest (d []).keeps.first (none-right _ _ w);
      sites = list-then (memories_of c.loop-item.pending.sites.items) (memories_of c.statement_in.new.pending.sites.items) (stored_words a) (stored_words rest) _ c.in_ok-statement_in.ensures.sites (rw e at l.sites);
      leads = λ files at new h. l.leads files at new (rw e (does-then names (scope_of c.args.self.now files) (stm_count body a) (stm_count body rest) c.args.off a rest (env_of c.loop-item.at) (env_of c.statement_in.new.at) at l0 l1 new l.off.there (d files) h));
      leaves = λ files p new h. l.leaves files p new (rw e (leaves-then names (stm_count body a) c.args.off (exec (scope_of c.args.self.now files) a) (exec (scope_of c.args.self.now files) rest)
          (env_of c.loop-item.at) (env_of c.statement_in.new.at) (slots_of c.loop-item.pending) (slots_of c.statement_in.new.pending) p l0 l1 new l.off.there (d files) (c.in_ok-statement_in.ensures.leaves files) h));
    }

pub list_in-returns-clause-does : goal.list_in-returns-clause-does
list_in-returns-clause-does g t c = λ files.
    let l = c.loop-item.invariant in
    let none = drop_all c.loop-item.item-index c.args.list.now c.loop-item-test.false in
    l.leads files (env_of c.loop-item.at) (list_of c.loop-item.cells) (rw none (does-nop (names_of c.args.self.now) (scope_of c.args.self.now files) c.args.off (env_of c.loop-item.at) (list_of c.loop-item.cells) l.fits))

pub list_in-returns-clause-leaves : goal.list_in-returns-clause-leaves
list_in-returns-clause-leaves g t c = λ files.
    let l = c.loop-item.invariant in
    let none = drop_all c.loop-item.item-index c.args.list.now c.loop-item-test.false in
    let p = slots_of c.loop-item.pending in
    l.leaves files p (list_of c.loop-item.cells) (rw none (leaves-nop (names_of c.args.self.now) (scope_of c.args.self.now files) c.args.off (env_of c.loop-item.at) p (list_of c.loop-item.cells) l.pending))

pub if_in-branches-requires-clause-test : goal.if_in-branches-requires-clause-test
if_in-branches-requires-clause-test g t c = (c.in_ok-test.ensures.gives []).slot.there

pub if_in-branches-requires-clause-never : goal.if_in-branches-requires-clause-never
if_in-branches-requires-clause-never g t c = (fits-stays (names_of c.args.self.now) (list_of c.args.cells.now) (list_of c.own_in.new.cells) (env_of c.args.at.now) c.in_ok-test.ensures.grows c.requires.fits).is_away

pub if_in-returns-clause-does : goal.if_in-returns-clause-does
if_in-returns-clause-does g t c =
    let names = names_of c.args.self.now in
    let body = body_of c.args.self.now in
    let a = stm_of [] c.args.first.now in
    let b = stm_of [] c.args.second.now in
    let t = exp_of c.args.test.now in
    let at0 = env_of c.args.at.now in
    let at1 = env_of c.statement_in.new.at in
    let at2 = env_of c.statement_in-2.new.at in
    let l3 = list_of c.statement_in.new.cells in
    let l4 = list_of c.statement_in-2.new.cells in
    on_ok_weaker c.statement_in-2.result
    (λ (d : (files : List File) → Does names (stm_count body b) (exec (scope_of c.args.self.now files) b) c.in_ok-yes.no at1 at2 l3 l4) files.
    let value = c.in_ok-test.ensures.gives files in
    does-if (scope_of c.args.self.now files) t a b (own_count body t) (stm_count body a) (stm_count body b) c.args.off c.in_ok-test.test c.in_ok-yes.yes c.in_ok-yes.no at0 at1 at2
    (list_of c.args.cells.now) (list_of c.own_in.new.cells) (list_of c.branches.new.cells) l3 l4 c.requires.fits c.requires.off.there value.longer value.slot.there value.value
    c.in_ok-yes.ensures.first c.in_ok-yes.ensures.second (c.in_ok-statement_in.ensures.does files) (d files))
    c.statement_in-2.ensures.does

pub if_in-returns-clause-leaves : goal.if_in-returns-clause-leaves
if_in-returns-clause-leaves g t c =
    let ctx = c.args.self.now in
    let body = body_of ctx in
    let a = stm_of [] c.args.first.now in
    let b = stm_of [] c.args.second.now in
    let t = exp_of c.args.test.now in
    let at1 = env_of c.statement_in.new.at in
    let p0 = slots_of c.args.pending.now in
    let p1 = slots_of c.statement_in.new.pending in
    let p2 = slots_of c.statement_in-2.new.pending in
    let l3 = list_of c.statement_in.new.cells in
    let l4 = list_of c.statement_in-2.new.cells in
    on_ok_weaker c.statement_in-2.result
    (λ (d : (files : List File) → Leaves (names_of ctx) (exec (scope_of ctx files) b) c.in_ok-yes.no at1 p1 p2 l3 l4) files.
    let value = c.in_ok-test.ensures.gives files in
    leaves-if (scope_of ctx files) t a b (own_count body t) (stm_count body a) c.args.off c.in_ok-test.test c.in_ok-yes.yes c.in_ok-yes.no (env_of c.args.at.now) at1 p0 p1 p2
    (list_of c.args.cells.now) (list_of c.own_in.new.cells) (list_of c.branches.new.cells) l3 l4 c.requires.fits c.requires.pending c.requires.off.there value.longer value.value
    c.in_ok-yes.ensures.first c.in_ok-yes.ensures.second (c.in_ok-statement_in.ensures.does files) (c.in_ok-statement_in.ensures.leaves files) (d files))
    c.statement_in-2.ensures.leaves

pub statement_in-set_in-requires-clause-target : goal.statement_in-set_in-requires-clause-target
statement_in-set_in-requires-clause-target g t c =
    let e = set-segment (CanWait (names_of c.args.self.now) (length c.args.pending.now.update.items)) [] c.args.a.now c.in-Set.target c.in-Set.source c.in-Set.is c.requires.segment in
    let s = rw e at c.requires.sound in
    s.0

pub statement_in-set_in-requires-clause-source : goal.statement_in-set_in-requires-clause-source
statement_in-set_in-requires-clause-source g t c =
    let e = set-segment (CanWait (names_of c.args.self.now) (length c.args.pending.now.update.items)) [] c.args.a.now c.in-Set.target c.in-Set.source c.in-Set.is c.requires.segment in
    let s = rw e at c.requires.sound in
    s.1

pub statement_in-set_in-requires-clause-plain : goal.statement_in-set_in-requires-clause-plain
statement_in-set_in-requires-clause-plain g t c =
    let e = set-segment (CanWait (names_of c.args.self.now) (length c.args.pending.now.update.items)) [] c.args.a.now c.in-Set.target c.in-Set.source c.in-Set.is c.requires.segment in
    let s = rw e at c.requires.segment in
    s

pub statement_in-set_in-requires-clause-apart : goal.statement_in-set_in-requires-clause-apart
statement_in-set_in-requires-clause-apart g t c =
    let e = set-segment (CanWait (names_of c.args.self.now) (length c.args.pending.now.update.items)) [] c.args.a.now c.in-Set.target c.in-Set.source c.in-Set.is c.requires.segment in
    let s = rw e at c.requires.apart in
    s

pub statement_in-later_in-requires-clause-target : goal.statement_in-later_in-requires-clause-target
statement_in-later_in-requires-clause-target g t c =
    let e = later-segment (CanWait (names_of c.args.self.now) (length c.args.pending.now.update.items)) [] c.args.a.now c.in-Later.target c.in-Later.source c.in-Later.is c.requires.segment in
    let s = rw e at c.requires.sound in
    s.0

pub statement_in-later_in-requires-clause-source : goal.statement_in-later_in-requires-clause-source
statement_in-later_in-requires-clause-source g t c =
    let e = later-segment (CanWait (names_of c.args.self.now) (length c.args.pending.now.update.items)) [] c.args.a.now c.in-Later.target c.in-Later.source c.in-Later.is c.requires.segment in
    let s = rw e at c.requires.sound in
    s.1

pub statement_in-later_in-requires-clause-many : goal.statement_in-later_in-requires-clause-many
statement_in-later_in-requires-clause-many g t c =
    let e = later-segment (CanWait (names_of c.args.self.now) (length c.args.pending.now.update.items)) [] c.args.a.now c.in-Later.target c.in-Later.source c.in-Later.is c.requires.segment in
    let s = rw e at c.requires.segment in
    s

pub statement_in-later_in-requires-clause-apart : goal.statement_in-later_in-requires-clause-apart
statement_in-later_in-requires-clause-apart g t c =
    let e = later-segment (CanWait (names_of c.args.self.now) (length c.args.pending.now.update.items)) [] c.args.a.now c.in-Later.target c.in-Later.source c.in-Later.is c.requires.segment in
    let s = rw e at c.requires.apart in
    s

pub statement_in-returns-in-Nop-clause-does : goal.statement_in-returns-in-Nop-clause-does
statement_in-returns-in-Nop-clause-does g t c =
    λ files. rw c.in-Nop.is (does-nop (names_of c.args.self.now) (scope_of c.args.self.now files) c.args.off (env_of c.args.at.now) (list_of c.args.cells.now) c.requires.fits)

pub statement_in-returns-in-Seq-clause-does : goal.statement_in-returns-in-Seq-clause-does
statement_in-returns-in-Seq-clause-does g t c =
    let e = stm_of-Seq [] c.args.a.now c.in-Seq.list c.in-Seq.is in
    let done = rw c.deref.ensures.value at c.list_in.ensures.does in
    rw e done

pub statement_in-returns-in-If-clause-does : goal.statement_in-returns-in-If-clause-does
statement_in-returns-in-If-clause-does g t c =
    let e = if-segment (CanWait (names_of c.args.self.now) (length c.args.pending.now.update.items)) [] c.args.a.now c.in-If.test c.in-If.first c.in-If.second c.in-If.is c.requires.segment in
    let done = rw (c.deref-in-If.ensures, c.deref-in-If-2.ensures) at c.if_in.ensures.does in
    rw e done

pub statement_in-returns-in-Case-clause-does : goal.statement_in-returns-in-Case-clause-does
statement_in-returns-in-Case-clause-does g t c =
    let e = case-of [] c.args.a.now c.in-Case.subject c.in-Case.items c.in-Case.field-2 c.in-Case.is in
    let done = rw c.deref-in-Case.ensures.value at c.case_in.ensures.does in
    rw e done

pub statement_in-returns-in-Set-clause-does : goal.statement_in-returns-in-Set-clause-does
statement_in-returns-in-Set-clause-does g t c =
    let e = set-segment (CanWait (names_of c.args.self.now) (length c.args.pending.now.update.items)) [] c.args.a.now c.in-Set.target c.in-Set.source c.in-Set.is c.requires.segment in
    rw e c.set_in.ensures.does

pub statement_in-returns-in-Nop-clause-leaves : goal.statement_in-returns-in-Nop-clause-leaves
statement_in-returns-in-Nop-clause-leaves g t c =
    λ files. rw c.in-Nop.is (leaves-nop (names_of c.args.self.now) (scope_of c.args.self.now files) c.args.off (env_of c.args.at.now) (slots_of c.args.pending.now) (list_of c.args.cells.now) c.requires.pending)

pub statement_in-returns-in-Seq-clause-leaves : goal.statement_in-returns-in-Seq-clause-leaves
statement_in-returns-in-Seq-clause-leaves g t c =
    let e = stm_of-Seq [] c.args.a.now c.in-Seq.list c.in-Seq.is in
    let done = rw c.deref.ensures.value at c.list_in.ensures.leaves in
    rw e done

pub statement_in-returns-in-If-clause-leaves : goal.statement_in-returns-in-If-clause-leaves
statement_in-returns-in-If-clause-leaves g t c =
    let e = if-segment (CanWait (names_of c.args.self.now) (length c.args.pending.now.update.items)) [] c.args.a.now c.in-If.test c.in-If.first c.in-If.second c.in-If.is c.requires.segment in
    let done = rw (c.deref-in-If.ensures, c.deref-in-If-2.ensures) at c.if_in.ensures.leaves in
    rw e done

pub statement_in-returns-in-Case-clause-leaves : goal.statement_in-returns-in-Case-clause-leaves
statement_in-returns-in-Case-clause-leaves g t c =
    let e = case-of [] c.args.a.now c.in-Case.subject c.in-Case.items c.in-Case.field-2 c.in-Case.is in
    let done = rw c.deref-in-Case.ensures.value at c.case_in.ensures.leaves in
    rw e done

pub statement_in-returns-in-Set-clause-leaves : goal.statement_in-returns-in-Set-clause-leaves
statement_in-returns-in-Set-clause-leaves g t c =
    let e = set-segment (CanWait (names_of c.args.self.now) (length c.args.pending.now.update.items)) [] c.args.a.now c.in-Set.target c.in-Set.source c.in-Set.is c.requires.segment in
    rw e (
    on_ok_weaker c.set_in.result
    (λ (d : (files : List File) → Does (names_of c.args.self.now) (stm_count (body_of c.args.self.now) (Set (target_of c.in-Set.target) (exp_of c.in-Set.source))) (exec (scope_of c.args.self.now files) (Set (target_of c.in-Set.target) (exp_of c.in-Set.source)))
    c.args.off (env_of c.args.at.now) (env_of c.set_in.new.at) (list_of c.args.cells.now) (list_of c.set_in.new.cells)) files.
    leaves-set (names_of c.args.self.now) (scope_of c.args.self.now files) (target_of c.in-Set.target) (exp_of c.in-Set.source) c.args.off (env_of c.args.at.now) (slots_of c.args.pending.now) (list_of c.args.cells.now) (list_of c.set_in.new.cells)
    c.requires.pending c.set_in.ensures.grows)
    c.set_in.ensures.does)

pub statement_in-returns-in-Later-clause-leaves : goal.statement_in-returns-in-Later-clause-leaves
statement_in-returns-in-Later-clause-leaves g t c =
    let e = later-segment (CanWait (names_of c.args.self.now) (length c.args.pending.now.update.items)) [] c.args.a.now c.in-Later.target c.in-Later.source c.in-Later.is c.requires.segment in
    rw e c.later_in.ensures.leaves

pub statement_in-returns-in-Later-clause-does : goal.statement_in-returns-in-Later-clause-does
statement_in-returns-in-Later-clause-does g t c =
    let e = later-segment (CanWait (names_of c.args.self.now) (length c.args.pending.now.update.items)) [] c.args.a.now c.in-Later.target c.in-Later.source c.in-Later.is c.requires.segment in
    rw e c.later_in.ensures.does

-- ---- the memories whose words are written

pub try_in-returns-then-is_empty-clause-sites : goal.try_in-returns-then-is_empty-clause-sites
try_in-returns-then-is_empty-clause-sites g t c = λ others.
    let x = c.args.item.now in
    let test = rw c.as_slice.ensures.value at c.is_empty.ensures in
    stored-default x.labels.items (stm_of [] x.body) others (memories_of c.args.pending.now.sites.items) (none-there x.labels.items c.is_empty.result test c.if-is_empty.true)

pub try_in-returns-else-is_empty-clause-sites : goal.try_in-returns-else-is_empty-clause-sites
try_in-returns-else-is_empty-clause-sites g t c =
    let x = c.args.item.now in
    let test = rw c.as_slice.ensures.value at c.is_empty.ensures in
    let ms = memories_of c.args.pending.now.sites.items in
    let ns = memories_of c.item_in.new.pending.sites.items in
    on_ok_weaker c.item_in.result
    (λ (e : ns ≡ ms ++ stored_words (stm_of [] x.body)) others. stored-item x.labels.items (stm_of [] x.body) others ms ns (some-there x.labels.items c.is_empty.result test c.if-is_empty.false) e)
    c.item_in.ensures.sites

pub items_in-returns-clause-sites : goal.items_in-returns-clause-sites
items_in-returns-clause-sites g t c =
    let none = drop_all c.loop-item.item-index c.args.items.now c.loop-item-test.false in
    list-none (memories_of c.loop-item.pending.sites.items) _ (rw none at c.loop-item.invariant.sites)

pub case_in-returns-in-None-clause-sites : goal.case_in-returns-in-None-clause-sites
case_in-returns-in-None-clause-sites g t c =
    let items = items_of [] c.args.items.now in
    let none = rw c.in-None.is at (c.default_of.ensures.body []) in
    let empty = ap stored_words none ∙ default-words items in
    let ms = memories_of c.args.pending.now.sites.items in
    let ns = memories_of c.items_in.new.pending.sites.items in
    list-both ms ns ns (items_stored items) (default_stored items) c.in_ok-rest.ensures.sites (sym (append-nil ns) ∙ ap (λ xs. ns ++ xs) empty)

pub case_in-returns-in-Some-clause-sites : goal.case_in-returns-in-Some-clause-sites
case_in-returns-in-Some-clause-sites g t c =
    let items = items_of [] c.args.items.now in
    let x = c.index-items-number.result in
    let there = rw c.in-Some.is at c.default_of.ensures.there in
    let body = rw c.in-Some.is at (c.default_of.ensures.body []) in
    let same = sym (body-is [] c.args.items.now c.in-Some.number x there c.index-items-number.is) ∙ body in
    let ms = memories_of c.args.pending.now.sites.items in
    let ns = memories_of c.items_in.new.pending.sites.items in
    let ks = memories_of c.statement_in.new.pending.sites.items in
    on_ok_weaker c.statement_in.result
    (λ (e : ks ≡ ns ++ stored_words (stm_of [] x.body)).
    list-both ms ns ks (items_stored items) (default_stored items) c.in_ok-rest.ensures.sites (e ∙ ap (λ (a : Stm). ns ++ stored_words a) same ∙ ap (λ xs. ns ++ xs) (default-words items)))
    (rw (← c.index-items-number.is) at c.statement_in.ensures.sites)

pub list_in-returns-clause-sites : goal.list_in-returns-clause-sites
list_in-returns-clause-sites g t c =
    let none = drop_all c.loop-item.item-index c.args.list.now c.loop-item-test.false in
    list-none (memories_of c.loop-item.pending.sites.items) _ (rw none at c.loop-item.invariant.sites)

pub if_in-returns-clause-sites : goal.if_in-returns-clause-sites
if_in-returns-clause-sites g t c =
    let a = stm_of [] c.args.first.now in
    let b = stm_of [] c.args.second.now in
    let ms = memories_of c.args.pending.now.sites.items in
    let ns = memories_of c.statement_in.new.pending.sites.items in
    let ks = memories_of c.statement_in-2.new.pending.sites.items in
    on_ok_weaker c.statement_in-2.result (λ (e : ks ≡ ns ++ stored_words b). list-both ms ns ks (stored_words a) (stored_words b) c.in_ok-statement_in.ensures.sites e) c.statement_in-2.ensures.sites

pub statement_in-returns-in-Nop-clause-sites : goal.statement_in-returns-in-Nop-clause-sites
statement_in-returns-in-Nop-clause-sites g t c = rw c.in-Nop.is (sym (append-nil (memories_of c.args.pending.now.sites.items)))

pub statement_in-returns-in-Seq-clause-sites : goal.statement_in-returns-in-Seq-clause-sites
statement_in-returns-in-Seq-clause-sites g t c =
    let e = stm_of-Seq [] c.args.a.now c.in-Seq.list c.in-Seq.is in
    let done = rw c.deref.ensures.value at c.list_in.ensures.sites in
    rw e done

pub statement_in-returns-in-If-clause-sites : goal.statement_in-returns-in-If-clause-sites
statement_in-returns-in-If-clause-sites g t c =
    let e = if-segment (CanWait (names_of c.args.self.now) (length c.args.pending.now.update.items)) [] c.args.a.now c.in-If.test c.in-If.first c.in-If.second c.in-If.is c.requires.segment in
    let done = rw (c.deref-in-If.ensures, c.deref-in-If-2.ensures) at c.if_in.ensures.sites in
    rw e done

pub statement_in-returns-in-Case-clause-sites : goal.statement_in-returns-in-Case-clause-sites
statement_in-returns-in-Case-clause-sites g t c =
    let e = case-of [] c.args.a.now c.in-Case.subject c.in-Case.items c.in-Case.field-2 c.in-Case.is in
    let done = rw c.deref-in-Case.ensures.value at c.case_in.ensures.sites in
    rw e done

pub statement_in-returns-in-Set-clause-sites : goal.statement_in-returns-in-Set-clause-sites
statement_in-returns-in-Set-clause-sites g t c =
    let e = set-segment (CanWait (names_of c.args.self.now) (length c.args.pending.now.update.items)) [] c.args.a.now c.in-Set.target c.in-Set.source c.in-Set.is c.requires.segment in
    rw e (
    on_ok_weaker c.set_in.result
    (λ (d : (files : List File) → Does (names_of c.args.self.now) (stm_count (body_of c.args.self.now) (Set (target_of c.in-Set.target) (exp_of c.in-Set.source))) (exec (scope_of c.args.self.now files) (Set (target_of c.in-Set.target) (exp_of c.in-Set.source)))
    c.args.off (env_of c.args.at.now) (env_of c.set_in.new.at) (list_of c.args.cells.now) (list_of c.set_in.new.cells)). sym (append-nil (memories_of c.args.pending.now.sites.items)))
    c.set_in.ensures.does)

pub statement_in-returns-in-Later-clause-sites : goal.statement_in-returns-in-Later-clause-sites
statement_in-returns-in-Later-clause-sites g t c =
    let e = later-segment (CanWait (names_of c.args.self.now) (length c.args.pending.now.update.items)) [] c.args.a.now c.in-Later.target c.in-Later.source c.in-Later.is c.requires.segment in
    rw e c.later_in.ensures.sites

-- ---- calls

pub item_in-statement_in-requires : goal.item_in-statement_in-requires
item_in-statement_in-requires g t c =
    let m : 4 * stm_size (stm_of [] c.args.item.now.body) + 2 ≡ t = c.decreases in
    let more = grows-then (list_of c.args.cells.now) (list_of c.labels_in.new.cells) (list_of c.taken.new.cells) c.in_ok-behind.ensures.grows c.in_ok-path.ensures.grows in
    let fits = fits-stays (names_of c.args.self.now) (list_of c.args.cells.now) (list_of c.taken.new.cells) (env_of c.args.at.now) more c.requires.fits in
    let slot = gives-slot Nothing 1 (list_of c.labels_in.new.cells) (list_of c.taken.new.cells) c.in_ok-path.path 1 _ c.in_ok-path.ensures.gives in
    let pending = pending-stays (names_of c.args.self.now) (list_of c.args.cells.now) (list_of c.taken.new.cells) (slots_of c.args.pending.now) more c.requires.pending in
    λ κs lives. (steps-body _ t m, (lives, (c.requires.functions, (c.requires.sound, (c.requires.segment, (c.requires.apart, (fits, (pending, slot))))))))

pub try_in-item_in-requires : goal.try_in-item_in-requires
try_in-item_in-requires g t c =
    let m : 4 * stm_size (stm_of [] c.args.item.now.body) + 3 ≡ t = c.decreases in
    let r = c.requires in
    λ κs lives. (steps-item _ t m, (lives, (r.functions, (r.subject, (r.context, (r.rest, (r.labels, (r.within, (r.sound, (r.segment, (r.apart, (r.fits, r.pending))))))))))))

pub items_in-try_in-requires : goal.items_in-try_in-requires
items_in-try_in-requires g t c =
    let m : 4 * items_size (items_of [] c.args.items.now) + 2 ≡ t = c.decreases in
    let names = names_of c.args.self.now in
    let items = c.args.items.now in
    let i = c.loop-item.item-index in
    let x = c.item-item.result in
    let l = c.loop-item.invariant in
    let p = item-part [] items i x c.loop-item-test.true c.item-item.is in
    let e = items-more [] items i x c.loop-item-test.true c.item-item.is in
    let es = seen.exps_of x.labels.items in
    let a = stm_of [] x.body in
    let others = items_of [] (drop (i + 1) items) in
    let s = item-sound names es a others (rw e at l.sound) in
    let n = item-segment (CanWait names (length c.loop-item.pending.update.items)) es a others (rw e at l.segment) in
    let w = item-apart c.loop-item.at.first es a others (rw e at l.apart) in
    let within = labels-within-more names c.args.c.width items i x c.loop-item-test.true c.item-item.is l.within in
    λ κs lives. (omega (arith, m, p), (lives, (c.requires.functions, (l.subject, (c.requires.context, (l.path, (s.0, (within.0, (s.1, (n.0, (w.0, (l.fits, l.pending))))))))))))

pub case_in-items_in-requires : goal.case_in-items_in-requires
case_in-items_in-requires g t c =
    let m : 4 * (exp_size (exp_of c.args.subject.now) + items_size (items_of [] c.args.items.now)) + 3 ≡ t = c.decreases in
    let names = names_of c.args.self.now in
    let l0 = list_of c.args.cells.now in
    let l1 = list_of c.compile_in.new.cells in
    let is = rw c.form_of.ensures.value at (c.items_form-c.ensures.value []) in
    let within : AreLabelsWithin names c.items_form-c.result.width c.args.items.now = rw is (items-within names [] (form names (exp_of c.args.subject.now)) c.args.items.now) in
    let fits = fits-stays names l0 l1 (env_of c.args.at.now) c.in_ok-subject.ensures.grows c.requires.fits in
    let off = is-slot-stays l0 l1 c.args.off 1 c.in_ok-subject.ensures.grows c.requires.off in
    let pending = pending-stays names l0 l1 (slots_of c.args.pending.now) c.in_ok-subject.ensures.grows c.requires.pending in
    λ κs lives. (steps-items _ _ t m, (lives, (c.requires.functions, ((c.in_ok-subject.ensures.gives []).slot, (c.items_form-c.ensures.width, (off, (c.requires.sound, (within, (c.requires.segment, (c.requires.apart, (fits, pending)))))))))))

pub case_in-statement_in-requires : goal.case_in-statement_in-requires
case_in-statement_in-requires g t c =
    let m : 4 * (exp_size (exp_of c.args.subject.now) + items_size (items_of [] c.args.items.now)) + 3 ≡ t = c.decreases in
    let names = names_of c.args.self.now in
    let items = c.args.items.now in
    let x = c.index-items-number.result in
    let there = rw c.in-Some.is at c.default_of.ensures.there in
    let body = rw c.in-Some.is at (c.default_of.ensures.body []) in
    let p = item-part [] items c.in-Some.number x there c.index-items-number.is in
    let same = sym (body-is [] items c.in-Some.number x there c.index-items-number.is) ∙ body in
    let tries = c.in_ok-rest.ensures.tries [] in
    let sound = subst (IsSoundStm names) (sym same) (default-sound names (items_of [] items) c.requires.sound) in
    let leaves = c.in_ok-rest.ensures.leaves [] in
    let wait = CanWait names (length c.items_in.new.pending.update.items) in
    let segment = subst (IsSegment wait) (sym same)
    (default-segment wait (items_of [] items) (items-wait-at names (length c.args.pending.now.update.items) (length c.items_in.new.pending.update.items) (items_of [] items) leaves.many c.requires.segment)) in
    let apart = subst (λ (z : Stm). stm_writes (λ k. nat_lt k c.items_in.new.at.first) z ≡ false) (sym same)
    (apart-at c.args.at.now.first c.items_in.new.at.first (default_body (items_of [] items)) tries.keeps.first (default-apart c.args.at.now.first (items_of [] items) c.requires.apart)) in
    rw (← c.index-items-number.is) (λ κs lives. (omega (arith, m, p), (lives, (c.requires.functions, (sound, (segment, (apart, (tries.fits, (leaves.pending, tries.slot)))))))))

pub list_in-statement_in-requires : goal.list_in-statement_in-requires
list_in-statement_in-requires g t c =
    let m : 4 * stm_size (then_of [] c.args.list.now) ≡ t = c.decreases in
    let i = c.loop-item.item-index in
    let x = c.item-item.result in
    let l = c.loop-item.invariant in
    let p = stm-part [] c.args.list.now i x c.loop-item-test.true c.item-item.is in
    let e = then-more c.args.list.now i x c.loop-item-test.true c.item-item.is in
    let s = rw e at l.sound in
    let n = rw e at l.segment in
    let w = rw e at l.apart in
    λ κs lives. (omega (arith, m, p), (lives, (c.requires.functions, (s.0, (n.0, (none-left _ _ w, (l.fits, (l.pending, l.off))))))))

pub if_in-statement_in-requires : goal.if_in-statement_in-requires
if_in-statement_in-requires g t c =
    let m : 4 * (exp_size (exp_of c.args.test.now) + (stm_size (stm_of [] c.args.first.now) + stm_size (stm_of [] c.args.second.now))) + 3 ≡ t = c.decreases in
    let l1 = list_of c.own_in.new.cells in
    let l2 = list_of c.branches.new.cells in
    let more = grows-then (list_of c.args.cells.now) l1 l2 c.in_ok-test.ensures.grows c.in_ok-yes.ensures.grows in
    let fits = fits-stays (names_of c.args.self.now) (list_of c.args.cells.now) l2 (env_of c.args.at.now) more c.requires.fits in
    let s = c.requires.sound in
    let n = c.requires.segment in
    let pending = pending-stays (names_of c.args.self.now) (list_of c.args.cells.now) l2 (slots_of c.args.pending.now) more c.requires.pending in
    λ κs lives. (steps-first _ _ _ t m, (lives, (c.requires.functions, (s.1, (n.0, (none-left _ _ c.requires.apart, (fits, (pending, gives-slot Nothing 2 l1 l2 c.in_ok-yes.yes 1 _ c.in_ok-yes.ensures.first))))))))

pub if_in-statement_in-requires-2 : goal.if_in-statement_in-requires-2
if_in-statement_in-requires-2 g t c =
    let m : 4 * (exp_size (exp_of c.args.test.now) + (stm_size (stm_of [] c.args.first.now) + stm_size (stm_of [] c.args.second.now))) + 3 ≡ t = c.decreases in
    let d = c.in_ok-statement_in.ensures.does [] in
    let l1 = list_of c.own_in.new.cells in
    let l2 = list_of c.branches.new.cells in
    let l3 = list_of c.statement_in.new.cells in
    let off = is-slot-stays l2 l3 c.in_ok-yes.no 1 c.in_ok-statement_in.ensures.grows (gives-slot Nothing 2 l1 l2 c.in_ok-yes.no 1 _ c.in_ok-yes.ensures.second) in
    let s = c.requires.sound in
    let n = c.requires.segment in
    let apart = apart-at c.args.at.now.first c.statement_in.new.at.first (stm_of [] c.args.second.now) d.keeps.first (none-right _ _ c.requires.apart) in
    let leaves = c.in_ok-statement_in.ensures.leaves [] in
    let segment = waits-at (names_of c.args.self.now) (length c.args.pending.now.update.items) (length c.statement_in.new.pending.update.items) (stm_of [] c.args.second.now) leaves.many n.1 in
    λ κs lives. (steps-second _ _ _ t m, (lives, (c.requires.functions, (s.2, (segment, (apart, (d.fits, (leaves.pending, off))))))))

pub statement_in-list_in-requires : goal.statement_in-list_in-requires
statement_in-list_in-requires g t c =
    let e = stm_of-Seq [] c.args.a.now c.in-Seq.list c.in-Seq.is in
    let m = rw e at c.decreases in
    let s = rw e at c.requires.sound in
    let n = rw e at c.requires.segment in
    let w = rw e at c.requires.apart in
    rw c.deref.ensures.value (λ κs lives. (omega (arith, m), (lives, (c.requires.functions, (s, (n, (w, (c.requires.fits, (c.requires.pending, c.requires.off)))))))))

pub statement_in-if_in-requires : goal.statement_in-if_in-requires
statement_in-if_in-requires g t c =
    let e = if-segment (CanWait (names_of c.args.self.now) (length c.args.pending.now.update.items)) [] c.args.a.now c.in-If.test c.in-If.first c.in-If.second c.in-If.is c.requires.segment in
    let m = rw e at c.decreases in
    let s = rw e at c.requires.sound in
    let n = rw e at c.requires.segment in
    let w = rw e at c.requires.apart in
    rw (c.deref-in-If.ensures, c.deref-in-If-2.ensures) (λ κs lives. (omega (arith, m), (lives, (c.requires.functions, (s, (n, (w, (c.requires.fits, (c.requires.pending, c.requires.off)))))))))

pub statement_in-case_in-requires : goal.statement_in-case_in-requires
statement_in-case_in-requires g t c =
    let e = case-of [] c.args.a.now c.in-Case.subject c.in-Case.items c.in-Case.field-2 c.in-Case.is in
    let m = rw e at c.decreases in
    let s = rw e at c.requires.sound in
    let n = rw e at c.requires.segment in
    let w = rw e at c.requires.apart in
    rw c.deref-in-Case.ensures.value (λ κs lives. (omega (arith, m), (lives, (c.requires.functions, (s.0, (s.1, (n, (w, (c.requires.fits, (c.requires.pending, c.requires.off))))))))))

-- ---- lists of cells that grow, and slots that stay

pub item_in-taken-requires-clause-before : goal.item_in-taken-requires-clause-before
item_in-taken-requires-clause-before g t c = is-slot-stays (list_of c.args.cells.now) (list_of c.labels_in.new.cells) c.args.rest 1 c.in_ok-behind.ensures.grows c.requires.rest

pub item_in-taken-requires-clause-away : goal.item_in-taken-requires-clause-away
item_in-taken-requires-clause-away g t c = (fits-stays (names_of c.args.self.now) (list_of c.args.cells.now) (list_of c.labels_in.new.cells) (env_of c.args.at.now) c.in_ok-behind.ensures.grows c.requires.fits).away

pub if_in-branches-requires-clause-off : goal.if_in-branches-requires-clause-off
if_in-branches-requires-clause-off g t c = is-slot-stays (list_of c.args.cells.now) (list_of c.own_in.new.cells) c.args.off 1 c.in_ok-test.ensures.grows c.requires.off

pub if_in-branches-requires-clause-away : goal.if_in-branches-requires-clause-away
if_in-branches-requires-clause-away g t c = (fits-stays (names_of c.args.self.now) (list_of c.args.cells.now) (list_of c.own_in.new.cells) (env_of c.args.at.now) c.in_ok-test.ensures.grows c.requires.fits).away

pub item_in-returns-in_err-behind-clause-grows : goal.item_in-returns-in_err-behind-clause-grows
item_in-returns-in_err-behind-clause-grows g t c = c.labels_in.ensures.grows

pub item_in-returns-in_err-path-clause-grows : goal.item_in-returns-in_err-path-clause-grows
item_in-returns-in_err-path-clause-grows g t c =
    let l0 = list_of c.args.cells.now in
    let l1 = list_of c.labels_in.new.cells in
    let l2 = list_of c.taken.new.cells in
    grows-then l0 l1 l2 c.in_ok-behind.ensures.grows c.taken.ensures.grows

pub item_in-returns-in_err-statement_in-clause-grows : goal.item_in-returns-in_err-statement_in-clause-grows
item_in-returns-in_err-statement_in-clause-grows g t c =
    let l0 = list_of c.args.cells.now in
    let l1 = list_of c.labels_in.new.cells in
    let l2 = list_of c.taken.new.cells in
    let l3 = list_of c.statement_in.new.cells in
    grows-then l0 l1 l3 c.in_ok-behind.ensures.grows (grows-then l1 l2 l3 c.in_ok-path.ensures.grows c.statement_in.ensures.grows)

pub item_in-returns-clause-grows : goal.item_in-returns-clause-grows
item_in-returns-clause-grows g t c =
    let l0 = list_of c.args.cells.now in
    let l1 = list_of c.labels_in.new.cells in
    let l2 = list_of c.taken.new.cells in
    let l3 = list_of c.statement_in.new.cells in
    grows-then l0 l1 l3 c.in_ok-behind.ensures.grows (grows-then l1 l2 l3 c.in_ok-path.ensures.grows c.in_ok-statement_in.ensures.grows)

pub try_in-returns-then-is_empty-clause-grows : goal.try_in-returns-then-is_empty-clause-grows
try_in-returns-then-is_empty-clause-grows g t c = grows-same (list_of c.args.cells.now)

pub try_in-returns-else-is_empty-clause-grows : goal.try_in-returns-else-is_empty-clause-grows
try_in-returns-else-is_empty-clause-grows g t c = c.item_in.ensures.grows

pub items_in-returns-in_err-rest-clause-grows : goal.items_in-returns-in_err-rest-clause-grows
items_in-returns-in_err-rest-clause-grows g t c =
    let l0 = list_of c.args.cells.now in
    let l1 = list_of c.loop-item.cells in
    let l2 = list_of c.try_in.new.cells in
    grows-then l0 l1 l2 c.loop-item.invariant.grows c.try_in.ensures.grows

pub items_in-returns-clause-grows : goal.items_in-returns-clause-grows
items_in-returns-clause-grows g t c = c.loop-item.invariant.grows

pub case_in-returns-in_err-subject-clause-grows : goal.case_in-returns-in_err-subject-clause-grows
case_in-returns-in_err-subject-clause-grows g t c = c.compile_in.ensures.grows

pub case_in-returns-in_err-rest-clause-grows : goal.case_in-returns-in_err-rest-clause-grows
case_in-returns-in_err-rest-clause-grows g t c =
    let l0 = list_of c.args.cells.now in
    let l1 = list_of c.compile_in.new.cells in
    let l2 = list_of c.items_in.new.cells in
    grows-then l0 l1 l2 c.in_ok-subject.ensures.grows c.items_in.ensures.grows

pub case_in-returns-in-None-clause-grows : goal.case_in-returns-in-None-clause-grows
case_in-returns-in-None-clause-grows g t c =
    let l0 = list_of c.args.cells.now in
    let l1 = list_of c.compile_in.new.cells in
    let l2 = list_of c.items_in.new.cells in
    grows-then l0 l1 l2 c.in_ok-subject.ensures.grows c.in_ok-rest.ensures.grows

pub case_in-returns-in-Some-clause-grows : goal.case_in-returns-in-Some-clause-grows
case_in-returns-in-Some-clause-grows g t c =
    let l0 = list_of c.args.cells.now in
    let l1 = list_of c.compile_in.new.cells in
    let l2 = list_of c.items_in.new.cells in
    let l3 = list_of c.statement_in.new.cells in
    grows-then l0 l1 l3 c.in_ok-subject.ensures.grows (grows-then l1 l2 l3 c.in_ok-rest.ensures.grows c.statement_in.ensures.grows)

pub list_in-returns-in_err-statement_in-clause-grows : goal.list_in-returns-in_err-statement_in-clause-grows
list_in-returns-in_err-statement_in-clause-grows g t c =
    let l0 = list_of c.args.cells.now in
    let l1 = list_of c.loop-item.cells in
    let l2 = list_of c.statement_in.new.cells in
    grows-then l0 l1 l2 c.loop-item.invariant.grows c.statement_in.ensures.grows

pub list_in-returns-clause-grows : goal.list_in-returns-clause-grows
list_in-returns-clause-grows g t c = c.loop-item.invariant.grows

pub if_in-returns-in_err-test-clause-grows : goal.if_in-returns-in_err-test-clause-grows
if_in-returns-in_err-test-clause-grows g t c = c.own_in.ensures.grows

pub if_in-returns-in_err-yes-clause-grows : goal.if_in-returns-in_err-yes-clause-grows
if_in-returns-in_err-yes-clause-grows g t c =
    let l0 = list_of c.args.cells.now in
    let l1 = list_of c.own_in.new.cells in
    let l2 = list_of c.branches.new.cells in
    grows-then l0 l1 l2 c.in_ok-test.ensures.grows c.branches.ensures.grows

pub if_in-returns-in_err-statement_in-clause-grows : goal.if_in-returns-in_err-statement_in-clause-grows
if_in-returns-in_err-statement_in-clause-grows g t c =
    let l0 = list_of c.args.cells.now in
    let l1 = list_of c.own_in.new.cells in
    let l2 = list_of c.branches.new.cells in
    let l3 = list_of c.statement_in.new.cells in
    grows-then l0 l1 l3 c.in_ok-test.ensures.grows (grows-then l1 l2 l3 c.in_ok-yes.ensures.grows c.statement_in.ensures.grows)

pub if_in-returns-clause-grows : goal.if_in-returns-clause-grows
if_in-returns-clause-grows g t c =
    let l0 = list_of c.args.cells.now in
    let l1 = list_of c.own_in.new.cells in
    let l2 = list_of c.branches.new.cells in
    let l3 = list_of c.statement_in.new.cells in
    let l4 = list_of c.statement_in-2.new.cells in
    grows-then l0 l1 l4 c.in_ok-test.ensures.grows (grows-then l1 l2 l4 c.in_ok-yes.ensures.grows (grows-then l2 l3 l4 c.in_ok-statement_in.ensures.grows c.statement_in-2.ensures.grows))

pub statement_in-returns-in-Nop-clause-grows : goal.statement_in-returns-in-Nop-clause-grows
statement_in-returns-in-Nop-clause-grows g t c = grows-same (list_of c.args.cells.now)

pub statement_in-returns-in-Seq-clause-grows : goal.statement_in-returns-in-Seq-clause-grows
statement_in-returns-in-Seq-clause-grows g t c = c.list_in.ensures.grows

pub statement_in-returns-in-If-clause-grows : goal.statement_in-returns-in-If-clause-grows
statement_in-returns-in-If-clause-grows g t c = c.if_in.ensures.grows

pub statement_in-returns-in-Case-clause-grows : goal.statement_in-returns-in-Case-clause-grows
statement_in-returns-in-Case-clause-grows g t c = c.case_in.ensures.grows

pub statement_in-returns-in-Set-clause-grows : goal.statement_in-returns-in-Set-clause-grows
statement_in-returns-in-Set-clause-grows g t c = c.set_in.ensures.grows

pub statement_in-returns-in-Later-clause-grows : goal.statement_in-returns-in-Later-clause-grows
statement_in-returns-in-Later-clause-grows g t c = c.later_in.ensures.grows
