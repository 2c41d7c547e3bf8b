use Rattle.std.proofs.Common.{◌≡◌, ◌+◌, ◌*◌, List, [], length, sym, ap, ◌∙◌, arith, subst}
use Rattle.vl_design.specs.Trees.{flat_of}
use Rattle.vl_design.specs.Width.{names_of}
use Rattle.cell_emit.specs.cell_form.specs.Views.{list_of}
use Rattle.cell_emit.specs.Envs.{Env, env_of, Fits}
use Rattle.cell_emit.proofs.Staying.{fits-stays}
use Rattle.cell_emit.specs.declared.pending.Site.{Site}
use Rattle.cell_emit.specs.Pendings.{PendingSlots, slots_of, ArePending}
use Rattle.ten_form.specs.sub_split.specs.Views.{segment_view}
use Rattle.ten_form.specs.declared.store.Store.{Store}
use Rattle.std.specs.List.{AllByRecursion}
use Rattle.cell_waves.specs.Reading.{HasStore, Reads}
use Rattle.cell_waves.proofs.Lengths.{longer-few}
use Rattle.ten_form.specs.Banks.{stores_after}
use Rattle.cell_states.specs.Mades.{Starts}
use Rattle.cell_states.specs.Segments.{DoesSegment}
use Rattle.cell_states.proofs.Storing.{pending-read}
use Rattle.cell_states.proofs.run.up_to_segment.Goals as goal

pub copied-requires : goal.copied-requires
copied-requires c = c.requires.base.sites

pub read-requires-clause-memories : goal.read-requires-clause-memories
read-requires-clause-memories c = rw c.as_slice.ensures c.requires.memories

pub segment_in-requires-clause-fits : goal.segment_in-requires-clause-fits
segment_in-requires-clause-fits c =
    let names = names_of (flat_of c.args.design.now) in
    let l1 = list_of c.read.new.cells in
    subst (λ (a : Env). Fits names l1 a) (sym c.in_ok-after.ensures.at)
    (fits-stays names (list_of c.args.cells.now) l1 (env_of c.args.base.now.begun.at) c.in_ok-read.ensures.grows c.requires.base.fits)

pub segment_in-requires-clause-first : goal.segment_in-requires-clause-first
segment_in-requires-clause-first c = ap (λ (a : Env). a.first) c.in_ok-after.ensures.at ∙ c.requires.base.first

pub segment_in-requires-clause-many : goal.segment_in-requires-clause-many
segment_in-requires-clause-many c = ap (λ (p : PendingSlots). length p.update) c.in_ok-after.ensures.pending ∙ c.requires.base.many

pub segment_in-requires-clause-pending : goal.segment_in-requires-clause-pending
segment_in-requires-clause-pending c =
    let d = flat_of c.args.design.now in
    let l0 = list_of c.args.cells.now in
    let l1 = list_of c.read.new.cells in
    let p0 = slots_of c.args.base.now.begun.pending in
    let above = c.args.above.now in
    let sites = c.read.new.sites.items in
    let reads = rw c.as_slice.ensures at c.in_ok-read.ensures.reads in
    let none : c.in_ok-after.after.pending.sites.items ≡ [] = ap (λ (p : PendingSlots). p.sites) c.in_ok-after.ensures.pending ∙ c.requires.base.sites in
    let from-none = subst (λ (ss : List Site). Reads d.rows above l0 l1 ss sites) none reads in
    subst (λ (p : PendingSlots). ArePending (names_of d) l1 (record p { sites = sites })) (sym c.in_ok-after.ensures.pending)
    (pending-read d l0 l1 above p0 sites c.in_ok-read.ensures.grows from-none c.requires.memories c.requires.base.pending)

pub returns-clause-starts : goal.returns-clause-starts
returns-clause-starts c n e =
    let d = flat_of c.args.design.now in
    let g = segment_view c.args.segment.now in
    let l0 = list_of c.args.cells.now in
    let l1 = list_of c.read.new.cells in
    let l2 = list_of c.segment_in.new.cells in
    let p0 = slots_of c.args.base.now.begun.pending in
    let above = c.args.above.now in
    let at0 = env_of c.args.base.now.begun.at in
    let reads = rw c.as_slice.ensures at c.in_ok-read.ensures.reads in
    let none : c.in_ok-after.after.pending.sites.items ≡ [] = ap (λ (p : PendingSlots). p.sites) c.in_ok-after.ensures.pending ∙ c.requires.base.sites in
    let sites = c.read.new.sites.items in
    let at1 = env_of c.segment_in.new.begun.at in
    let p1 = slots_of c.segment_in.new.begun.pending in
    let ticks = c.in_ok-ticks.ticks in
    let all = subst (λ (xs : List Store). Reads d.rows xs l0 l1 [] sites) e (subst (λ (ss : List Site). Reads d.rows above l0 l1 ss sites) none reads) in
    let few0 = c.requires.base.few in
    let few1 = longer-few (λ z. AllByRecursion (HasStore z) (stores_after d (n + 1))) (4 * length (stores_after d (n + 1))) l0 l1 all.longer in
    let few2 = c.in_ok-ticks.ensures.does.few in
    let same : c.in_ok-earlier.earlier.items ≡ sites = c.in_ok-earlier.ensures.items ∙ c.as_slice-2.ensures.value in
    subst (λ (ss : List Site). Starts d c.args.base.now.order.now (n + 1) g l2 at0 at1 p0 p1 ss ticks) (sym same)
    (record {
      first = l0;
      second = l1;
      begins = c.requires.base;
      reads = all;
      few = omega (arith, few0, few1, few2);
      does = subst (λ (p : PendingSlots). DoesSegment d g at0 at1 (record p { sites = sites }) p1 l1 l2 ticks) c.in_ok-after.ensures.pending
          (subst (λ (a : Env). DoesSegment d g a at1 (record (slots_of c.in_ok-after.after.pending) { sites = sites }) p1 l1 l2 ticks) c.in_ok-after.ensures.at c.in_ok-ticks.ensures.does);
    })
