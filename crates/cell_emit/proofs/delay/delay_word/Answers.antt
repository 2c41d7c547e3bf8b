use Rattle.std.proofs.Common.{sym, subst, ap, ◌∙◌, [], ◌∷◌}
use Rattle.std.proofs.lemmas.List.{map-append}
use Rattle.cell_form.specs.Views.{list_of}
use Rattle.cell_emit.proofs.Frames.{grows-then}
use Rattle.cell_emit.specs.Paths.{low_of}
use Rattle.cell_emit.proofs.Staying.{always-stays}
use Rattle.cell_emit.specs.declared.pending.Site.{Site}
use Rattle.cell_emit.specs.Pendings.{slots_of, memories_of}
use Rattle.cell_emit.specs.Delays.{stored_in, Delays}
use Rattle.cell_emit.proofs.Storing.{delays-word}
use Rattle.cell_emit.proofs.delay.delay_word.Goals as goal

pub assigned-requires-clause-zero : goal.assigned-requires-clause-zero
assigned-requires-clause-zero c = always-stays (list_of c.args.cells.now) (list_of c.ones.new.cells) c.args.here 0 c.in_ok-set.ensures.grows c.requires.here.there c.requires.zero

pub assigned-requires-2-clause-zero : goal.assigned-requires-2-clause-zero
assigned-requires-2-clause-zero c =
    let l0 = list_of c.args.cells.now in
    let l1 = list_of c.ones.new.cells in
    let l2 = list_of c.assigned.new.cells in
    always-stays l0 l2 c.args.here 0 (grows-then l0 l1 l2 c.in_ok-set.ensures.grows c.in_ok-value.ensures.grows) c.requires.here.there c.requires.zero

pub returns-clause-delays : goal.returns-clause-delays
returns-clause-delays c names can =
    let l0 = list_of c.args.cells.now in
    let l1 = list_of c.ones.new.cells in
    let l2 = list_of c.assigned.new.cells in
    let l3 = list_of c.assigned-2.new.cells in
    let p = slots_of c.args.pending.now in
    let done = delays-word names p c.args.memory c.args.wide c.args.here c.args.enable c.args.word (low_of c.args.low) c.args.part c.in_ok-set.set c.in_ok-value.value c.in_ok-mask.mask l0 l1 l2 l3 can
    c.requires.low c.requires.part c.requires.here.there c.requires.zero c.requires.enable c.requires.word c.in_ok-set.ensures.gives c.in_ok-value.ensures.gives c.in_ok-mask.ensures.gives in
    subst (λ xs. Delays names 7 (λ b. stored_in b l0 c.args.memory c.args.enable c.args.word (low_of c.args.low) c.args.part) c.args.here p (record { update = p.update; mask = p.mask; sites = xs }) l0 l3)
    (sym c.in_ok-push.ensures.items) done

pub returns-clause-sites : goal.returns-clause-sites
returns-clause-sites c =
    let before = c.args.pending.now.sites.items in
    let x : Site = record { memory = c.args.memory; enable = c.args.enable; word = c.args.word; value = c.in_ok-value.value; mask = c.in_ok-mask.mask } in
    ap memories_of c.in_ok-push.ensures.items ∙ map-append (λ (y : Site). y.memory) before (x ∷ [])
