use Rattle.std.proofs.Common.{◌≡◌, ◌+◌, List, [], ◌∷◌, drop, get_or, sym, ◌∙◌, subst}
use Rattle.std.proofs.lemmas.List.{at_drop_more, at_drop_all}
use Rattle.ten_form.specs.vl_design.specs.Trees.{flat_of}
use Rattle.cell_emit.specs.cell_form.specs.Views.{list_of}
use Rattle.cell_emit.proofs.Frames.{grows-same, grows-then}
use Rattle.cell_emit.specs.Envs.{env_of}
use Rattle.cell_waves.proofs.Passing.{Left, left-none, left-more, left-all, below-at}
use Rattle.cell_waves.proofs.pass.pass.Goals as goal

pub evaluate-requires-clause-there : goal.evaluate-requires-clause-there
evaluate-requires-clause-there c = below-at _ c.args.order.now c.loop-number.number-index 0 c.requires.there c.loop-number-test.true

pub loop-number-init : goal.loop-number-init
loop-number-init c = record {
  grows = grows-same (list_of c.args.cells.now);
  fits = c.requires.fits;
  first = c.requires.first;
  left = left-none (flat_of c.args.design.now) c.args.order.now (env_of c.args.at.now) (list_of c.args.cells.now);
}

pub loop-number-preserved : goal.loop-number-preserved
loop-number-preserved c =
    let d = flat_of c.args.design.now in
    let order = c.args.order.now in
    let i = c.loop-number.number-index in
    let l = c.loop-number.invariant in
    let at0 = env_of c.args.at.now in
    let at1 = env_of c.loop-number.at in
    let at2 = env_of c.evaluate.new.at in
    let l0 = list_of c.args.cells.now in
    let l1 = list_of c.loop-number.cells in
    let l2 = list_of c.evaluate.new.cells in
    let left : drop i order ≡ get_or order i 0 ∷ drop (i + 1) order = at_drop_more (λ xs. xs) order i 0 c.loop-number-test.true in
    let before = subst (λ xs. Left d order xs at0 at1 l0 l1) left l.left in
    let p = c.in_ok-evaluate.ensures.passes in
    record {
      grows = grows-then l0 l1 l2 l.grows c.in_ok-evaluate.ensures.grows;
      fits = p.fits;
      first = p.keeps.first ∙ l.first;
      left = left-more d (get_or order i 0) order (drop (i + 1) order) at0 at1 at2 l0 l1 l2 before p;
    }

pub returns-clause-passes : goal.returns-clause-passes
returns-clause-passes c =
    let d = flat_of c.args.design.now in
    let order = c.args.order.now in
    let l = c.loop-number.invariant in
    let at0 = env_of c.args.at.now in
    let at1 = env_of c.loop-number.at in
    let l0 = list_of c.args.cells.now in
    let l1 = list_of c.loop-number.cells in
    let none : drop c.loop-number.number-index order ≡ [] = at_drop_all (λ xs. xs) order c.loop-number.number-index c.loop-number-test.false in
    left-all d order at0 at1 l0 l1 l.fits (subst (λ xs. Left d order xs at0 at1 l0 l1) none l.left)
