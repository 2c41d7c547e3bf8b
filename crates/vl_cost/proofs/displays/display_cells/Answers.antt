use Rattle.std.proofs.Common.{◌≡◌, ◌<◌, ◌+◌, ◌∷◌, ℕ, List, length, map, drop, get_or, sym, ap, ◌∙◌, arith}
use Rattle.std.specs.Prelude.{slice_index}
use Rattle.std.proofs.lemmas.List.{at_drop_all, at_drop_more}
use Rattle.vl_design.specs.declared.design.SysArg.{SysArg}
use Rattle.vl_design.specs.Formats.{Arg}
use Rattle.vl_design.specs.Trees.{arg_of}
use Rattle.vl_design.specs.Costs.{saturated}
use Rattle.vl_cost.specs.Displays.{shown_cells}
use Rattle.vl_cost.proofs.Showing.{shown-none}
use Rattle.vl_cost.proofs.displays.display_cells.Goals as goal

-- one argument more
shown-more : (body : ℕ → ℕ) (given : List SysArg) (i : ℕ) (a : SysArg) (cells taken cells' taken' whole : ℕ) → i < length given → a ≡ get_or given i a →
    ((others : List Arg) → saturated (cells' + shown_cells body taken' others) ≡ saturated (cells + shown_cells body taken (arg_of a ∷ others))) →
    saturated (cells + shown_cells body taken (map arg_of (drop i given))) ≡ whole → saturated (cells' + shown_cells body taken' (map arg_of (drop (i + 1) given))) ≡ whole
shown-more body given i a cells taken cells' taken' whole h is k inv =
    k (map arg_of (drop (i + 1) given))
    ∙ (sym (at_drop_more (λ z. saturated (cells + shown_cells body taken (map arg_of z))) given i a h ∙ ap (λ y. saturated (cells + shown_cells body taken (arg_of y ∷ map arg_of (drop (i + 1) given)))) (sym is))
    ∙ inv)

pub loop-a-preserved : goal.loop-a-preserved
loop-a-preserved c =
    shown-more (λ (f : ℕ). slice_index c.args.bodies.now f) c.args.given.now c.loop-a.a-index c.a-item.result c.loop-a.all.cells c.loop-a.all.taken c.shown-all.result.cells c.shown-all.result.taken _ c.loop-a-test.true c.a-item.is c.shown-all.ensures c.loop-a.invariant

pub returns : goal.returns
returns c =
    let body : ℕ → ℕ = λ f. slice_index c.args.bodies.now f in
    let i = at_drop_all (λ xs. shown_cells body c.loop-a.all.taken (map arg_of xs)) c.args.given.now c.loop-a.a-index c.loop-a-test.false in
    let n = shown-none body c.loop-a.all.taken in
    let h = c.loop-a.invariant in
    let m = c.missing_cells.ensures in
    omega (arith, i, n, h, m)
