use Rattle.std.proofs.Common.{◌∙◌, [], refl}
use Rattle.std.proofs.lemmas.Result.{IfOk-weaker}
use Rattle.vl_design.specs.Functions.{scope_of}
use Rattle.vl_design.specs.Trees.{exp_of, flat_of}
use Rattle.vl_design.specs.Value.{own_value}
use Rattle.vl_design.specs.Width.{names_of, form}
use Rattle.cell_emit.specs.cell_form.specs.Views.{list_of}
use Rattle.cell_emit.specs.Slots.{width_at}
use Rattle.cell_emit.proofs.Frames.{in-stays, grows-then, width-stays}
use Rattle.cell_emit.specs.Envs.{env_of}
use Rattle.cell_expr.specs.Counts.{exp_count, body_cells}
use Rattle.cell_calls.proofs.Nexting.{holds-branch}
use Rattle.cell_calls.proofs.next.branch.Goals as goal

pub mux-requires-clause-test : goal.mux-requires-clause-test
mux-requires-clause-test c =
    let l1 = list_of c.own.new.cells in
    let l2 = list_of c.number.new.cells in
    let l3 = list_of c.number-2.new.cells in
    in-stays l1 l3 c.in_ok-holds.holds (grows-then l1 l2 l3 c.in_ok-yes.ensures.grows c.in_ok-no.ensures.grows) (c.in_ok-holds.ensures.gives []).slot.there

pub returns-clause-holds : goal.returns-clause-holds
returns-clause-holds c =
    let d = flat_of c.args.design.now in
    let e = exp_of c.args.test.now in
    let l1 = list_of c.own.new.cells in
    let l2 = list_of c.number.new.cells in
    let l3 = list_of c.number-2.new.cells in
    IfOk-weaker c.mux.result _ _ (λ r g files.
    holds-branch (names_of d) (env_of c.args.at.now) (exp_count (body_cells d) e) (form (names_of d) e).width (width_at l3 c.in_ok-yes.yes) (λ x. own_value (scope_of d files) x e) (list_of c.args.cells.now) l1 l2 l3 (list_of c.mux.new.cells)
    c.in_ok-holds.holds c.in_ok-yes.yes c.in_ok-no.no r c.args.first c.args.second c.requires.fits (c.in_ok-holds.ensures.gives files) c.in_ok-yes.ensures.gives c.in_ok-no.ensures.gives
    (width-stays l2 l3 c.in_ok-yes.yes c.in_ok-no.ensures.grows c.in_ok-yes.ensures.gives.there ∙ c.in_ok-yes.ensures.gives.width) g) c.mux.ensures.gives
