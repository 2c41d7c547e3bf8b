use Rattle.std.proofs.Common.{refl, sym, ap, ◌∙◌, arith}
use Rattle.vl_design.specs.declared.design.Func.{Func}
use Rattle.vl_cost.specs.Walks.{next_cells}
use Rattle.vl_cost.proofs.Settled.{cells-kept, cells-replaced}
use Rattle.vl_cost.proofs.passes.replace.Goals as goal

pub returns-then-number-funcs : goal.returns-then-number-funcs
returns-then-number-funcs c = λ n h. cells-kept c.args.funcs.now c.requires c.args.table.now.items n h

pub returns : goal.returns
returns c =
    cells-replaced c.args.funcs.now c.requires c.args.table.now.items c.as_slice.result.now _ c.args.number c.stm_cells-cells.result c.index-funcs-number.result
    (omega (arith, c.if-number-funcs.false)) c.index-funcs-number.is (c.stm_cells-cells.ensures ∙ sym (ap (λ (g : Func). next_cells c.as_slice.result.now g) c.index-funcs-number.is)) c.as_slice.ensures.value refl
