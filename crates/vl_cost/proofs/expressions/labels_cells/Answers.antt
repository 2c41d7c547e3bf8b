use Rattle.std.proofs.Common.{◌≡◌, ◌<◌, ◌+◌, ℕ, List, length, drop, get_or, sym, ap, ◌∙◌, arith}
use Rattle.std.specs.Prelude.{slice_index}
use Rattle.std.proofs.lemmas.List.{at_drop_more}
use Rattle.vl_design.specs.declared.design.Expr.{Expr}
use Rattle.vl_design.specs.Cost.{exp_cells, labels_cells}
use Rattle.vl_design.specs.Trees.{exp_of, exps_of}
use Rattle.vl_design.specs.Costs.{saturated}
use Rattle.vl_cost.proofs.expressions.labels_cells.Goals as goal

-- one label more
label-more : (body : ℕ → ℕ) (es : List Expr) (i : ℕ) (e : Expr) (all cells label next whole : ℕ) → i < length es → e ≡ get_or es i e → cells ≡ saturated (exp_cells body (exp_of e)) → label ≡ saturated (3 + cells) → next ≡ saturated (all + label) →
    saturated (all + labels_cells body (exps_of (drop i es))) ≡ whole → saturated (next + labels_cells body (exps_of (drop (i + 1) es))) ≡ whole
label-more body es i e all cells label next whole h is k m n inv =
    let o : labels_cells body (exps_of (drop i es)) ≡ exp_cells body (exp_of e) + 3 + labels_cells body (exps_of (drop (i + 1) es)) =
    at_drop_more (λ z. labels_cells body (exps_of z)) es i e h ∙ ap (λ y. exp_cells body (exp_of y) + 3 + labels_cells body (exps_of (drop (i + 1) es))) (sym is) in
    omega (arith, o, k, m, n, inv)

pub loop-e-preserved : goal.loop-e-preserved
loop-e-preserved c =
    let n = c.plus-all.ensures in
    record {
      small = omega (arith, n);
      rest = label-more (λ (f : ℕ). slice_index c.args.bodies.now f) c.args.es.now c.loop-e.e-index c.e-item.result c.loop-e.all c.exp_cells.result c.plus-label.result c.plus-all.result _ c.loop-e-test.true c.e-item.is c.exp_cells.ensures c.plus-label.ensures n c.loop-e.invariant.rest;
    }
