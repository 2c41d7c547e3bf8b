use Rattle.std.proofs.Common.{◌≡◌, ℕ, Bool, length, IfOk, ap, ◌∙◌, subst}
use Rattle.vl_scope.specs.vl_tree.specs.Hierarchy.{is_top, first_from, first_top}
use Rattle.vl_scope.specs.Faults.{earliest}
use Rattle.vl_names.specs.HierarchyFaults.{top_faults}
use Rattle.vl_names.specs.Walks.{is_unmarked}
use Rattle.vl_names.proofs.tops.note_all_tops.Goals as goal

pub returns : goal.returns
returns c =
    let graph = c.args.graph.now in
    let ms = c.args.modules.now in
    let best = c.args.best in
    let marks = c.deref.result.now in
    let tops : is_unmarked marks ≡ is_top graph = ap is_unmarked c.deref.ensures.value ∙ c.in_ok-marks.ensures.tops in
    let all : length marks ≡ length graph = ap length c.deref.ensures.value ∙ c.in_ok-marks.ensures.same_length in
    let whole : earliest best (top_faults (is_unmarked marks) (first_from (is_unmarked marks) 0 (length marks)) ms) ≡ earliest best (top_faults (is_top graph) (first_top graph) ms) =
    ap (λ (top : ℕ → Bool). earliest best (top_faults top (first_from top 0 (length marks)) ms)) tops
    ∙ ap (λ n. earliest best (top_faults (is_top graph) (first_from (is_top graph) 0 n) ms)) all in
    subst (λ y. IfOk c.note_unmarked.result (λ r. r ≡ y)) whole c.note_unmarked.ensures
