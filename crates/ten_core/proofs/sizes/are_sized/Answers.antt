use Rattle.std.proofs.Common.{List, sym, subst}
use Rattle.std.specs.Prelude.{All}
use Rattle.std.proofs.lemmas.List.Elements.{All-from_recursion, recursion_from_All}
use Rattle.vl_design.specs.declared.design.Signal.{Signal}
use Rattle.vl_design.specs.Trees.{row_of}
use Rattle.ten_core.specs.Holding.{IsSized}
use Rattle.ten_core.proofs.Adding.{signals-sized, rows-sized}
use Rattle.ten_core.proofs.sizes.are_sized.Goals as goal

pub returns : goal.returns
returns c =
    let P : Signal → Type 0 = λ x. IsSized (row_of x) in
    let F : List Signal → Type 0 = λ xs. All P xs in
    let signals = c.args.design.now.signals in (
      λ t. rows-sized signals (recursion_from_All P signals (subst F c.as_slice.ensures (c.all_sized.ensures.0 t))),
      λ h. c.all_sized.ensures.1 (subst F (sym c.as_slice.ensures) (All-from_recursion P signals (signals-sized signals h))),
    )
