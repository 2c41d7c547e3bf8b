use Rattle.std.proofs.Common.{ℕ, ◌+◌, ◌∷◌, ap, ◌∙◌, sym}
use Rattle.std.specs.Prelude.{slice_index}
use Rattle.vl_design.specs.Trees.{arg_of}
use Rattle.vl_design.specs.Formats.{items_in}
use Rattle.vl_design.specs.Costs.{saturated}
use Rattle.vl_cost.specs.Displays.{shown_cells}
use Rattle.vl_cost.proofs.Showing.{shown-text}
use Rattle.vl_cost.proofs.displays.alone.Goals as goal

pub returns-in-Str : goal.returns-in-Str
returns-in-Str c = λ others.
    let body : ℕ → ℕ = λ f. slice_index c.args.bodies.now f in
    ap (λ n. saturated (c.args.sum + shown_cells body n others)) (c.items_in.ensures ∙ ap items_in c.as_slice.ensures)
    ∙ sym (ap (λ n. saturated (c.args.sum + n)) (ap (λ a. shown_cells body 0 (arg_of a ∷ others)) c.in-Str.is ∙ shown-text body c.in-Str.text others))
