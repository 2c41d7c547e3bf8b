use Rattle.std.proofs.Common.{◌+◌, ◌∷◌, min, ap, ◌∙◌, sym}
use Rattle.vl_design.specs.Trees.{arg_of}
use Rattle.vl_design.specs.Formats.{items_in}
use Rattle.vl_limits.specs.Displays.{shown_count}
use Rattle.vl_limits.specs.Tallies.{counted_of}
use Rattle.vl_limits.proofs.Showing.{shown-text}
use Rattle.vl_limits.proofs.displays.alone.Goals as goal

pub returns-in-Str : goal.returns-in-Str
returns-in-Str c = λ others.
    let t = counted_of c.args.tally.now in
    ap (λ n. min c.args.tally.now.cap (c.args.sum + shown_count t n others)) (c.items_in.ensures ∙ ap items_in c.as_slice.ensures)
    ∙ sym (ap (λ n. min c.args.tally.now.cap (c.args.sum + n)) (ap (λ a. shown_count t 0 (arg_of a ∷ others)) c.in-Str.is ∙ shown-text t c.in-Str.text others))
