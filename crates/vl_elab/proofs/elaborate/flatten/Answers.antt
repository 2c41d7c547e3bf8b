use Rattle.std.proofs.Common.{◌≡◌, ℕ, ◌<◌, length, Option, Some, ap, sym, ◌∙◌, subst}
use Rattle.std.specs.Prelude.{IfSome, slice_get}
use Rattle.std.specs.Option.{option_and_then}
use Rattle.elab_plain.specs.vl_tree.specs.Hierarchy.{first_top, graph_of}
use Rattle.elab_plain.specs.vl_flat.specs.Declarations.{module', modules}
use Rattle.elab_plain.specs.vl_flat.specs.Items.{Module}
use Rattle.elab_plain.specs.vl_flat.specs.Outcome.{flattened_by}
use Rattle.vl_sound.specs.Meeting.{Meets}
use Rattle.vl_elab.proofs.Tops.{at-number, same-length}
use Rattle.vl_elab.proofs.elaborate.flatten.Goals as goal

pub flatten_top-requires : goal.flatten_top-requires
flatten_top-requires c = subst (λ (o : Option ℕ). IfSome o (λ n. n < length c.args.source.now.modules)) c.in-Some.is c.in_ok-top.ensures.within

pub returns-in-Some : goal.returns-in-Some
returns-in-Some c = λ apart.
    let s = c.args.source.now in
    let first : first_top (graph_of s) ≡ Some c.in-Some.number = sym c.in_ok-top.ensures.number ∙ c.in-Some.is in
    let below : c.in-Some.number < length s.modules = subst (λ (o : Option ℕ). IfSome o (λ n. n < length s.modules)) c.in-Some.is c.in_ok-top.ensures.within in
    let found = at-number (modules s) c.in-Some.number (subst (λ n. c.in-Some.number < n) (sym (same-length module' s.modules)) below) in
    subst (λ (o : Option Module). Meets c.flatten_top.result (flattened_by (modules s) o)) (sym (ap (option_and_then (slice_get (modules s))) first ∙ found.1)) (c.flatten_top.ensures found.0 found.1 apart)
