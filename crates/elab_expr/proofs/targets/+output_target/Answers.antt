use Rattle.std.proofs.Common.{◌≡◌, map, ap, ◌∙◌, sym, subst}
use Rattle.std.specs.Prelude.{IfOk}
use Rattle.elab_plain.specs.vl_flat.specs.Surface as x
use Rattle.vl_design.specs.Placed as p
use Rattle.elab_plain.specs.vl_flat.specs.Targets as lefts
use Rattle.elab_plain.specs.vl_flat.specs.Connections.{left_of}
use Rattle.vl_design.specs.Seen.{target_of}
use Rattle.elab_plain.specs.Seen.{seen, selects_before}
use Rattle.elab_plain.proofs.Walks.{named-seen, joined-seen}
use Rattle.elab_constant.specs.Seen.{seen_scope}
use Rattle.elab_expr.specs.Walked as n
use Rattle.elab_expr.proofs.Sides.{row-outputs}
use Rattle.elab_expr.proofs.targets.+output_target.Goals as goal

pub output_target-returns-in-Named : goal.output_target-returns-in-Named
output_target-returns-in-Named t c =
    let s = seen_scope c.args.scope.now in
    let at = c.in-Named.at in
    let name = c.in-Named.name in
    let P : p.Target → Type 0 = λ z. IfOk c.written.result (λ b. target_of b ≡ z) in
    subst P
    (ap (λ o. lefts.named s at o (selects_before c.as_slice-in-Named.result.now x.NoSelects)) (c.meaning-known.ensures ∙ ap s.names c.as_slice.ensures)
    ∙ (ap (λ ss. lefts.named s at (s.names name) (selects_before ss x.NoSelects)) c.as_slice-in-Named.ensures.value
    ∙ sym (ap (λ z. lefts.target s (left_of z)) (ap seen c.in-Named.is ∙ named-seen at name c.in-Named.selects))))
    c.written.ensures

pub output_target-returns-in_ok-parts-in-Joined : goal.output_target-returns-in_ok-parts-in-Joined
output_target-returns-in_ok-parts-in-Joined t c =
    let s = seen_scope c.args.scope.now in
    ap (p.Several c.in-Joined.at) (row-outputs s c.in_ok-parts-in-Joined.parts c.in-Joined.parts.items (c.in_ok-parts-in-Joined.ensures ∙ ap (map (n.seen_output s)) c.as_slice-in-Joined.ensures.value))
    ∙ sym (ap (λ z. lefts.target s (left_of z)) (ap seen c.in-Joined.is ∙ joined-seen c.in-Joined.at c.in-Joined.parts))
