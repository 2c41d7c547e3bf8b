use Rattle.std.proofs.Common.{◌≡◌, map, ap, ◌∙◌, sym, subst}
use Rattle.std.specs.Prelude.{IfOk}
use Rattle.elab_plain.specs.vl_flat.specs.Surface as x
use Rattle.vl_design.specs.Placed as p
use Rattle.elab_plain.specs.vl_flat.specs.Targets as lefts
use Rattle.vl_design.specs.Seen.{target_of}
use Rattle.elab_plain.specs.Seen.{selects_before}
use Rattle.elab_plain.specs.SeenStatements.{seen_left}
use Rattle.elab_constant.specs.Seen.{seen_scope}
use Rattle.elab_expr.specs.Walked as n
use Rattle.elab_expr.proofs.Sides.{row-targets, left-list}
use Rattle.elab_expr.proofs.targets.+target.Goals as goal

pub target-returns-in-Name : goal.target-returns-in-Name
target-returns-in-Name t c =
    let s = seen_scope c.args.scope.now in
    let at = c.in-Name.at in
    let name = c.in-Name.name in
    let P : p.Target → Type 0 = λ z. IfOk c.written.result (λ b. target_of b ≡ z) in
    subst P
    (ap (λ o. lefts.named s at o (selects_before c.as_slice-in-Name.result.now x.NoSelects)) (c.meaning-known.ensures ∙ ap s.names c.as_slice.ensures)
    ∙ (ap (λ ss. lefts.named s at (s.names name) (selects_before ss x.NoSelects)) c.as_slice-in-Name.ensures.value
    ∙ sym (ap (λ z. lefts.target s (seen_left z)) c.in-Name.is)))
    c.written.ensures

pub target-returns-in_ok-parts-in-List : goal.target-returns-in_ok-parts-in-List
target-returns-in_ok-parts-in-List t c =
    let s = seen_scope c.args.scope.now in
    ap (p.Several c.in-List.at) (row-targets s c.in_ok-parts-in-List.parts c.in-List.parts.items (c.in_ok-parts-in-List.ensures ∙ ap (map (n.seen_target s)) c.as_slice-in-List.ensures.value))
    ∙ sym (ap (lefts.target s) (ap seen_left c.in-List.is ∙ left-list c.in-List.at c.in-List.parts))
