use Rattle.std.proofs.Common.{◌∙◌, ap, refl}
use Rattle.ten_shell.specs.Shells.{run_of}
use Rattle.ten_shell.proofs.Standing.{rest-keeps}
use Rattle.ten_shell.proofs.laws.a_shell_at_rest_is_at_a_boundary.Goals as goal

pub returns-clause-boundary : goal.returns-clause-boundary
returns-clause-boundary c = λ s b n i w r.
    let law = c.a_run_at_rest_is_at_a_boundary.ensures in
    let q = law.boundary (run_of s) w.order n i w.running r.rests in
    let count = law.count (run_of s) w.order n i w.running r.rests in
    (q.0, q.1, q.2, ap (λ st. st.count) q.2 ∙ count)

pub returns-clause-kept : goal.returns-clause-kept
returns-clause-kept c = λ s b n i w r. rest-keeps s b n i w c.a_run_at_rest_is_at_a_boundary.ensures.boundary r i.state.finished refl

pub returns-clause-ends : goal.returns-clause-ends
returns-clause-ends c = λ s b n i q end w r at why. c.a_run_at_rest_is_at_a_boundary.ensures.ends (run_of s) w.order n i q end w.running r.rests at why
