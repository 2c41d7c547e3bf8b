use Rattle.std.proofs.Common.{◌≡◌, true, false, ◌∷◌, ap, ◌∙◌, sym}
use Rattle.std.specs.Prelude.{if◌then◌else◌}
use Rattle.vl_design.specs.declared.stop.Stop.TheVariants.{Construct}
use Rattle.vl_design.specs.Stops.{earliest}
use Rattle.elab_plain.specs.vl_flat.specs.Scopes.{plainly}
use Rattle.elab_plain.specs.vl_flat.specs.ExpressionFaults.{faults}
use Rattle.elab_plain.specs.vl_flat.specs.Targets.{target_faults}
use Rattle.elab_plain.specs.vl_flat.specs.Connections.{left_of, are_nets}
use Rattle.elab_plain.specs.Seen.{seen}
use Rattle.elab_constant.specs.Seen.{look}
use Rattle.elab_faults.proofs.outputs.output_faults.Goals as goal

pub returns-then-are_nets : goal.returns-then-are_nets
returns-then-are_nets c =
    let n = look c.args.names.now in
    let e = seen c.args.e.now in
    let at = c.args.at in
    let h : are_nets n e ≡ true = sym (c.are_nets.ensures ∙ ap (λ s. are_nets s.names e) c.module_scope-scope.ensures) ∙ c.if-are_nets.true in
    c.faults_as_left.ensures
    ∙ (ap (λ s. earliest c.args.best (target_faults s (left_of e))) c.module_scope-scope.ensures
    ∙ sym (ap (λ b. earliest c.args.best (if b then target_faults (plainly n) (left_of e) else Construct at 13 ∷ faults (plainly n) e)) h))

pub returns-else-are_nets : goal.returns-else-are_nets
returns-else-are_nets c =
    let n = look c.args.names.now in
    let e = seen c.args.e.now in
    let at = c.args.at in
    let h : are_nets n e ≡ false = sym (c.are_nets.ensures ∙ ap (λ s. are_nets s.names e) c.module_scope-scope.ensures) ∙ c.if-are_nets.false in
    c.faults.ensures
    ∙ (ap (λ s. earliest c.earlier-first.result (faults s e)) c.module_scope-scope.ensures
    ∙ (ap (λ b. earliest b (faults (plainly n) e)) c.earlier-first.ensures
    ∙ sym (ap (λ b. earliest c.args.best (if b then target_faults (plainly n) (left_of e) else Construct at 13 ∷ faults (plainly n) e)) h)))
