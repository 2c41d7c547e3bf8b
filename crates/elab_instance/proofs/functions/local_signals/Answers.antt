use Rattle.std.proofs.Common.{◌≡◌, ◌<◌, ◌≤◌, ℕ, List, get_or, length, map, ap, ◌∙◌, arith}
use Rattle.elab_plain.specs.vl_design.specs.declared.design.Signal.{Signal}
use Rattle.elab_plain.specs.vl_flat.specs.Items.{Local}
use Rattle.elab_plain.specs.vl_flat.specs.Functions.{signal}
use Rattle.elab_constant.specs.Seen.{look}
use Rattle.elab_kinds.specs.Facts.{BodyFacts, body_facts, body_facts_of}
use Rattle.elab_instance.specs.Variables.{local_shape, seen_variable}
use Rattle.elab_instance.proofs.Locals.{signals-turn, signals-all}
use Rattle.elab_instance.proofs.functions.local_signals.Goals as goal

pub loop-variable-preserved : goal.loop-variable-preserved
loop-variable-preserved c =
    let vs = c.args.frame.now.variables.items in
    let i = c.loop-variable.variable-index in
    let v = c.variable-item.result in
    let env = look c.args.names.now in
    let told = body_facts_of c.args.frame.now.roles in
    let below : i < length vs = omega (arith, ap length c.as_slice-variable-items.ensures.value) in
    let is : v ≡ get_or vs i v = c.variable-item.is ∙ ap (λ xs. get_or xs i v) c.as_slice-variable-items.ensures.value in
    signals-turn (λ l. signal c.args.path.now l.name (local_shape env told l)) c.loop-variable.signals.items c.push.new.self.items vs i v c.in_ok-signal.field-0 below is
    c.in_ok-push.ensures.items
    (c.in_ok-signal.ensures ∙ ap (signal c.args.path.now v.name.now) c.local_shape-shape.ensures)
    c.loop-variable.invariant

pub returns-clause-table : goal.returns-clause-table
returns-clause-table c =
    let vs = c.args.frame.now.variables.items in
    let all : length vs ≤ c.loop-variable.variable-index = omega (arith, ap length c.as_slice-variable-items.ensures.value) in
    signals-all (λ l. signal c.args.path.now l.name (local_shape (look c.args.names.now) (body_facts_of c.args.frame.now.roles) l)) c.loop-variable.signals.items vs c.loop-variable.variable-index all c.loop-variable.invariant

pub returns-clause-function : goal.returns-clause-function
returns-clause-function c =
    let vs = c.args.frame.now.variables.items in
    let all : length vs ≤ c.loop-variable.variable-index = omega (arith, ap length c.as_slice-variable-items.ensures.value) in
    let seen : (List ℕ → BodyFacts) → Local → Signal = λ told l. signal c.args.path.now l.name (local_shape (look c.args.names.now) told l) in
    λ a f. signals-all (seen (body_facts_of c.args.frame.now.roles)) c.loop-variable.signals.items vs c.loop-variable.variable-index all c.loop-variable.invariant
    ∙ ap (λ (told : List ℕ → BodyFacts). map (seen told) (map seen_variable vs)) f.roles
    ∙ ap (map (seen (body_facts a.body))) f.variables
