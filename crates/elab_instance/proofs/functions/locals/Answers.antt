use Rattle.std.proofs.Common.{◌≡◌, ◌<◌, ◌≤◌, get_or, length, map, ap, ◌∙◌, arith}
use Rattle.elab_plain.specs.vl_flat.specs.Scopes.{none}
use Rattle.elab_constant.specs.Seen.{look}
use Rattle.elab_kinds.specs.Facts.{body_facts_of}
use Rattle.elab_instance.specs.Variables.{seen_variable, with_own}
use Rattle.elab_instance.proofs.Locals.{frame-scope, locals-all, locals-turn, look-empty}
use Rattle.elab_instance.proofs.functions.locals.Goals as goal

pub loop-variable-init : goal.loop-variable-init
loop-variable-init c =
    ap (λ z. with_own (look c.args.names.now) (body_facts_of c.args.frame.now.roles) c.args.behind z (map seen_variable c.args.frame.now.variables.items)) (look-empty c.new-locals.result c.new-locals.ensures.empty)

pub loop-variable-preserved : goal.loop-variable-preserved
loop-variable-preserved c =
    let vs = c.args.frame.now.variables.items in
    let i = c.loop-variable.variable-index in
    let v = c.variable-item.result in
    let env = look c.args.names.now in
    let told = body_facts_of c.args.frame.now.roles in
    let below : i < length vs = omega (arith, ap length c.as_slice-variable-items.ensures.value) in
    let is : v ≡ get_or vs i v = c.variable-item.is ∙ ap (λ xs. get_or xs i v) c.as_slice-variable-items.ensures.value in
    locals-turn env (look c.loop-variable.locals) (look c.add_local.new.locals) told c.loop-variable.number c.in_ok-number.number (with_own env told c.args.behind none (map seen_variable vs)) vs i v
    below is c.in_ok-add_local.ensures c.in_ok-number.ensures c.loop-variable.invariant

pub returns-clause-table : goal.returns-clause-table
returns-clause-table c =
    let vs = c.args.frame.now.variables.items in
    let env = look c.args.names.now in
    let told = body_facts_of c.args.frame.now.roles in
    let all : length vs ≤ c.loop-variable.variable-index = omega (arith, ap length c.as_slice-variable-items.ensures.value) in
    locals-all env (look c.loop-variable.locals) told c.loop-variable.number (with_own env told c.args.behind none (map seen_variable vs)) vs c.loop-variable.variable-index all c.loop-variable.invariant

pub returns-clause-function : goal.returns-clause-function
returns-clause-function c =
    let vs = c.args.frame.now.variables.items in
    let env = look c.args.names.now in
    let told = body_facts_of c.args.frame.now.roles in
    let all : length vs ≤ c.loop-variable.variable-index = omega (arith, ap length c.as_slice-variable-items.ensures.value) in
    λ a f. frame-scope env (look c.loop-variable.locals) c.args.behind c.args.frame.now a f
    (locals-all env (look c.loop-variable.locals) told c.loop-variable.number (with_own env told c.args.behind none (map seen_variable vs)) vs c.loop-variable.variable-index all c.loop-variable.invariant)
