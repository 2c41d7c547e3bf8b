use Rattle.std.proofs.Common.{ap, sym, ◌∙◌, List, map}
use Rattle.std.specs.Prelude.{flat_map}
use Rattle.vl_design.specs.declared.stop.Stop.{Stop}
use Rattle.elab_plain.specs.vl_flat.specs.Items.{Local}
use Rattle.elab_plain.specs.vl_flat.specs.Functions as f
use Rattle.elab_plain.specs.vl_flat.specs.Ranges.{type_faults}
use Rattle.elab_plain.specs.vl_flat.specs.Statements.{statement_faults}
use Rattle.vl_design.specs.Stops.{earliest}
use Rattle.elab_plain.specs.SeenItems.{seen_function}
use Rattle.elab_constant.specs.Seen.{look}
use Rattle.elab_instance.specs.Variables.{seen_variable}
use Rattle.vl_design.proofs.Earliest.{earliest-append}
use Rattle.vl_elab.proofs.functions.function_faults.Goals as goal

pub returns : goal.returns
returns c = λ frame.
    let a = seen_function c.args.a.now in
    let env = look c.args.here.names.now in
    let scope = f.function_scope c.args.here.behind env a in
    let own : List Local → List Stop = λ ls. flat_map (λ l. type_faults env l.type l.name.place) ls in
    let variables = c.variables_faults-best.ensures
    ∙ (ap (λ z. earliest c.args.best (own (map seen_variable z))) c.as_slice.ensures.value ∙ ap (λ z. earliest c.args.best (own z)) frame.variables) in
    c.statement_faults.ensures
    ∙ (ap (λ s. earliest c.variables_faults-best.result (statement_faults s a.body)) (c.function_scope.ensures ∙ c.in_ok-own.ensures.function a frame)
    ∙ (ap (λ z. earliest z (statement_faults scope a.body)) variables
    ∙ sym (earliest-append c.args.best (own a.locals) (statement_faults scope a.body))))
