use Rattle.std.proofs.Common.{ap, ◌∙◌, map}
use Rattle.elab_plain.specs.vl_flat.specs.Functions as f
use Rattle.elab_plain.specs.vl_flat.specs.Statements.{statement}
use Rattle.vl_design.specs.Seen.{stm_of}
use Rattle.elab_plain.specs.SeenItems.{seen_function}
use Rattle.elab_constant.specs.Seen.{look}
use Rattle.vl_elab.proofs.Same.{same-func}
use Rattle.vl_elab.proofs.functions.function.Goals as goal

pub returns : goal.returns
returns c = λ frame.
    let a = seen_function c.args.a.now in
    let env = look c.args.here.names.now in
    let n = c.args.here.behind in
    let path = c.args.here.path.now in
    let named = c.in_ok-name.ensures ∙ ap (f.dotted path) c.as_slice.ensures in
    let inputs = c.from_vec.ensures ∙ c.in_ok-inputs.ensures.function a frame in
    let locals = c.from_vec-2.ensures ∙ (c.in_ok-signals.ensures.function a frame ∙ ap (λ p. map (λ l. f.signal p l.name (f.local_shape env a l)) a.locals) (c.as_slice-2.ensures ∙ named)) in
    let body = c.in_ok-body.ensures frame in
    same-func c.args.a.now.name.place n c.in_ok-name.name (f.dotted path a.name.name) c.from_vec.result (f.input_numbers n a.locals)
    c.from_vec-2.result (map (λ l. f.signal (f.dotted path a.name.name) l.name (f.local_shape env a l)) a.locals) (stm_of c.in_ok-body.body) (statement (f.function_scope n env a) a.body)
    named inputs locals body
