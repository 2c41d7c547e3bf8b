use Rattle.std.proofs.Common.{◌≡◌, ℕ, map, ap, ◌∙◌}
use Rattle.std.specs.declared.alloc.Global.{Global}
use Rattle.std.specs.declared.vec.Vec.{Vec}
use Rattle.elab_plain.specs.vl_flat.specs.Items as x
use Rattle.elab_plain.specs.vl_flat.specs.Functions as f
use Rattle.elab_instance.specs.Variables.{seen_variable, IsFrame}
use Rattle.elab_instance.proofs.Steps.{if-ok-map}
use Rattle.elab_instance.proofs.functions.input_numbers.Goals as goal

pub returns-clause-table : goal.returns-clause-table
returns-clause-table c = if-ok-map
    (λ (numbers : Vec ℕ Global). numbers.items ≡ f.input_numbers c.args.behind (map seen_variable c.as_slice.result.now))
    (λ (numbers : Vec ℕ Global). numbers.items ≡ f.input_numbers c.args.behind (map seen_variable c.args.frame.now.variables.items))
    c.numbers_of.result
    (λ numbers h. h ∙ ap (λ z. f.input_numbers c.args.behind (map seen_variable z)) c.as_slice.ensures.value)
    c.numbers_of.ensures

pub returns-clause-function : goal.returns-clause-function
returns-clause-function c = if-ok-map
    (λ (numbers : Vec ℕ Global). numbers.items ≡ f.input_numbers c.args.behind (map seen_variable c.as_slice.result.now))
    (λ (numbers : Vec ℕ Global). (a : x.Function) → IsFrame c.args.frame.now a → numbers.items ≡ f.input_numbers c.args.behind a.locals)
    c.numbers_of.result
    (λ numbers h a k. h ∙ ap (f.input_numbers c.args.behind) (ap (map seen_variable) c.as_slice.ensures.value ∙ k.variables))
    c.numbers_of.ensures
