use Rattle.std.proofs.Common.{ap, ◌∙◌, ◌++◌, ◌∷◌, [], map}
use Rattle.std.proofs.lemmas.List.{map-append}
use Rattle.vl_design.specs.Seen.{func_of}
use Rattle.vl_elab.proofs.items.push_function.Goals as goal

pub returns : goal.returns
returns c = λ frame.
    let xs = c.args.all.now.items in
    ap (map func_of) c.in_ok-push.ensures.items
    ∙ (map-append func_of xs (c.in_ok-function.field-0 ∷ [])
    ∙ ap (λ z. map func_of xs ++ z ∷ []) (c.in_ok-function.ensures frame))
