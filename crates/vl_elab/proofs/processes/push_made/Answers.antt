use Rattle.std.proofs.Common.{◌≡◌, ap, ◌∙◌, ◌++◌, ◌∷◌, [], map, IfOk, subst}
use Rattle.std.proofs.lemmas.List.{map-append}
use Rattle.vl_design.specs.Seen.{process_of}
use Rattle.vl_elab.proofs.processes.push_made.Goals as goal

pub returns-in_ok-push-in-Ok : goal.returns-in_ok-push-in-Ok
returns-in_ok-push-in-Ok c = λ p made.
    let xs = c.args.all.now.items in
    let is = subst (λ r. IfOk r (λ a. process_of a ≡ p)) c.in-Ok.is made in
    ap (map process_of) c.in_ok-push-in-Ok.ensures.items
    ∙ (map-append process_of xs (c.in-Ok.process ∷ [])
    ∙ ap (λ z. map process_of xs ++ z ∷ []) is)
