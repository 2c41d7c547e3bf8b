use Rattle.std.proofs.Common.{ap, sym, ◌∙◌, ◌++◌, ◌∷◌, [], map, take, append_assoc}
use Rattle.std.proofs.lemmas.List.{map-append}
use Rattle.elab_plain.specs.vl_flat.specs.Processes as p
use Rattle.vl_design.specs.Seen.{process_of}
use Rattle.elab_plain.specs.SeenItems.{seen_setting}
use Rattle.vl_elab.specs.Standing.{seen_here}
use Rattle.vl_elab.proofs.Steps.{map-more}
use Rattle.vl_elab.proofs.processes.add_assignments.Goals as goal

pub loop-a-preserved : goal.loop-a-preserved
loop-a-preserved c =
    let make = p.assignment (seen_here c.args.here) in
    let a = c.a-item.result in
    let xs = c.args.list.now in
    let i = c.loop-a.a-index in
    let old = map process_of c.args.all.now.items in
    let before = map seen_setting (take i xs) in
    c.in_ok-push_made.ensures (make (seen_setting a)) c.assignment.ensures
    ∙ (ap (λ z. z ++ make (seen_setting a) ∷ []) c.loop-a.invariant
    ∙ (append_assoc old (map make before) (make (seen_setting a) ∷ [])
    ∙ ap (λ z. old ++ z) (sym (ap (map make) (map-more seen_setting xs i a c.loop-a-test.true c.a-item.is) ∙ map-append make before (seen_setting a ∷ [])))))
