use Rattle.std.proofs.Common.{sym, ap, ◌∙◌, ◌++◌, ◌∷◌, [], map}
use Rattle.std.specs.Prelude.{option_map}
use Rattle.std.specs.Option.{option_map_or}
use Rattle.std.proofs.lemmas.Result.{IfOk-weaker}
use Rattle.elab_plain.specs.vl_flat.specs.Processes as p
use Rattle.vl_design.specs.Seen.{process_of}
use Rattle.elab_plain.specs.Seen.{seen}
use Rattle.elab_plain.specs.SeenItems.{seen_declared}
use Rattle.vl_elab.specs.Standing.{seen_here}
use Rattle.vl_elab.proofs.processes.add_value.Goals as goal

pub returns-in_ok-push_made : goal.returns-in_ok-push_made
returns-in_ok-push_made c = λ type.
    let xs = map process_of c.args.all.now.items in
    let value = p.value_process (seen_here c.args.here) (seen_declared type c.args.d.now) in
    c.in_ok-push_made.ensures (value (seen c.in-Some.e)) (IfOk-weaker c.value_process.result _ _ (λ a made. made type) c.value_process.ensures)
    ∙ sym (ap (λ o. xs ++ option_map_or (λ e. value e ∷ []) (option_map seen o) []) c.in-Some.is)
