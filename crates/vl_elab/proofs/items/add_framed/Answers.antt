use Rattle.std.proofs.Common.{refl, sym, ◌∙◌, ◌∷◌, [], map}
use Rattle.elab_plain.specs.vl_flat.specs.Functions as f
use Rattle.vl_design.specs.Seen.{process_of}
use Rattle.elab_plain.specs.SeenItems.{seen_function}
use Rattle.elab_constant.specs.Seen.{look}
use Rattle.vl_elab.specs.Parts.{part}
use Rattle.vl_elab.proofs.Growth.{one-grows, keeps-nothing}
use Rattle.vl_elab.proofs.items.add_framed.Goals as goal

pub returns-in_ok-push_function-in-None : goal.returns-in_ok-push_function-in-None
returns-in_ok-push_function-in-None c = λ frame.
    let old = c.args.making.now in
    let a = seen_function c.args.a.now in
    let env = look c.args.here.names.now in
    let n = c.args.here.behind in
    one-grows old _ (part [] (f.function n env c.args.here.path.now a ∷ []) [] (f.function_faults n env a))
    (sym (c.in_ok-stop.ensures frame) ∙ c.in-None.is)
    refl
    (keeps-nothing old.signals.items)
    (c.in_ok-push_function-in-None.ensures frame)
    (keeps-nothing (map process_of old.processes.items))
