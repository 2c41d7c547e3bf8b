use Rattle.std.proofs.Common.{ap, sym, subst, ◌∙◌}
use Rattle.host_form.specs.fab_io.specs.Memory.{files_of}
use Rattle.host_text.specs.Reading.{reading}
use Rattle.host_files.specs.Reading.{IsAvailable}
use Rattle.host_run.proofs.Dues.{due-shown-of}
use Rattle.host_run.proofs.due.due_of_demo.Goals as goal

pub due_of_demo_bytes-requires-after_bounds : goal.due_of_demo_bytes-requires-after_bounds
due_of_demo_bytes-requires-after_bounds g c κs within =
    let h = c.the_demonstration_can_be_run.ensures c.args.tenants c.requires.some c.requires.few in
    (h.0, ap reading (c.deref.ensures.value ∙ c.in_ok-text.ensures) ∙ h.1, subst (λ files. IsAvailable files h.0) (sym c.in_ok-store.ensures) h.2)

pub returns-clause-shown : goal.returns-clause-shown
returns-clause-shown g c =
    due-shown-of c.due_of_demo_bytes.result (files_of c.in_ok-store.store.files) c.args.tenants c.deref.result.now (c.deref.ensures.value ∙ c.in_ok-text.ensures) c.in_ok-store.ensures
    c.due_of_demo_bytes.ensures.summed
