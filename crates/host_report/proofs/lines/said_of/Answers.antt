use Rattle.std.proofs.Common.{List, map, ap, ◌∙◌, subst}
use Rattle.fab_model.specs.declared.transit.Stay.{Stay}
use Rattle.host_files.specs.host_form.specs.Reports.{stay_of}
use Rattle.host_report.specs.Told.{visit_of}
use Rattle.host_report.specs.Orders.{AreInOrder}
use Rattle.host_report.proofs.Saying.{said-of}
use Rattle.host_report.proofs.lines.said_of.Goals as goal

pub returns : goal.returns
returns c = λ e is.
    let stays : List Stay = c.in_ok-ordered.ordered.items in
    let ordered = subst (λ (ys : List Stay). AreInOrder stays ys) c.as_slice.ensures.value c.in_ok-ordered.ensures in
    let listed = c.from_vec-2.ensures ∙ c.in_ok-stays.ensures ∙ ap (λ (ys : List Stay). map (stay_of c.args.script.now) (map visit_of ys)) c.as_slice-2.ensures.value in
    said-of c.args.script.now c.args.name.now e c.args.ending is stays _ _ _ ordered c.in_ok-name.ensures c.from_vec.ensures listed
