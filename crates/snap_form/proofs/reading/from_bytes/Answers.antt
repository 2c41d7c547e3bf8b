use Rattle.std.proofs.Common.{ap, subst, ◌∙◌, arith}
use Rattle.snap_form.specs.Reading.{read, Tells}
use Rattle.snap_form.proofs.Whole.{is_found, read_again}
use Rattle.snap_form.proofs.reading.from_bytes.Goals as goal

pub returns-clause-found : goal.returns-clause-found
returns-clause-found c = is_found c.args.rows.now c.args.files.now c.args.bytes.now c.outcome_of.result (λ i. omega (arith, c.type_inv.bytes i)) c.outcome_of.ensures

pub returns-clause-only : goal.returns-clause-only
returns-clause-only c = λ x h e. subst (λ q. Tells c.outcome_of.result q) (ap (read c.args.rows.now c.args.files.now) e ∙ read_again c.args.rows.now c.args.files.now x c.requires h) c.outcome_of.ensures
