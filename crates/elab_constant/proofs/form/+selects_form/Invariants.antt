use Rattle.std.proofs.Common.{length}
use Rattle.elab_constant.proofs.form.+selects_form.Given as goal

abbrev pub decreases-selects_form : goal.decreases-selects_form
decreases-selects_form l = length l.selects.now
