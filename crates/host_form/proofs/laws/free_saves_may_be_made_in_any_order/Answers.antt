use Rattle.host_form.proofs.Reordered.{any-order}
use Rattle.host_form.proofs.laws.free_saves_may_be_made_in_any_order.Goals as goal

pub returns : goal.returns
returns c = λ o free others k saved h a. any-order o free others h a
