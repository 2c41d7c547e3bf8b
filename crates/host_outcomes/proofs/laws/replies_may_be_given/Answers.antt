use Rattle.host_outcomes.proofs.Answering.{replies-given}
use Rattle.host_outcomes.proofs.laws.replies_may_be_given.Goals as goal

pub returns : goal.returns
returns c = λ s tenants refusals readies labels starts orders out histories ys limits count begun o asked sees comes says.
    replies-given s tenants refusals readies labels starts orders out histories ys limits count begun o asked sees comes says
